use Rattle.cpu12_parts.specs.{Parts.wav, Laws.AreKept}
use Rattle.cpu12_parts.proofs.Cutting.{cuts_change_nothing}
use Rattle.cpu12_parts.proofs.laws.wav_cuts.Goals as goal

pub returns : goal.returns
returns c = cuts_change_nothing c.writes_agree.ensures wav AreKept c.wav_goes_on.ensures c.wav_steady.ensures
