use Rattle.cpu12_parts.proofs.OverCuts.{wav_over_cuts}
use Rattle.cpu12_parts.proofs.laws.wav_over_cuts.Goals as goal

pub returns : goal.returns
returns c = wav_over_cuts c.wav_cuts.ensures c.wav_is_whole.ensures
