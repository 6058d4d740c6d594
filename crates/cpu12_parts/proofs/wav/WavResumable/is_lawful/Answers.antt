use Rattle.cpu12_parts.proofs.OverCuts.{wav_makes}
use Rattle.cpu12_parts.proofs.wav.WavResumable.is_lawful.Goals as goal

pub returns-clause-whole : goal.returns-clause-whole
returns-clause-whole c = wav_makes c.wav_is_whole.ensures
