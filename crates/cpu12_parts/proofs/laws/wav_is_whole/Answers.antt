use Rattle.cpu12_parts.proofs.WavParts.{wav_is_whole}
use Rattle.cpu12_parts.proofs.laws.wav_is_whole.Goals as goal

pub returns : goal.returns
returns c = wav_is_whole
