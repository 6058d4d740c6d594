use Rattle.cpu12_emul.proofs.Stepping.{wav_is_step}
use Rattle.cpu12_emul.proofs.laws.wav_is_step.Goals as goal

pub returns : goal.returns
returns c = wav_is_step
