use Rattle.cpu12_emul.proofs.Taking.{frame_is_on_stack}
use Rattle.cpu12_emul.proofs.laws.frame_is_on_stack.Goals as goal

pub returns : goal.returns
returns c = frame_is_on_stack c.wav_suspends.ensures.running c.wav_suspends.ensures.none
