use Rattle.cpu12_parts.proofs.Inside.{pushes_running, pushes_none}
use Rattle.cpu12_parts.proofs.laws.wav_suspends.Goals as goal

pub returns : goal.returns
returns c = record { running = pushes_running; none = pushes_none }
