use Rattle.firmware_code.proofs.{runs.Arriving.arrive, runs.Arriving.arrive_alike}
use Rattle.firmware_code.proofs.runs.Founding.{frame_calls_and_leaves}
use Rattle.firmware_code.proofs.laws.frames_lead.Goals as goal

pub returns : goal.returns
returns c = record { arrives = arrive; alike = arrive_alike; turns = frame_calls_and_leaves }
