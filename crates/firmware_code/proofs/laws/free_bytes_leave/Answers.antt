use Rattle.firmware_code.proofs.runs.FreeBytes.{free_leaves}
use Rattle.firmware_code.proofs.laws.free_bytes_leave.Goals as goal

pub returns : goal.returns
returns c = free_leaves
