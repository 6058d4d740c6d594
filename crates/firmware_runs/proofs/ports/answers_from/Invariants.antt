use Rattle.std.proofs.Common.{◌≡◌, ◌+◌, ◌++◌}
use Rattle.arrayvec.specs.ArrayVec.{array_vec_len}
use Rattle.firmware_runs.specs.Ports.{answers_at}
use Rattle.firmware_runs.proofs.ports.answers_from.Given as goal

-- what is there and what is to come are all the answers
abbrev pub invariant-loop-left : goal.invariant-loop-left
invariant-loop-left g l = record {
  answers : l.answers.items ++ answers_at l.width l.left l.at l.m.state.mem ≡ answers_at l.width l.count l.first
      l.m.state.mem;
  room : array_vec_len l.answers + l.left ≡ l.count;
}

abbrev pub decreases-loop-left : goal.decreases-loop-left
decreases-loop-left g l = l.left
