use Rattle.std.proofs.Common.{◌≡◌}
use Rattle.cpu12_emul.specs.Step.{SameMachine}
use Rattle.run_forms.specs.Rows.{arrival}
use Rattle.run_forms.proofs.runs.arrive.Given as goal

-- what is left of the way leads to the same state as all of it
abbrev pub invariant-loop-left : goal.invariant-loop-left
invariant-loop-left g l = record {
  same : arrival l.m.flags l.loop_at l.left l.m.state ≡ arrival l.fn.m.flags l.loop_at l.budget l.fn.m.state;
  machine : SameMachine l.fn.m l.m;
}

abbrev pub decreases-loop-left : goal.decreases-loop-left
decreases-loop-left g l = l.left
