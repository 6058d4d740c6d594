use Rattle.std.proofs.Common.{◌≡◌, ◌≤◌, ◌+◌, ◌-◌}
use Rattle.cpu12_emul.specs.Step.{SameMachine}
use Rattle.handler_check.specs.Running.{until_rti, step_limit}
use Rattle.handled_runs.proofs.back.until_rti.Given as goal

-- what is left of the way ends as all of it does, in as many steps with those that were done
abbrev pub invariant-loop-left : goal.invariant-loop-left
invariant-loop-left g l = record {
  state : (until_rti l.m.flags l.left l.m.state).state ≡ (until_rti l.fn.m.flags step_limit l.fn.m.state).state;
  steps : step_limit - l.left + (until_rti l.m.flags l.left l.m.state).steps
      ≡ (until_rti l.fn.m.flags step_limit l.fn.m.state).steps;
  done : (until_rti l.m.flags l.left l.m.state).done ≡ (until_rti l.fn.m.flags step_limit l.fn.m.state).done;
  few : l.left ≤ step_limit;
  machine : SameMachine l.fn.m l.m;
}

abbrev pub decreases-loop-left : goal.decreases-loop-left
decreases-loop-left g l = l.left
