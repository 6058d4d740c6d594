use Rattle.std.proofs.Common.{◌≤◌, ◌-◌}
use Rattle.cpu12_emul.specs.{Run.StepsTo, Step.SameMachine}
use Rattle.cpu12_emul.proofs.machine.Machine.run.Given as goal

abbrev pub invariant-loop-budget : goal.invariant-loop-budget
invariant-loop-budget g l = record {
  to : StepsTo l.fn.self.flags l.steps l.fn.self.state l.self.state;
  machine : SameMachine l.fn.self l.self;
  within : l.steps ≤ l.budget;
}

abbrev pub decreases-loop-budget : goal.decreases-loop-budget
decreases-loop-budget g l = l.budget - l.steps
