use Rattle.std.proofs.Common.{◌≡◌, false, Ok, arith, ap, sym, ◌∙◌}
use Rattle.cpu12_emul.specs.{Step.Next, Step.Whole, Step.next_of, Run.is_at_rest}
use Rattle.cpu12_emul.proofs.Runs.{StepsTo-more}
use Rattle.cpu12_emul.proofs.machine.Machine.run.Goals as goal

pub loop-budget-preserved : goal.loop-budget-preserved
loop-budget-preserved g c =
    let s = c.args.self.now in
    let before = c.loop-budget.self in
    let next : Next = record { state = c.step.new.self.state; kind = c.in-Ok.field-0 } in
    let free : is_at_rest before.state ≡ false = sym c.loop-budget-test.ensures in
    let step : next_of s.flags before.state ≡ Ok next =
    ap (λ (w : Whole). next_of w.flags before.state) (sym c.loop-budget.invariant.machine) ∙ c.in-Ok.ensures.next in
    record {
      to = StepsTo-more s.flags c.loop-budget.steps s.state before.state next c.loop-budget.invariant.to free step;
      machine = c.step.ensures.machine
          ∙ ap (λ (w : Whole). record w { state = next.state }) c.loop-budget.invariant.machine;
      within = omega arith;
    }
