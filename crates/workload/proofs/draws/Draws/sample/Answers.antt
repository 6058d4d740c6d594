use Rattle.std.proofs.Common.{◌≡◌, ◌+◌, ap₂, ℕ}
use Rattle.workload.specs.Draws.{state_after}
use Rattle.workload.proofs.DrawLemmas.{draw_at, state_after_one, state_after_two}
use Rattle.workload.proofs.draws.Draws.sample.Goals as goal

pub returns-clause-state : goal.returns-clause-state
returns-clause-state c = λ number n here.
    state_after_two number n c.args.self.now.state c.below-x.new.self.state c.below-y.new.self.state here
    c.below-x.ensures.state c.below-y.ensures.state

pub returns-clause-value : goal.returns-clause-value
returns-clause-value c = λ number n here.
    let second : c.below-x.new.self.state ≡ state_after number (n + 1) =
    state_after_one number n c.args.self.now.state c.below-x.new.self.state here c.below-x.ensures.state in
    ap₂ (λ (x y : ℕ). (x, y))
    (draw_at number n 2560001 c.args.self.now.state c.below-x.new.self.state c.below-x.result here
    c.below-x.ensures.state c.below-x.ensures.value)
    (draw_at number (n + 1) 2560001 c.below-x.new.self.state c.below-y.new.self.state c.below-y.result second
    c.below-y.ensures.state c.below-y.ensures.value)
