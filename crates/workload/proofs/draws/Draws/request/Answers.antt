use Rattle.std.proofs.Common.{◌≡◌, ◌+◌}
use Rattle.workload.specs.Draws.{state_after}
use Rattle.workload.proofs.DrawLemmas.{draw_at, state_after_one, state_after_two, state_after_three}
use Rattle.workload.proofs.draws.Draws.request.Goals as goal

pub returns-clause-state : goal.returns-clause-state
returns-clause-state c = λ number n here.
    state_after_three number n c.args.self.now.state c.below-moment.new.self.state c.below-at.new.self.state
    c.below-value.new.self.state here
    c.below-moment.ensures.state c.below-at.ensures.state c.below-value.ensures.state

pub returns-clause-value : goal.returns-clause-value
returns-clause-value c = λ number n here.
    let second : c.below-moment.new.self.state ≡ state_after number (n + 1) =
    state_after_one number n c.args.self.now.state c.below-moment.new.self.state here c.below-moment.ensures.state in
    let third : c.below-at.new.self.state ≡ state_after number (n + 2) =
    state_after_two number n c.args.self.now.state c.below-moment.new.self.state c.below-at.new.self.state here
    c.below-moment.ensures.state c.below-at.ensures.state in
    let moment = draw_at number n 456 c.args.self.now.state c.below-moment.new.self.state c.below-moment.result here
    c.below-moment.ensures.state c.below-moment.ensures.value in
    let at = draw_at number (n + 1) 2016 c.below-moment.new.self.state c.below-at.new.self.state
    c.below-at.result second
    c.below-at.ensures.state c.below-at.ensures.value in
    let value = draw_at number (n + 2) 256 c.below-at.new.self.state c.below-value.new.self.state
    c.below-value.result third
    c.below-value.ensures.state c.below-value.ensures.value in
    λ i. (moment i, at i, value i)
