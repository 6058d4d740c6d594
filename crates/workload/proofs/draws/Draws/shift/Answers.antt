use Rattle.workload.proofs.DrawLemmas.{draw_at, state_after_one}
use Rattle.workload.proofs.draws.Draws.shift.Goals as goal

pub returns-clause-state : goal.returns-clause-state
returns-clause-state c = λ number n here.
    state_after_one number n c.args.self.now.state c.below.new.self.state here c.below.ensures.state

pub returns-clause-value : goal.returns-clause-value
returns-clause-value c = λ number n here.
    draw_at number n 5 c.args.self.now.state c.below.new.self.state c.below.result here c.below.ensures.state
    c.below.ensures.value
