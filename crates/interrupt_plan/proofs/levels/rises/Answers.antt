use Rattle.interrupt_plan.proofs.LevelLemmas.{rises_as}
use Rattle.interrupt_plan.proofs.levels.rises.Goals as goal

pub returns : goal.returns
returns c = rises_as c.args.moments.now c.is_sorted.result c.is_sorted.ensures.cases
