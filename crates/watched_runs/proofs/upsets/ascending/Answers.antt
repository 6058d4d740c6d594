use Rattle.std.proofs.Common.{List, sym, subst}
use Rattle.interrupt_plan.specs.declared.upsets.Upset.{Upset}
use Rattle.watched_runs.specs.Samples.{AscendThroughout}
use Rattle.watched_runs.proofs.Places.{rise}
use Rattle.watched_runs.proofs.upsets.ascending.Goals as goal

pub returns-clause-ascend : goal.returns-clause-ascend
returns-clause-ascend c =
    subst (λ (us : List Upset). AscendThroughout us) (sym c.as_slice.ensures) (rise c.args.upsets.now c.requires)
