use Rattle.std.proofs.Common.{take}
use Rattle.interrupt_plan.specs.Rows.{AreFree}
use Rattle.interrupt_plan.proofs.row.first_taken.Given as goal

abbrev pub invariant-loop-write : goal.invariant-loop-write
invariant-loop-write l = AreFree (take l.write-index l.writes)
