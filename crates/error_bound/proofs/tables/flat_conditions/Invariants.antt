use Rattle.std.proofs.Common.{◌≡◌, length}
use Rattle.error_bound.specs.Flattening.{flat}
use Rattle.fz_list.proofs.Algebra.{AreFilled}
use Rattle.error_bound.proofs.tables.flat_conditions.Given as goal

abbrev pub invariant-loop-rule : goal.invariant-loop-rule
invariant-loop-rule l = (length l.conditions.items ≡ l.rule-index)
    × AreFilled (λ _ r c. c ≡ flat r.cond) l.block.rules l.conditions.items l.rule-index
