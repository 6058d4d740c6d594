use Rattle.std.proofs.Common.{◌≡◌, length}
use Rattle.std.specs.Prelude.{IfSome}
use Rattle.fz_list.proofs.Algebra.{AreFilled}
use Rattle.error_bound.specs.Reaches.{AreLiteralsOf}
use Rattle.error_bound.proofs.tables.rule_literals.Given as goal

abbrev pub invariant-loop-k : goal.invariant-loop-k
invariant-loop-k l = (length l.lists.items ≡ l.k)
    × AreFilled (λ _ r o. IfSome o (λ v. AreLiteralsOf l.block r v.items)) l.block.rules l.lists.items l.k
