use Rattle.std.proofs.Common.{◌≡◌, ℕ, ◌+◌, ◌*◌, ◌^◌, ◌≤◌, List, fold, length}
use Rattle.cpu12_asm.specs.{declared.expressions.Sum.Sum, Names.value_in, Left.pieces_left, Left.size_left}
use Rattle.cpu12_asm.specs.Expressions.{term_of, with_term, with_group}
use Rattle.cpu12_asm.proofs.expressions.with_group.Given as goal

-- the terms that are left give what is wanted
abbrev pub invariant-loop-left : goal.invariant-loop-left
invariant-loop-left l = record {
  same : fold (λ (t : Sum) (word : List ℕ). with_term t (term_of (value_in l.names) word)) l.total
      (pieces_left 0x2D l.left) ≡ with_group (value_in l.names) l.fn.sum l.group;
  bound : l.total.added + l.total.taken + 2 ^ 64 * size_left l.left ≤ l.fn.sum.added + l.fn.sum.taken + 2 ^
      64 * (length l.group + 1);
}

abbrev pub decreases-loop-left : goal.decreases-loop-left
decreases-loop-left l = size_left l.left
