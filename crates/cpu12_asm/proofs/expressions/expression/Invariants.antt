use Rattle.std.proofs.Common.{◌≡◌, ◌+◌, ◌*◌, ◌^◌, ◌≤◌, fold, length}
use Rattle.cpu12_asm.specs.{Names.value_in, Left.pieces_left, Left.size_left}
use Rattle.cpu12_asm.specs.Expressions.{with_group, sum_of}
use Rattle.cpu12_asm.proofs.expressions.expression.Given as goal

-- the groups that are left give what is wanted
abbrev pub invariant-loop-left : goal.invariant-loop-left
invariant-loop-left l = record {
  same : fold (with_group (value_in l.names)) l.total (pieces_left 0x2B l.left) ≡ sum_of (value_in l.names) l.text;
  bound : l.total.added + l.total.taken + 2 ^ 64 * size_left l.left ≤ 2 ^ 64 * (length l.text + 1);
}

abbrev pub decreases-loop-left : goal.decreases-loop-left
decreases-loop-left l = size_left l.left
