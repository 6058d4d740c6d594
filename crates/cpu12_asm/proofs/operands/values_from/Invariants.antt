use Rattle.std.proofs.Common.{◌≡◌, ◌≤◌, ◌+◌, ◌^◌}
use Rattle.cpu12_asm.specs.{Lines.pieces, Left.pieces_left, Left.size_left, Names.value_in, Giving.values_from}
use Rattle.cpu12_asm.proofs.Valuing.{all_before}
use Rattle.cpu12_asm.proofs.operands.values_from.Given as goal

-- the values so far, before those of the parts that are left
abbrev pub invariant-loop-left : goal.invariant-loop-left
invariant-loop-left l = record {
  same : all_before l.values.items (values_from (value_in l.names) l.limit l.limits.other (pieces_left 0x2C l.left))
      ≡ values_from (value_in l.names) l.limits.first l.limits.other (pieces 0x2C l.text);
  bound : size_left l.left ≤ 2 ^ 32 + 1;
}

abbrev pub decreases-loop-left : goal.decreases-loop-left
decreases-loop-left l = size_left l.left
