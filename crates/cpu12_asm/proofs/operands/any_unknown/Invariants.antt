use Rattle.std.proofs.Common.{◌≡◌, ◌≤◌, ◌+◌, ◌^◌}
use Rattle.cpu12_asm.specs.{Lines.pieces, Left.pieces_left, Left.size_left, Names.value_in, Giving.any_unknown}
use Rattle.cpu12_asm.proofs.operands.any_unknown.Given as goal

abbrev pub invariant-loop-left : goal.invariant-loop-left
invariant-loop-left l = record {
  same : any_unknown (value_in l.names) (pieces_left 0x2C l.left) ≡ any_unknown (value_in l.names) (pieces 0x2C l.text);
  bound : size_left l.left ≤ 2 ^ 32 + 1;
}

abbrev pub decreases-loop-left : goal.decreases-loop-left
decreases-loop-left l = size_left l.left
