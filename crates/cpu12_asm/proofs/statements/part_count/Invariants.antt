use Rattle.std.proofs.Common.{◌≡◌, ◌≤◌, ◌+◌, length}
use Rattle.cpu12_asm.specs.{Left.pieces_left, Left.size_left, Statements.part_count}
use Rattle.cpu12_asm.proofs.statements.part_count.Given as goal

abbrev pub invariant-loop-left : goal.invariant-loop-left
invariant-loop-left l = record {
  same : l.count + length (pieces_left 0x2C l.left) ≡ part_count l.text;
  bound : l.count + size_left l.left ≤ length l.text + 1;
}

abbrev pub decreases-loop-left : goal.decreases-loop-left
decreases-loop-left l = size_left l.left
