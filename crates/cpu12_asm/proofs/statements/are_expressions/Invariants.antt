use Rattle.std.proofs.Common.{◌≡◌, ◌≤◌, ◌+◌, ◌^◌}
use Rattle.std.specs.List.{list_all}
use Rattle.cpu12_asm.specs.{Left.pieces_left, Left.size_left, Statements.is_expression, Statements.are_expressions}
use Rattle.cpu12_asm.proofs.statements.are_expressions.Given as goal

abbrev pub invariant-loop-left : goal.invariant-loop-left
invariant-loop-left l = record {
  same : list_all is_expression (pieces_left 0x2C l.left) ≡ are_expressions l.text;
  bound : size_left l.left ≤ 2 ^ 32 + 1;
}

abbrev pub decreases-loop-left : goal.decreases-loop-left
decreases-loop-left l = size_left l.left
