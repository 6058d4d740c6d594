use Rattle.std.proofs.Common.{◌≡◌, ◌++◌, map, take}
use Rattle.point_slope.specs.Tables.{row_of}
use Rattle.point_slope.proofs.rows.push_rows.Given as goal

abbrev pub invariant-loop-term : goal.invariant-loop-term
invariant-loop-term l = l.rows.items ≡ l.initial.rows.items ++ map (row_of l.input) (take l.term-index l.term-items)
