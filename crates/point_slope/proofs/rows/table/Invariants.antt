use Rattle.std.proofs.Common.{◌≡◌, take}
use Rattle.std.specs.List.{flat_map}
use Rattle.point_slope.specs.Tables.{rows_of}
use Rattle.point_slope.proofs.rows.table.Given as goal

abbrev pub invariant-loop-input : goal.invariant-loop-input
invariant-loop-input l = l.rows.items ≡ flat_map rows_of (take l.input-index l.input-items)
