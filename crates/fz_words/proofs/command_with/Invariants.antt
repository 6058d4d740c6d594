use Rattle.std.proofs.Common.{◌≡◌, drop}
use Rattle.std.specs.Prelude.{option_map}
use Rattle.fz_words.specs.Table.{row_with, rows_of}
use Rattle.fz_words.proofs.Rows.{taking}
use Rattle.fz_words.proofs.command_with.Given as goal

abbrev pub invariant-loop-row : goal.invariant-loop-row
invariant-loop-row g l =
    option_map taking (row_with (rows_of l.rows) l.word) ≡ option_map taking
    (row_with (rows_of (drop l.row-index l.rows)) l.word)
