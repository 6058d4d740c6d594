use Rattle.std.proofs.Common.{◌≡◌, take}
use Rattle.clap.specs.Words.{app_of}
use Rattle.fz_words.proofs.Rows.{app_so_far}
use Rattle.fz_words.proofs.command.Given as goal

abbrev pub invariant-loop-row : goal.invariant-loop-row
invariant-loop-row g l = app_of l.command ≡ app_so_far (take l.row-index l.rows)
