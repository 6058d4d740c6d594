use Rattle.std.proofs.Common.{◌≡◌, length}
use Rattle.std.specs.List.{find}
use Rattle.cpu12_asm.specs.Statements.{is_named_by}
use Rattle.cpu12_asm.proofs.statements.first_encoding.Given as goal

abbrev pub invariant-loop-rows : goal.invariant-loop-rows
invariant-loop-rows l = find (is_named_by l.word l.text) l.rows ≡ find (is_named_by l.word l.text) l.fn.rows

abbrev pub decreases-loop-rows : goal.decreases-loop-rows
decreases-loop-rows l = length l.rows
