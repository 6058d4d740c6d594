-- A statement as the code holds it.
-- Beside the promise.
use Rattle.std.specs.Prelude.{Option, Some, None}
use Rattle.cpu12_asm.specs.declared.statements.Statement as held
use Rattle.cpu12_asm.specs.Statements.{Statement}

abbrev pub statement_told : held.Statement → Statement
statement_told s = record { name = s.name.now; action = s.action; operand = s.operand.now }

abbrev pub told : Option held.Statement → Option Statement
told None = None
told (Some s) = Some (statement_told s)
