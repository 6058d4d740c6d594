use Rattle.std.proofs.Common.{sym}
use Rattle.command_parts.proofs.NumberLemmas.{no_number}
use Rattle.command_parts.proofs.words.number32_in.Goals as goal

pub returns-in-Err : goal.returns-in-Err
returns-in-Err c =
    no_number c.args.text.now c.in-Err.field-0 c.in-Err.ensures.value.0 (sym c.if-not-are_digits.ensures)
