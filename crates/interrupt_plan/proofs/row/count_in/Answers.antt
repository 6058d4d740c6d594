use Rattle.std.proofs.Common.{sym}
use Rattle.interrupt_plan.proofs.PlanLemmas.{count_is}
use Rattle.interrupt_plan.proofs.row.count_in.Goals as goal

pub returns-then-has_digits_only : goal.returns-then-has_digits_only
returns-then-has_digits_only c =
    count_is c.args.field.now c.value_of.result c.value_of.ensures c.if-field-le-MOST_DIGITS.true
    c.if-not-is_empty.ensures (sym c.if-has_digits_only.ensures)
