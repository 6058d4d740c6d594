use Rattle.std.proofs.Common.{◌≤◌, ◌*◌, ◌+◌, ◌-◌, ◌/◌, sym, subst, arith}
use Rattle.fz_num.specs.Fractions.{over}
use Rattle.cell_error.specs.Cuts.{IsErrorAt}
use Rattle.cell_error.proofs.Withins.{code_is, least_at, small_at}
use Rattle.cell_error.proofs.errors.apart.Goals as goal

small : (c : goal.After-abs_diff)
    → (c.abs_diff.result * 1000000 + (c.from-4.result * c.from-5.result * c.args.mass - 1))
    / (c.from-4.result * c.from-5.result * c.args.mass) ≤ 1000000
small c = subst (λ n. n ≤ 1000000)
    (sym (code_is c.args.answer c.args.sum c.args.mass c.from.result c.from-2.result c.from-3.result c.from-4.result
    c.from-5.result c.abs_diff.result c.from.ensures c.from-2.ensures c.from-3.ensures c.from-4.ensures
    c.from-5.ensures c.abs_diff.ensures))
    (small_at c.args.answer c.args.sum c.args.mass c.requires.answer c.requires.mass_from c.requires.sum)

pub overflow_cast-result : goal.overflow_cast-result
overflow_cast-result c = let h = small c in omega arith

pub returns-clause-error : goal.returns-clause-error
returns-clause-error c = subst (IsErrorAt c.args.answer (over c.args.sum c.args.mass))
    (sym (code_is c.args.answer c.args.sum c.args.mass c.from.result c.from-2.result c.from-3.result c.from-4.result
    c.from-5.result c.abs_diff.result c.from.ensures c.from-2.ensures c.from-3.ensures c.from-4.ensures
    c.from-5.ensures c.abs_diff.ensures))
    (least_at c.args.answer c.args.sum c.args.mass c.requires.answer c.requires.mass_from)

pub returns-clause-small : goal.returns-clause-small
returns-clause-small c = small c
