use Rattle.std.proofs.Common.{◌≡◌, ◌+◌, max, subst, arith}
use Rattle.cell_error.proofs.Covering.{IsCutsError, cuts_none, cuts_next, cuts_all}
use Rattle.cell_error.proofs.errors.least_error.Goals as goal

pub loop-t-init : goal.loop-t-init
loop-t-init c = record {
  error = cuts_none c.args.answer c.args.terms.now c.args.rest c.error_at-error.result c.requires.terms
      c.error_at-error.ensures.error;
  small = c.error_at-error.ensures.small;
}

pub loop-t-preserved : goal.loop-t-preserved
loop-t-preserved c =
    let e : max (max c.loop-t.error c.error_at-above.result) c.error_at-below.result ≡ c.max-error.result = cc in
    record {
      error = subst (IsCutsError c.args.answer c.args.terms.now c.args.rest (c.loop-t.t-index + 1)) e
          (cuts_next c.args.answer c.args.terms.now c.args.rest c.loop-t.t-index c.loop-t.error c.error_at-above.result
          c.error_at-below.result (record { at = 0; low = 0; high = 0 }) (omega arith) c.requires.terms
          c.loop-t.invariant.error c.error_at-above.ensures.error c.error_at-below.ensures.error);
      small = omega (arith, c.error_at-above.ensures.small, c.error_at-below.ensures.small);
    }

pub returns-clause-error : goal.returns-clause-error
returns-clause-error c = cuts_all c.args.answer c.args.terms.now c.args.rest c.loop-t.t-index c.loop-t.error
    (let h = c.loop-t-test.false in omega arith) c.requires.terms c.loop-t.invariant.error
