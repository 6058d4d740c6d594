use Rattle.std.proofs.Common.{◌≤◌}
use Rattle.cell_error.proofs.Covering.{IsCutsError}
use Rattle.cell_error.proofs.errors.least_error.Given as goal

abbrev pub invariant-loop-t : goal.invariant-loop-t
invariant-loop-t l = record {
  error : IsCutsError l.answer l.terms l.rest l.t-index l.error;
  small : l.error ≤ 1000000;
}
