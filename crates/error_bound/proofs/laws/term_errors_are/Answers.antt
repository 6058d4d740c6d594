use Rattle.error_bound.proofs.Literals.{term_errors-are}
use Rattle.error_bound.proofs.laws.term_errors_are.Goals as goal

pub returns : goal.returns
returns c = term_errors-are
