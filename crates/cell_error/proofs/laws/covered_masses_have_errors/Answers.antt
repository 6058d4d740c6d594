use Rattle.cell_error.proofs.Existence.{errors_are}
use Rattle.cell_error.proofs.laws.covered_masses_have_errors.Goals as goal

pub returns : goal.returns
returns c = errors_are
