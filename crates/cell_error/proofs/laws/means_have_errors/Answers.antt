use Rattle.cell_error.proofs.MeanLemmas.{errors_of_means}
use Rattle.cell_error.proofs.laws.means_have_errors.Goals as goal

pub returns : goal.returns
returns c = errors_of_means
