use Rattle.cert_check.proofs.AcceptedLemmas.{named_no_cells}
use Rattle.cert_check.proofs.laws.named_certs_have_no_cells.Goals as goal

pub returns : goal.returns
returns c = named_no_cells
