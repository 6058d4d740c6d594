use Rattle.trace_io.proofs.ApartLemmas.{one_first_fault}
use Rattle.trace_io.proofs.laws.first_faults_are_one.Goals as goal

pub returns : goal.returns
returns c = one_first_fault c.first_rows_are_one.ensures
