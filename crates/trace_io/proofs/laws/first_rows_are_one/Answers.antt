use Rattle.trace_io.proofs.RowLemmas.{one_list}
use Rattle.trace_io.proofs.laws.first_rows_are_one.Goals as goal

pub returns : goal.returns
returns c = one_list
