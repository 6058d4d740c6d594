use Rattle.trace_io.proofs.ApartLemmas.{spelled_apart}
use Rattle.trace_io.proofs.laws.spelled_traces_have_no_fault.Goals as goal

pub returns : goal.returns
returns c = spelled_apart c.first_rows_are_one.ensures
