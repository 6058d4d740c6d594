use Rattle.trace_io.proofs.RowLemmas.{first_rows}
use Rattle.trace_io.proofs.laws.each_text_has_first_rows.Goals as goal

pub returns : goal.returns
returns c = first_rows
