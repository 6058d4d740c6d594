use Rattle.trace_io.proofs.JudgedLemmas.{judged_text}
use Rattle.trace_io.proofs.laws.each_text_is_judged.Goals as goal

pub returns : goal.returns
returns c = judged_text c.each_text_has_first_rows.ensures
