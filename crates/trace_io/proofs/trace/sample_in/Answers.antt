use Rattle.std.proofs.Common.{sym, ◌∙◌, ap}
use Rattle.std.specs.Prelude.{List, Some, length}
use Rattle.fz_num.specs.declared.dec.Dec.{Dec}
use Rattle.trace_io.specs.Traces.{miscounted, outside, unread}
use Rattle.trace_io.proofs.TraceLemmas.{decimals_count}
use Rattle.trace_io.proofs.trace.sample_in.Goals as goal

pub returns-then-len-inputs-clause-fault : goal.returns-then-len-inputs-clause-fault
returns-then-len-inputs-clause-fault c = λ _. miscounted (λ e. c.if-len-inputs.true (c.len.ensures ∙ e))

pub returns-in-Ok-None-clause-fault : goal.returns-in-Ok-None-clause-fault
returns-in-Ok-None-clause-fault c =
    λ _. unread (sym c.len.ensures ∙ c.if-len-inputs.false) (rw c.in-Ok-None.field-0-is at c.in-Ok-None.ensures)

pub bytes_in-requires-clause-count : goal.bytes_in-requires-clause-count
bytes_in-requires-clause-count c = ap length c.deref.ensures.value
    ∙ decimals_count _ _ (rw c.in-Ok-Some.field-0-is at c.in-Ok-Some.ensures)
    ∙ sym c.len.ensures ∙ c.if-len-inputs.false

pub returns-in-Err-bytes_in-clause-fault : goal.returns-in-Err-bytes_in-clause-fault
returns-in-Err-bytes_in-clause-fault c =
    λ _. outside c.deref.result.now c.in-Err-bytes_in.input (sym c.len.ensures ∙ c.if-len-inputs.false)
    ((rw c.in-Ok-Some.field-0-is at c.in-Ok-Some.ensures) ∙ ap (λ (l : List Dec). Some l) (sym c.deref.ensures.value))
    c.in-Err-bytes_in.ensures.outside
