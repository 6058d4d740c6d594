use Rattle.std.proofs.Common.{◌≡◌, ◌∙◌, ℕ, List, map, ap, ap₂, sym}
use Rattle.std.proofs.lemmas.List.{map-id}
use Rattle.run_law.specs.Forms.{RowSeen}
use Rattle.run_forms.specs.{Rooms.seen_notes, Rest.counted_at, Rest.row_by}
use Rattle.alone_runs.specs.Rows as rows
use Rattle.trace_io.specs.Traces.{input_bytes}
use Rattle.firmware_runs.specs.Ports.{answers_in}
use Rattle.handled_runs.specs.{declared.back.HandlerEnd.HandlerEnd, Forms.HandledSeen, Forms.steps_of}
use Rattle.alone_runs.proofs.Algebra.{got}
use Rattle.handled_runs.proofs.form.HandledFormRunFormRequestNotesHandlerEndHandledRow.row.Goals as goal

pub returns : goal.returns
returns g c = λ x is.
    let a = c.args in
    let t = a.counts in
    let f = a.self.now.firmware.now in
    let told : List HandlerEnd = t.notes.told.items in
    let counted = counted_at (seen_notes (λ (end : HandlerEnd). end)) t a.m.now.state in
    let made : RowSeen (List ℕ) → ℕ → HandledSeen = λ row handler. record { row = row; handler = handler } in
    let bytes : c.as_slice-bytes.result.now ≡ x =
    c.as_slice-bytes.ensures.value
    ∙ sym (got input_bytes a.self.now.samples.now a.k c.index-self-k.result x c.requires.sample is) in
    let row : rows.row_seen c.row_of-row.result.0 ≡ row_by (answers_in f) x counted =
    c.row_of-row.ensures.row
    ∙ ap₂ (λ (bs vs : List ℕ). record (row_by (answers_in f) x counted) { sample = bs; answers = vs }) bytes
    c.answers.ensures in
    let handler : c.steps_in-handler.result ≡ steps_of (map (λ (end : HandlerEnd). end) told) =
    c.steps_in-handler.ensures ∙ ap steps_of (c.as_slice.ensures.value ∙ sym (map-id told)) in
    ap₂ made row handler
