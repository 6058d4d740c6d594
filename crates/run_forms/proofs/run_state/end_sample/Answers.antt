use Rattle.std.proofs.Common.{◌≡◌, ◌<◌, ◌-◌, ◌∙◌, ◌++◌, ◌∷◌, [], map, sym, ap, arith}
use Rattle.std.specs.Prelude.{if◌then◌else◌, is_ok, Some, length}
use Rattle.std.proofs.lemmas.List.{map-append}
use Rattle.run_forms.specs.{Rest.counted_at, Rest.shown_by, RunRests.sample_at, RunRests.with_row, RunRests.left_by}
use Rattle.run_forms.proofs.RunRests.{is_there, sample_before}
use Rattle.run_forms.proofs.run_state.end_sample.Goals as goal

pub returns-clause-rows : goal.returns-clause-rows
returns-clause-rows g c =
    let a = c.args in
    let h = g.F.SampleForm.harness a.form.now in
    let rows = a.rows.now.items in
    let row = c.row-row.result in
    let some : 0 < a.number = (let n = c.if-number-eq0.false in omega (arith, n)) in
    let within : a.number - 1 < length h.samples = (let n = c.requires.number in omega (arith, some, n)) in
    let y = is_there h.samples (a.number - 1) within in
    let at : sample_at a.number h.samples ≡ Some y.sample = sample_before a.number h.samples some ∙ y.at in
    let items : c.push.new.self.items ≡ rows ++ row ∷ [] =
    c.push.ensures.items ∙ ap (λ r. if is_ok r then rows ++ row ∷ [] else rows) c.unwrap.ensures in
    ap (map h.seen) items
    ∙ map-append h.seen rows (row ∷ [])
    ∙ ap (λ x. map h.seen rows ++ x ∷ []) (c.row-row.ensures y.sample y.at)
    ∙ ap (λ o. with_row (map h.seen rows) (shown_by h.shows h.parts.answers (counted_at h.notes a.counts a.m.now.state))
    o) (sym at)

pub returns-clause-state : goal.returns-clause-state
returns-clause-state g c =
    let a = c.args in
    let h = g.F.SampleForm.harness a.form.now in
    let some : 0 < a.number = (let n = c.if-number-eq0.false in omega (arith, n)) in
    let within : a.number - 1 < length h.samples = (let n = c.requires.number in omega (arith, some, n)) in
    let y = is_there h.samples (a.number - 1) within in
    let at : sample_at a.number h.samples ≡ Some y.sample = sample_before a.number h.samples some ∙ y.at in
    c.leave.ensures.state y.sample y.at ∙ ap (λ o. left_by h.parts.leave o a.m.now.state) (sym at)
