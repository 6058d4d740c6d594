use Rattle.std.proofs.Common.{◌≡◌, ◌+◌, ◌-◌, ℕ, length, subst, arith}
use Rattle.run_forms.specs.Forms.{moment_in, plan_form}
use Rattle.run_forms.proofs.Takings.{next_taken, due_within}
use Rattle.run_forms.proofs.sample.take_next.Goals as goal

pub returns-clause-takes : goal.returns-clause-takes
returns-clause-takes g c =
    let t = c.args.t.now in
    let m = c.args.m.now in
    let h = g.F.SampleForm.harness c.args.form.now in
    let request = c.index-requests-t.result in
    let notes = c.take.new.notes in
    next_taken (plan_form m.flags h.parts) t.moment c.args.requests.now t.next request request m.state
    c.take.new.m.state (h.notes.frames t.notes) (h.notes.frames notes) (h.notes.told t.notes) (h.notes.told notes)
    c.requires.due c.index-requests-t.is c.take.ensures.state c.take.ensures.frames c.take.ensures.told

pub take-requires-clause-room : goal.take-requires-clause-room
take-requires-clause-room g c =
    let t = c.args.t.now in
    let h = g.F.SampleForm.harness c.args.form.now in
    let qs = c.args.requests.now in
    let some = due_within (moment_in h.parts.place) t.moment qs t.next c.args.m.now.state c.requires.due in
    let one : length qs - t.next ≡ length qs - t.next - 1 + 1 = omega (arith, some) in
    (length qs - t.next - 1, subst (λ (k : ℕ). g.F.SampleForm.fits t.notes k) one c.requires.room)
