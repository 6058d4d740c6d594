use Rattle.std.proofs.Common.{◌≡◌, ◌≤◌, ◌-◌, length, drop}
use Rattle.cpu12_emul.specs.Step.{SameMachine}
use Rattle.run_law.specs.Forms.{takes}
use Rattle.run_forms.specs.{Forms.plan_form, Rest.with_before}
use Rattle.run_forms.proofs.sample.take_due.Given as goal

abbrev pub invariant-loop-m : goal.invariant-loop-m
invariant-loop-m g l = record {
  takes : with_before ((g.F.SampleForm.harness l.form).notes.frames l.fn.t.notes)
      ((g.F.SampleForm.harness l.form).notes.told l.fn.t.notes)
      (takes (plan_form l.fn.m.flags (g.F.SampleForm.harness l.form).parts) l.fn.t.moment
      (drop l.fn.t.next l.requests) l.fn.m.state)
      ≡ with_before ((g.F.SampleForm.harness l.form).notes.frames l.t.notes)
      ((g.F.SampleForm.harness l.form).notes.told l.t.notes)
      (takes (plan_form l.fn.m.flags (g.F.SampleForm.harness l.form).parts) l.fn.t.moment
      (drop l.t.next l.requests) l.m.state);
  next : (l.fn.t.next ≤ l.t.next) × (l.t.next ≤ length l.requests);
  room : g.F.SampleForm.fits l.t.notes (length l.requests - l.t.next);
  rest : l.t ≡ record (l.fn.t) { next = l.t.next; notes = l.t.notes };
  machine : SameMachine l.fn.m l.m;
}

abbrev pub decreases-loop-m : goal.decreases-loop-m
decreases-loop-m g l = length l.requests - l.t.next
