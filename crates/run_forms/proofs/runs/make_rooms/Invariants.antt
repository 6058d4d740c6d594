use Rattle.std.proofs.Common.{◌≡◌, ◌≤◌, ◌-◌, length, drop}
use Rattle.run_forms.specs.Slices.{HaveRoom, requests_after}
use Rattle.run_forms.proofs.runs.make_rooms.Given as goal

-- there is a room for each of the first samples, and the rest of the plan is that of the others
abbrev pub invariant-loop-next : goal.invariant-loop-next
invariant-loop-next g l = record {
  rooms : HaveRoom g.F.SampleForm.fits (g.F.SampleForm.harness l.form).notes
      (g.F.SampleForm.harness l.form).parts.place 1 l.next l.plan l.rooms.items;
  rest : drop l.first l.plan ≡ requests_after (g.F.SampleForm.harness l.form).parts.place 1 l.next l.plan;
  first : l.first ≤ length l.plan;
  next : l.next ≤ l.samples;
}

abbrev pub decreases-loop-next : goal.decreases-loop-next
decreases-loop-next g l = l.samples - l.next
