use Rattle.std.proofs.Common.{◌≡◌, length}
use Rattle.run_forms.specs.RunRests.{rest_here, IsUnderWay}
use Rattle.run_forms.proofs.run_state.drive.Given as goal

-- the rows and the last state to come are those of the whole run
abbrev pub invariant-loop-m : goal.invariant-loop-m
invariant-loop-m g l = record {
  under_way : IsUnderWay g.F.SampleForm.fits (g.F.SampleForm.harness l.form) l.plan l.p;
  rows : (rest_here l.fn.m.flags (g.F.SampleForm.harness l.form) l.plan l.p l.m.state).rows
      ≡ (rest_here l.fn.m.flags (g.F.SampleForm.harness l.form) l.plan l.fn.p l.fn.m.state).rows;
  state : (rest_here l.fn.m.flags (g.F.SampleForm.harness l.form) l.plan l.p l.m.state).state
      ≡ (rest_here l.fn.m.flags (g.F.SampleForm.harness l.form) l.plan l.fn.p l.fn.m.state).state;
  flags : l.m.flags ≡ l.fn.m.flags;
}

abbrev pub decreases-loop-m : goal.decreases-loop-m
decreases-loop-m g l = length (rest_here l.fn.m.flags (g.F.SampleForm.harness l.form) l.plan l.p l.m.state).later
