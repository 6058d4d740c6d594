use Rattle.std.proofs.Common.{◌≡◌, length}
use Rattle.cpu12_emul.specs.Step.{SameMachine}
use Rattle.run_forms.specs.SampleRests.{before_takes, after_takes, IsSteady}
use Rattle.run_forms.proofs.sample_run.run_sample.Given as goal

-- what is to come of the sample is counted as from its first boundary
abbrev pub invariant-loop-m : goal.invariant-loop-m
invariant-loop-m g l = record {
  steady : IsSteady g.F.SampleForm.fits l.requests l.st;
  summary : (after_takes l.fn.m.flags (g.F.SampleForm.harness l.form) l.requests l.st l.m.state).summary
      ≡ (before_takes l.fn.m.flags (g.F.SampleForm.harness l.form) l.requests l.fn.st l.fn.m.state).summary;
  left : (after_takes l.fn.m.flags (g.F.SampleForm.harness l.form) l.requests l.st l.m.state).requests
      ≡ (before_takes l.fn.m.flags (g.F.SampleForm.harness l.form) l.requests l.fn.st l.fn.m.state).requests;
  machine : SameMachine l.fn.m l.m;
}

abbrev pub decreases-loop-m : goal.decreases-loop-m
decreases-loop-m g l = length (after_takes l.fn.m.flags (g.F.SampleForm.harness l.form) l.requests l.st
    l.m.state).states
