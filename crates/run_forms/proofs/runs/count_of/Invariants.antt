use Rattle.std.proofs.Common.{◌≡◌, ◌+◌, length, drop}
use Rattle.run_forms.specs.Slices.{requests_first}
use Rattle.run_forms.proofs.runs.count_of.Given as goal

-- those before are of the sample
abbrev pub invariant-loop-request : goal.invariant-loop-request
invariant-loop-request g l = record {
  all : l.request-index + length
      (requests_first (g.F.SampleForm.harness l.form).parts.place l.k (drop l.request-index l.requests))
      ≡ length (requests_first (g.F.SampleForm.harness l.form).parts.place l.k l.requests);
  count : l.count ≡ l.request-index;
}
