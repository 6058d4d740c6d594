use Rattle.std.proofs.Common.{◌≡◌, ◌<◌, ◌≤◌, ℕ, Some}
use Rattle.std.specs.Prelude.{slice_get}
use Rattle.cert_check.proofs.walk.first_over.Given as goal

abbrev pub invariant-loop-o : goal.invariant-loop-o
invariant-loop-o l = (j e c : ℕ) → j < l.o → slice_get l.errors j ≡ Some e → slice_get l.claims j ≡ Some c → e ≤ c
