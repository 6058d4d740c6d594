-- Lists that are tested for having no element.
use Rattle.std.proofs.Common.{true, false, ◌≡◌, ◌≢◌, ℕ, List, [], ◌∷◌, length, refl, arith}
use Rattle.std.specs.Prelude.{◌==◌}
use Rattle.std.proofs.lemmas.Bool.Decides.{nat_tests}

pub is_nothing : (xs : List ℕ) → true ≡ (length xs == 0) → xs ≡ []
is_nothing [] none = refl
is_nothing (x ∷ xs) none = absurd (grind (arith, nat_tests))

pub is_something : (xs : List ℕ) → false ≡ (length xs == 0) → xs ≢ []
is_something [] some same = cc
is_something (x ∷ xs) some same = cc
