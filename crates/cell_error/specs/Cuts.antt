-- Masses that are high on one side of a singleton and low on the other.
-- Beside the promise.
use Rattle.std.specs.Prelude.{ℕ, ◌≤◌, ◌*◌, if◌then◌else◌, nat_le, Bool, false, List, [], ◌∷◌}
use Rattle.fz_num.specs.Fractions.{Fraction}
use Rattle.cell_error.specs.declared.{ranges.MassRange.MassRange, ranges.Answer.Answer, cuts.Cut.Cut}
use Rattle.cell_error.specs.declared.cuts.Cut.TheVariants.{Nowhere, From, UpTo, AtLeast, AtMost}
use Rattle.cell_error.specs.Errors.{IsWithin}

-- whether the mass of a singleton is high
abbrev pub is_high : Cut → ℕ → Bool
is_high Nowhere u = false
is_high (From c) u = nat_le c u
is_high (UpTo c) u = nat_le u c
is_high (AtLeast x y) u = nat_le y (x * u)
is_high (AtMost x y) u = nat_le (x * u) y

-- its products fit
abbrev pub IsSmall : Cut → Type 0
IsSmall Nowhere = Unit {0}
IsSmall (From c) = Unit {0}
IsSmall (UpTo c) = Unit {0}
IsSmall (AtLeast x y) = x ≤ 65280000000
IsSmall (AtMost x y) = x ≤ 65280000000

-- high where p says so, else low
abbrev pub chosen : (ℕ → Bool) → List MassRange → List ℕ
chosen p [] = []
chosen p (t ∷ ts) = (if p t.at then t.high else t.low) ∷ chosen p ts

abbrev pub masses : Cut → List MassRange → List ℕ
masses c ts = chosen (is_high c) ts

-- e is the least number of millionths that the answer is within of f
pub record IsErrorAt (a : Answer) (f : Fraction) (e : ℕ) : Type 0 where
  pub within : IsWithin a e f
  pub least : (n : ℕ) → IsWithin a n f → e ≤ n
