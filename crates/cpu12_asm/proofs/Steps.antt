-- One line of a source, and the others after it.
use Rattle.std.proofs.Common.{◌≡◌, ◌≢◌, ℕ, ◌+◌, List, ◌∷◌, Option, Result, Ok, refl}
use Rattle.cpu12_asm.specs.declared.{faults.LineFault.LineFault, statements.Action.Action}
use Rattle.cpu12_asm.specs.declared.statements.Action.TheVariants.{Nothing, Origin, Equate, Bytes, Words, Operate}
use Rattle.cpu12_asm.specs.Faults.{through}
use Rattle.cpu12_asm.specs.Giving.{Given, given_with, put_values, values_within, limits_of}

-- a line that does not set the place
pub given_with-bytes : (value : List ℕ → Option ℕ) (g : Given) (a : Action) (text : List ℕ) → a ≢ Origin
    → given_with value g a text ≡ put_values g a (values_within value text (limits_of a))
given_with-bytes value g Nothing text other = refl
given_with-bytes value g Origin text other = absurd (other refl)
given_with-bytes value g Equate text other = refl
given_with-bytes value g Bytes text other = refl
given_with-bytes value g Words text other = refl
given_with-bytes value g (Operate encoding) text other = refl

pub through-ok : {S : Type 0} (step : S → List ℕ → Result S LineFault) (s t : S) (n : ℕ) (line : List ℕ)
    (lines : List (List ℕ)) → step s line ≡ Ok t → through step s n (line ∷ lines) ≡ through step t (n + 1) lines
through-ok step s t n line lines e = rw e refl
