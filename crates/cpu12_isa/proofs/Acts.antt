-- Acts one after the other.
use Rattle.std.proofs.Common.{◌≡◌, ℕ, List, ◌∷◌, ◌++◌, get_or, refl, ap}
use Rattle.cpu12_isa.specs.Act.{Act, Give, Get, outcome, read_by, bind}

pub outcome_bind : {A B : Type 0} (a : Act A) (f : A → Act B) (mem : List ℕ)
    → outcome (bind a f) mem ≡ outcome (f (outcome a mem)) mem
outcome_bind (Give a) f mem = refl
outcome_bind (Get at next) f mem = outcome_bind (next (get_or mem at 0)) f mem

-- what is read is what the first reads and then what the second does
pub read_by_bind : {A B : Type 0} (a : Act A) (f : A → Act B) (mem : List ℕ)
    → read_by (bind a f) mem ≡ read_by a mem ++ read_by (f (outcome a mem)) mem
read_by_bind (Give a) f mem = refl
read_by_bind (Get at next) f mem = ap (λ (ats : List ℕ). at ∷ ats) (read_by_bind (next (get_or mem at 0)) f mem)
