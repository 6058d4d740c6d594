-- How long a rule list is.
use Rattle.eval_code.proofs.Words.{[], ◌∷◌, ◌≡◌, arith, Conjunction, entry_count, length, length-append, List, marked}
use Rattle.eval_code.proofs.Words.{refl, sum_by, sum_by-cons, ℕ}

pub length-marked : (separator end_mark : ℕ) (cs : List Conjunction)
    → length (marked separator end_mark cs) ≡ sum_by entry_count cs
length-marked separator end_mark [] = refl
length-marked separator end_mark (c ∷ []) = simp (length-append) (omega (arith, sum_by-cons entry_count c []))
length-marked separator end_mark (c ∷ d ∷ cs) =
    simp (length-append) (omega (arith, sum_by-cons entry_count c (d ∷ cs), length-marked separator end_mark (d ∷ cs)))
