-- The bytes of a sample by its number.
use Rattle.std.proofs.Common.{◌≡◌, ℕ, zero, suc, ◌<◌, Option, List, [], ◌∷◌, map, length, get_or, ap, sym, arith}
use Rattle.std.specs.Prelude.{Some, unwrap_or, slice_get}

pub got : {A : Type 0} (f : A → List ℕ) (xs : List A) (k : ℕ) (d : A) (x : List ℕ) → k < length (map f xs)
    → slice_get (map f xs) k ≡ Some x → x ≡ f (get_or xs k d)
got f [] k d x l e = absurd (omega arith)
got f (y ∷ ys) zero d x l e = sym (ap (λ (o : Option (List ℕ)). unwrap_or o x) e)
got f (y ∷ ys) (suc k) d x l e = got f ys k d x (omega arith) e
