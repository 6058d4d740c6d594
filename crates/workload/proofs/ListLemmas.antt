-- Lists by their places.
use Rattle.std.proofs.Common.{arith, ◌≡◌, ◌+◌, ℕ, zero, suc, List, [], ◌∷◌, ◌++◌, length, map, refl, sym, ap, ap₂, ◌∙◌}
use Rattle.std.specs.List.{range_with_len}
use Rattle.std.specs.Prelude.{Some, flat_map, slice_get, unwrap_or}
use Rattle.std.proofs.lemmas.Grind.{flat_map-append}
use Rattle.std.proofs.lemmas.List.{append-nil}
use Rattle.std.proofs.lemmas.List.FromFn.{map-range_with_len_more}

drawn_from : {X : Type 0} (f : ℕ → X) (a n k : ℕ) (x : X) → slice_get (map f (range_with_len a n)) k ≡ Some x
    → x ≡ f (a + k)
drawn_from f a zero k x at = absurd cc
drawn_from f a (suc n) zero x at = sym (ap (λ o. unwrap_or o x) at) ∙ ap f (omega arith)
drawn_from f a (suc n) (suc k) x at = drawn_from f (a + 1) n k x at ∙ ap f (omega arith)

pub drawn_at : {X : Type 0} (f : ℕ → X) (n k : ℕ) (x : X) → slice_get (map f (range_with_len 0 n)) k ≡ Some x → x ≡ f k
drawn_at f n k x at = drawn_from f 0 n k x at ∙ ap f (omega arith)

-- what is made of the numbers before the next one
pub made_more : {X : Type 0} (f : ℕ → X) (n : ℕ)
    → map f (range_with_len 0 (n + 1)) ≡ map f (range_with_len 0 n) ++ (f n ∷ [])
made_more f n = map-range_with_len_more f 0 n n (omega arith)

range_next : (a n : ℕ) → range_with_len a (suc n) ≡ range_with_len a n ++ ((a + n) ∷ [])
range_next a zero = ap (λ (k : ℕ). k ∷ []) (omega arith)
range_next a (suc n) =
    let same : a + 1 + n ≡ a + suc n = omega arith in
    ap (λ (ks : List ℕ). a ∷ ks)
    (range_next (a + 1) n ∙ ap (λ (k : ℕ). range_with_len (a + 1) n ++ (k ∷ [])) same)

-- what is written for the numbers before the next one
pub written_more : {A : Type 0} (f : ℕ → List A) (n : ℕ)
    → flat_map f (range_with_len 0 (n + 1)) ≡ flat_map f (range_with_len 0 n) ++ f n
written_more {A} f n =
    let next : n + 1 ≡ suc n = omega arith in
    let last : 0 + n ≡ n = omega arith in
    ap (λ (k : ℕ). flat_map f (range_with_len 0 k)) next ∙ ap (flat_map f) (range_next 0 n)
    ∙ ap (λ (k : ℕ). flat_map f (range_with_len 0 n ++ (k ∷ []))) last
    ∙ flat_map-append f (range_with_len 0 n) (n ∷ [])
    ∙ ap (λ (t : List A). flat_map f (range_with_len 0 n) ++ t) (append-nil (f n))

-- of equally long lists, what a function makes of each place's element
pub one_drawn : {X Y : Type 0} (v : X → Y) (f : ℕ → Y) (xs ys : List X) → length xs ≡ length ys
    → ((k : ℕ) (x : X) → slice_get xs k ≡ Some x → v x ≡ f k)
    → ((k : ℕ) (y : X) → slice_get ys k ≡ Some y → v y ≡ f k) → map v xs ≡ map v ys
one_drawn v f [] [] count one other = refl
one_drawn v f [] (y ∷ ys) count one other = absurd (omega arith)
one_drawn v f (x ∷ xs) [] count one other = absurd (omega arith)
one_drawn {X} {Y} v f (x ∷ xs) (y ∷ ys) count one other =
    ap₂ (λ (z : Y) (zs : List Y). z ∷ zs) (one 0 x refl ∙ sym (other 0 y refl))
    (one_drawn v (λ k. f (suc k)) xs ys (omega arith) (λ k. one (suc k)) (λ k. other (suc k)))
