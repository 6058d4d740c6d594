-- Lists by their places: what holds of each element, the element at a place, and lists that a loop fills.
use Rattle.std.proofs.Common.{◌≡◌, ⊎_elim, ℕ, zero, suc, ◌+◌, ◌<◌, ◌≤◌, List, [], ◌∷◌, ◌++◌, length, Option, Some, refl}
use Rattle.std.proofs.Common.{◌∙◌, subst, arith, Bool, true, false}
use Rattle.std.specs.Prelude.{All, IsSomeAnd, slice_get, slice_set, ◌&&◌, ◌||◌}
use Rattle.std.proofs.lemmas.Bool.{cases_lt}
use Rattle.std.proofs.lemmas.Option.{slice_get_within, get_or_from_slice_get}
use Rattle.std.specs.List.{list_any}

pub All-none : {X : Type 0} (P : X → Type 0) → All P []
All-none P k d l = absurd (omega arith)

pub All-cons : {X : Type 0} (P : X → Type 0) (x : X) (xs : List X) → P x → All P xs → All P (x ∷ xs)
All-cons P x xs h t zero d l = h
All-cons P x xs h t (suc k) d l = t k d (omega arith)

-- what holds of each element holds of the one at a place
pub All-slice_get : {X : Type 0} (P : X → Type 0) (xs : List X) (i : ℕ) (x : X) → All P xs
    → slice_get xs i ≡ Some x → P x
All-slice_get P xs i x h e = subst P (get_or_from_slice_get xs i x x e) (h i x (slice_get_within xs i x e))

-- what holds of the element that there is
pub IsSomeAnd-some : {X : Type 0} (P : X → Type 0) (o : Option X) (x : X) → o ≡ Some x → IsSomeAnd o P → P x
IsSomeAnd-some P o x e h = subst (λ y. IsSomeAnd y P) e h

pub IsSomeAnd-at : {X : Type 0} (P : X → Type 0) (o : Option X) (x : X) → o ≡ Some x → P x → IsSomeAnd o P
IsSomeAnd-at P o x e h = rw e h

-- a place that has an element lies within the list
pub IsSomeAnd-within : {X : Type 0} (P : X → Type 0) (xs : List X) (i : ℕ) → IsSomeAnd (slice_get xs i) P
    → i < length xs
IsSomeAnd-within P [] i h = absurd h
IsSomeAnd-within P (x ∷ xs) zero h = omega arith
IsSomeAnd-within P (x ∷ xs) (suc i) h = let l : i < length xs = IsSomeAnd-within P xs i h in omega arith

-- a place within a list has an element
pub some_at : {X : Type 0} (xs : List X) (k : ℕ) → k < length xs → (x : X) × (slice_get xs k ≡ Some x)
some_at [] k h = absurd (omega arith)
some_at (x ∷ xs) zero h = (x, refl)
some_at (x ∷ xs) (suc k) h = some_at xs k (omega arith)

-- where both tests pass, one does
pub list_any-left : {X : Type 0} (p q : X → Bool) (xs : List X) → list_any (λ x. p x && q x) xs ≡ true
    → list_any p xs ≡ true
list_any-left p q [] h = absurd (let z : ⊥ = cc in z)
list_any-left {X} p q (x ∷ xs) h = by_head (p x) (q x) h (list_any-left p q xs)
  where
    by_head : (a b : Bool) → ((a && b) || list_any (λ x. p x && q x) xs) ≡ true
        → (list_any (λ x. p x && q x) xs ≡ true → list_any p xs ≡ true) → (a || list_any p xs) ≡ true
    by_head true b e rest = refl
    by_head false b e rest = rest e

pub slice_get-set_same : {X : Type 0} (xs : List X) (i : ℕ) (x : X) → i < length xs
    → slice_get (slice_set xs i x) i ≡ Some x
slice_get-set_same [] i x h = absurd (omega arith)
slice_get-set_same (y ∷ xs) zero x h = refl
slice_get-set_same (y ∷ xs) (suc i) x h = slice_get-set_same xs i x (omega arith)

pub slice_get-set_other : {X : Type 0} (xs : List X) (i j : ℕ) (x : X) → j < i
    → slice_get (slice_set xs i x) j ≡ slice_get xs j
slice_get-set_other [] i j x h = refl
slice_get-set_other (y ∷ xs) zero j x h = absurd (omega arith)
slice_get-set_other (y ∷ xs) (suc i) zero x h = refl
slice_get-set_other (y ∷ xs) (suc i) (suc j) x h = slice_get-set_other xs i j x (omega arith)

-- the first t places of ys are filled for those of xs
abbrev pub AreFilled : {X Y : Type 0} (P : ℕ → X → Y → Type 0) → List X → List Y → ℕ → Type 0
AreFilled {X} {Y} P xs ys t =
    (k : ℕ) (x : X) → k < t → slice_get xs k ≡ Some x → (r : Y) × (slice_get ys k ≡ Some r) × P k x r

pub AreFilled-more : {X Y : Type 0} (P : ℕ → X → Y → Type 0) (xs : List X) (ys : List Y) (t : ℕ) (y : Y) → t < length ys
    → AreFilled P xs ys t → ((x : X) → slice_get xs t ≡ Some x → P t x y) → AreFilled P xs (slice_set ys t y) (t + 1)
AreFilled-more {X} {Y} P xs ys t y within before here k x lt e = ⊎_elim
    (λ (l : k < t). let b = before k x l e in (b.0, slice_get-set_other ys t k y l ∙ b.1, b.2))
    (λ (l : t ≤ k).
    let same : t ≡ k = omega arith in
    subst (λ j. slice_get xs j ≡ Some x → (r : Y) × (slice_get (slice_set ys t y) j ≡ Some r) × P j x r) same
    (λ f. (y, slice_get-set_same ys t y within, here x f)) e)
    (cases_lt k t)

slice_get-front : {X : Type 0} (xs : List X) (y : X) (k : ℕ) (x : X) → slice_get xs k ≡ Some x
    → slice_get (xs ++ y ∷ []) k ≡ Some x
slice_get-front [] y k x e = absurd (let z : ⊥ = cc in z)
slice_get-front (z ∷ xs) y zero x e = e
slice_get-front (z ∷ xs) y (suc k) x e = slice_get-front xs y k x e

slice_get-last : {X : Type 0} (xs : List X) (y : X) → slice_get (xs ++ y ∷ []) (length xs) ≡ Some y
slice_get-last [] y = refl
slice_get-last (x ∷ xs) y = slice_get-last xs y

-- or that it lengthens one by one
pub AreFilled-push : {X Y : Type 0} (P : ℕ → X → Y → Type 0) (xs : List X) (ys : List Y) (t : ℕ) (y : Y) → length ys ≡ t
    → AreFilled P xs ys t → ((x : X) → slice_get xs t ≡ Some x → P t x y) → AreFilled P xs (ys ++ y ∷ []) (t + 1)
AreFilled-push {X} {Y} P xs ys t y count before here k x lt e = ⊎_elim
    (λ (l : k < t). let b = before k x l e in (b.0, slice_get-front ys y k b.0 b.1, b.2))
    (λ (l : t ≤ k).
    let same : t ≡ k = omega arith in
    let at : slice_get (ys ++ y ∷ []) t ≡ Some y =
    subst (λ j. slice_get (ys ++ y ∷ []) j ≡ Some y) count (slice_get-last ys y) in
    subst (λ j. slice_get xs j ≡ Some x → (r : Y) × (slice_get (ys ++ y ∷ []) j ≡ Some r) × P j x r) same
    (λ f. (y, at, here x f)) e)
    (cases_lt k t)
