-- Lists: items and parts of them, one by one and pushed.
use Rattle.fcl_check.proofs.Words.{[], ◌&&◌, ◌++◌, ◌+◌, ◌<◌, ◌∷◌, ◌≡◌, AllByRecursion, AllZip, ap, append-nil, Bool}
use Rattle.fcl_check.proofs.Words.{cond, cons_option, drop_while, false, filter, filter-append, filter_map}
use Rattle.fcl_check.proofs.Words.{filter_map-append, first, get_or, last, length, List, list_all, map, map-append}
use Rattle.fcl_check.proofs.Words.{None, not, Option, option_or, refl, Some, take, take_more, take_while}
use Rattle.fcl_check.proofs.Words.{take_while-cons, true, ℕ}

-- ---- What holds of each item of a list.

pub parts_of : {X : Type 0} (P : X → Type 0) (xs ys : List X) → AllByRecursion P (xs ++ ys)
    → AllByRecursion P xs × AllByRecursion P ys
parts_of P [] ys h = (tt, h)
parts_of P (x ∷ xs) ys h =
    let both = parts_of P xs ys h.1 in
    ((h.0, both.0), both.1)

pub rest_of : {X : Type 0} (P : X → Type 0) (o : Option X) (xs : List X) → AllByRecursion P (cons_option o xs)
    → AllByRecursion P xs
rest_of P None xs h = h
rest_of P (Some x) xs h = h.1

pub all_weaker : {X : Type 0} (P Q : X → Type 0) → ((x : X) → P x → Q x) → (xs : List X) → AllByRecursion P xs
    → AllByRecursion Q xs
all_weaker P Q weaker [] h = tt
all_weaker P Q weaker (x ∷ xs) h = (weaker x h.0, all_weaker P Q weaker xs h.1)

pub all_both : {X : Type 0} (P Q : X → Type 0) (xs : List X) → AllByRecursion P xs → AllByRecursion Q xs
    → AllByRecursion (λ x. P x × Q x) xs
all_both P Q [] p q = tt
all_both P Q (x ∷ xs) p q = ((p.0, q.0), all_both P Q xs p.1 q.1)

pub all_mapped : {X Y : Type 0} (P : Y → Type 0) (f : X → Y) (xs : List X) → AllByRecursion (λ x. P (f x)) xs
    → AllByRecursion P (map f xs)
all_mapped P f [] h = tt
all_mapped P f (x ∷ xs) h = (h.0, all_mapped P f xs h.1)

pub all_unmapped : {X Y : Type 0} (P : Y → Type 0) (f : X → Y) (xs : List X) → AllByRecursion P (map f xs)
    → AllByRecursion (λ x. P (f x)) xs
all_unmapped P f [] h = tt
all_unmapped P f (x ∷ xs) h = (h.0, all_unmapped P f xs h.1)

-- of each item, by the item that it is related to
pub all_related : {X Y : Type 0} (P : X → Type 0) (R : X → Y → Type 0) (Q : Y → Type 0)
    → ((x : X) (y : Y) → P x → R x y → Q y) → (xs : List X) (ys : List Y)
    → AllByRecursion P xs → AllZip R xs ys → AllByRecursion Q ys
all_related P R Q image [] [] all zip = tt
all_related P R Q image (x ∷ xs) (y ∷ ys) all zip = (image x y all.0 zip.0, all_related P R Q image xs ys all.1 zip.1)
all_related P R Q image _ _ all zip = absurd zip

pub all_images : {X Y : Type 0} (R : X → Y → Type 0) (Q : Y → Type 0) → ((x : X) (y : Y) → R x y → Q y)
    → (xs : List X) (ys : List Y) → AllZip R xs ys
    → AllByRecursion Q ys
all_images R Q image [] [] zip = tt
all_images R Q image (x ∷ xs) (y ∷ ys) zip = (image x y zip.0, all_images R Q image xs ys zip.1)
all_images R Q image _ _ zip = absurd zip

-- ---- Lists that are built from others one by one.

-- one more item and its image
pub mapped_more : {A B : Type 0} (g : A → B) (first : A) (xs : List A) (i : ℕ) (d : A) (so_far next : List B) (y : B)
    → i < length xs
    → so_far ≡ map g (first ∷ take i xs) → y ≡ g (get_or xs i d) → next ≡ so_far ++ y ∷ []
    → next ≡ map g (first ∷ take (i + 1) xs)
mapped_more g first xs i d so_far next y h same image pushed =
    rw (take_more xs i d h, map-append g (take i xs) (get_or xs i d ∷ []), pushed, same, image) refl

-- ---- Fronts, ends and parts of a list with one more item, and the step of a loop that keeps such parts.

pub last-push : {A : Type 0} (xs : List A) (y : A) → last (xs ++ y ∷ []) ≡ Some y
last-push [] y = refl
last-push (x ∷ xs) y = ap (λ o. option_or o (Some x)) (last-push xs y)

pub first-push : {A : Type 0} (xs : List A) (y : A) → first (xs ++ y ∷ []) ≡ option_or (first xs) (Some y)
first-push [] y = refl
first-push (x ∷ xs) y = refl

module _ {A : Type 0} (p : A → Bool) where
  -- where all pass, the front is the whole, and nothing stands behind it
  pub take_while-all : (xs : List A) → list_all p xs ≡ true → take_while p xs ≡ xs
  take_while-all [] h = refl
  take_while-all (x ∷ xs) h = rw take_while-cons (
      elim (p x) as (λ b. (b && list_all p xs) ≡ true → cond b (x ∷ take_while p xs) [] ≡ x ∷ xs) [
        | true ↦ λ k. ap (λ s. x ∷ s) (take_while-all xs k)
        | false ↦ λ k. cc
      ] h)

  pub drop_while-all : (xs : List A) → list_all p xs ≡ true → drop_while p xs ≡ []
  drop_while-all [] h = refl
  drop_while-all (x ∷ xs) h =
      elim (p x) as (λ b. (b && list_all p xs) ≡ true → cond b (drop_while p xs) (x ∷ xs) ≡ []) [
        | true ↦ λ k. drop_while-all xs k
        | false ↦ λ k. cc
      ] h

  pub list_all-push : (xs : List A) (y : A) → list_all p (xs ++ y ∷ []) ≡ (list_all p xs && p y)
  list_all-push [] y = elim (p y) as (λ b. (b && true) ≡ b) [ true ↦ refl | false ↦ refl ]
  list_all-push (x ∷ xs) y =
      elim (p x) as (λ b. (b && list_all p (xs ++ y ∷ [])) ≡ ((b && list_all p xs) && p y))
      [ true ↦ list_all-push xs y | false ↦ refl ]

  -- where one does not pass, or the last does not, the front is as before
  pub take_while-push : (xs : List A) (y : A) → (list_all p xs && p y) ≡ false
      → take_while p (xs ++ y ∷ []) ≡ take_while p xs
  take_while-push [] y h = rw take_while-cons (rw h refl)
  take_while-push (x ∷ xs) y h = rw (take_while-cons p x (xs ++ y ∷ []), take_while-cons p x xs) (
      elim (p x) as (λ b. ((b && list_all p xs) && p y) ≡ false
      → cond b (x ∷ take_while p (xs ++ y ∷ [])) [] ≡ cond b (x ∷ take_while p xs) []) [
        | true ↦ λ k. ap (λ s. x ∷ s) (take_while-push xs y k)
        | false ↦ λ k. refl
      ] h)

  pub drop_while-push : (xs : List A) (y : A) → (list_all p xs && p y) ≡ false
      → drop_while p (xs ++ y ∷ []) ≡ drop_while p xs ++ y ∷ []
  drop_while-push [] y h = ap (λ b. cond b [] (y ∷ [])) h
  drop_while-push (x ∷ xs) y h =
      elim (p x) as (λ b. ((b && list_all p xs) && p y) ≡ false
      → cond b (drop_while p (xs ++ y ∷ [])) (x ∷ (xs ++ y ∷ [])) ≡ cond b (drop_while p xs)
      (x ∷ xs) ++ y ∷ []) [
        | true ↦ λ k. drop_while-push xs y k
        | false ↦ λ k. refl
      ] h

  pub filter-pass : (xs : List A) (y : A) → p y ≡ true → filter p (xs ++ y ∷ []) ≡ filter p xs ++ y ∷ []
  filter-pass xs y h = rw (filter-append p xs (y ∷ []), h) refl

  pub filter-fail : (xs : List A) (y : A) → p y ≡ false → filter p (xs ++ y ∷ []) ≡ filter p xs
  filter-fail xs y h = rw (filter-append p xs (y ∷ []), h) (append-nil (filter p xs))

  -- where none passes, all fail, and where one does, not all do
  pub none-passes : (xs : List A) → first (filter p xs) ≡ None → list_all (λ x. not (p x)) xs ≡ true
  none-passes [] h = refl
  none-passes (x ∷ xs) h =
      elim (p x) as (λ b. first (cond b (x ∷ filter p xs) (filter p xs)) ≡ None
      → (not b && list_all (λ x. not (p x)) xs) ≡ true) [
        | true ↦ λ k. cc
        | false ↦ λ k. none-passes xs k
      ] h

  pub one-passes : (xs : List A) (y : A) → first (filter p xs) ≡ Some y → list_all (λ x. not (p x)) xs ≡ false
  one-passes [] y h = cc
  one-passes (x ∷ xs) y h =
      elim (p x) as (λ b. first (cond b (x ∷ filter p xs) (filter p xs)) ≡ Some y
      → (not b && list_all (λ x. not (p x)) xs) ≡ false) [
        | true ↦ λ k. refl
        | false ↦ λ k. one-passes xs y k
      ] h

pub filter_map-next : {X Y : Type 0} (h : X → Option Y) (xs read : List X) (i : ℕ) (d : X) → read ≡ xs → i < length xs
    → filter_map h (take (i + 1) xs) ≡ filter_map h (take i xs) ++ cons_option (h (get_or read i d)) []
filter_map-next h xs read i d same within =
    rw (take_more xs i d within, filter_map-append h (take i xs) (get_or xs i d ∷ []), same) refl

pub filter_map-more : {X Y : Type 0} (h : X → Option Y) (xs read : List X) (i : ℕ) (x : X) (o : Option Y) → read ≡ xs
    → i < length xs → x ≡ get_or read i x
    → h x ≡ o → filter_map h (take (i + 1) xs) ≡ filter_map h (take i xs) ++ cons_option o []
filter_map-more h xs read i x o same within is found = rw (filter_map-next h xs read i x same within, ← is, found) refl
