-- What is looked for among finitely many things is found, or is not there.
use Rattle.std.proofs.Common.{arith, ◌≡◌, ◌⊎◌, ◌≤◌, ℕ, zero, suc, List, [], ◌∷◌, ◌++◌, length, refl}
use Rattle.std.proofs.Common.{inl, inr, subst}
use Rattle.std.specs.Prelude.{All}
use Rattle.std.proofs.lemmas.Bool.{cases_lt}
use Rattle.std.proofs.lemmas.List.Elements.{All-cons, All-head, All-nil, All-tail}

abbrev pub Decided : Type 0 → Type 0
Decided A = A ⊎ (A → ⊥)

pub as_decided : {A B : Type 0} → (A → B) → (B → A) → Decided A → Decided B
as_decided {A} {B} to from (inl a) = inl (to a)
as_decided {A} {B} to from (inr none) = inr (λ b. none (from b))

pub both_decided : {A B : Type 0} → Decided A → Decided B → Decided (A × B)
both_decided {A} {B} (inl a) (inl b) = inl (a, b)
both_decided {A} {B} (inl a) (inr none) = inr (λ p. none p.1)
both_decided {A} {B} (inr none) b = inr (λ p. none p.0)

pub either_decided : {A B : Type 0} → Decided A → Decided B → Decided (A ⊎ B)
either_decided {A} {B} (inl a) b = inl (inl a)
either_decided {A} {B} (inr none) (inl b) = inl (inr b)
either_decided {A} {B} (inr none) (inr none') = inr (λ e. elim e [ inl a ↦ none a | inr b ↦ none' b ])

pub at_most_decided : (a b : ℕ) → Decided (a ≤ b)
at_most_decided a b = elim (cases_lt b a) [ inl over ↦ inr (λ le. omega (arith, over, le)) | inr le ↦ inl le ]

pub same_decided : (a b : ℕ) → Decided (a ≡ b)
same_decided a b = as_decided (λ p. omega (arith, p.0, p.1)) (λ e. (omega (arith, e), omega (arith, e)))
    (both_decided (at_most_decided a b) (at_most_decided b a))

-- a text begins with another
pub front_decided : (text front : List ℕ) → Decided ((rest : List ℕ) × (text ≡ front ++ rest))
front_decided text [] = inl (text, refl)
front_decided [] (c ∷ front) = inr (λ found. (let is = found.1 in cc))
front_decided (d ∷ text) (c ∷ front) = as_decided to from (both_decided (same_decided d c) (front_decided text front))
  where
    to : (d ≡ c) × ((rest : List ℕ) × (text ≡ front ++ rest)) → (rest : List ℕ) × (d ∷ text ≡ c ∷ front ++ rest)
    to (same, (rest, is)) = (rest, (λ i. same i ∷ is i))

    from : (rest : List ℕ) × (d ∷ text ≡ c ∷ front ++ rest) → (d ≡ c) × ((rest : List ℕ) × (text ≡ front ++ rest))
    from (rest, is) = (cc, (rest, cc))

-- ---- things that can be looked through

abbrev pub IsSearchable : (X : Type 0) → (X → Type 0) → Type 1
IsSearchable X Good = (Q : X → Type 0) → ((x : X) → Decided (Q x)) → Decided ((x : X) × Good x × Q x)

pub numbers_searchable : (n : ℕ) → IsSearchable ℕ (λ k. k ≤ n)
numbers_searchable n Q judge = at n
  where
    at : (m : ℕ) → Decided ((k : ℕ) × (k ≤ m) × Q k)
    at zero = as_decided (λ q. (zero, omega arith, q)) (λ f. subst Q (omega (arith, f.1)) f.2) (judge zero)
    at (suc m) = as_decided to from (either_decided (judge (suc m)) (at m))
      where
        to : Q (suc m) ⊎ ((k : ℕ) × (k ≤ m) × Q k) → (k : ℕ) × (k ≤ suc m) × Q k
        to (inl q) = (suc m, omega arith, q)
        to (inr f) = (f.0, omega (arith, f.1), f.2)

        from : (k : ℕ) × (k ≤ suc m) × Q k → Q (suc m) ⊎ ((k : ℕ) × (k ≤ m) × Q k)
        from (k, le, q) = elim (cases_lt k (suc m)) [
          | inl below ↦ inr (k, omega (arith, below), q)
          | inr reached ↦ inl (subst Q (omega (arith, le, reached)) q)
        ]

-- lists of so many of them
abbrev pub AreSo : {X : Type 0} → (X → Type 0) → ℕ → List X → Type 0
AreSo Good n xs = (length xs ≡ n) × All Good xs

pub lists_searchable : {X : Type 0} (Good : X → Type 0) → IsSearchable X Good → (n : ℕ)
    → IsSearchable (List X) (AreSo Good n)
lists_searchable {X} Good search_one zero Q judge = as_decided to from (judge [])
  where
    to : Q [] → (xs : List X) × AreSo Good zero xs × Q xs
    to q = ([], (refl, All-nil Good), q)

    from : (xs : List X) × AreSo Good zero xs × Q xs → Q []
    from ([], so, q) = q
    from (x ∷ xs, so, q) = absurd (omega (arith, so.0))
lists_searchable {X} Good search_one (suc n) Q judge =
    as_decided to from (search_one (λ x. (xs : List X) × AreSo Good n xs × Q (x ∷ xs))
    (λ x. lists_searchable Good search_one n (λ xs. Q (x ∷ xs)) (λ xs. judge (x ∷ xs))))
  where
    to : (x : X) × Good x × ((xs : List X) × AreSo Good n xs × Q (x ∷ xs)) → (xs : List X) × AreSo Good (suc n) xs × Q xs
    to (x, good, behind) = (
      x ∷ behind.0,
      (omega (arith, behind.1.0), All-cons Good x behind.0 good behind.1.1),
      behind.2,
    )

    from : (xs : List X) × AreSo Good (suc n) xs × Q xs → (x : X) × Good x × ((xs : List X) × AreSo Good n xs × Q (x ∷ xs))
    from ([], so, q) = absurd (omega (arith, so.0))
    from (x ∷ xs, so, q) =
        (x, All-head Good x xs so.1, (xs, (omega (arith, so.0), All-tail Good x xs so.1), q))
