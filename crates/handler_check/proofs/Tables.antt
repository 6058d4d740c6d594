-- The table of the places at which instructions begin.
use Rattle.handler_check.proofs.Words.{[], ◌++◌, ◌+◌, ◌-◌, ◌<◌, ◌∙◌, ◌∷◌, ◌≡◌, ◌≤◌, ap, AreFirsts, arith, Bool}
use Rattle.handler_check.proofs.Words.{cases_eq, code_end, code_limit, false, false≢true, inl, inr, Instr, IsAt}
use Rattle.handler_check.proofs.Words.{IsFirst, length, length-set, List, nat_lt, nat_tests, None, Option, refl}
use Rattle.handler_check.proofs.Words.{set, slice_get, Some, subst, suc, sym, true, unwrap_or, zero, ℕ}
use Rattle.std.proofs.lemmas.Option.{slice_get_within}
use Rattle.handler_check.proofs.Places.{below_end, at-push, at-front, at-last}

-- an element after a write
get_same : {A : Type 0} (xs : List A) (j : ℕ) (v : A) → j < length xs → slice_get (set xs j v) j ≡ Some v
get_same [] j v l = absurd (omega arith)
get_same (x ∷ xs) zero v l = refl
get_same (x ∷ xs) (suc j) v l = get_same xs j v (omega arith)

get_other : {A : Type 0} (xs : List A) (j k : ℕ) (v : A) → (k ≡ j → ⊥) → slice_get (set xs j v) k ≡ slice_get xs k
get_other [] j k v n = refl
get_other (x ∷ xs) zero zero v n = absurd (n refl)
get_other (x ∷ xs) zero (suc k) v n = refl
get_other (x ∷ xs) (suc j) zero v n = refl
get_other (x ∷ xs) (suc j) (suc k) v n = get_other xs j k v (λ e. n (ap suc e))

-- the table tells of the instructions so far
pub record Table (is : List Instr) (firsts : List Bool) : Type 0 where
  pub only : (k : ℕ) → slice_get firsts k ≡ Some true → (i : Instr) × IsAt is (16384 + k) i
  pub all : (k : ℕ) (i : Instr) → IsAt is (16384 + k) i → slice_get firsts k ≡ Some true

pub table_push : (is : List Instr) (i : Instr) (firsts : List Bool) (j : ℕ) → Table is firsts → code_end is ≡ 16384 + j
    → j < length firsts → Table (is ++ i ∷ []) (set firsts j true)
table_push is i firsts j t e l = record { only = only; all = all }
  where
    only : (k : ℕ) → slice_get (set firsts j true) k ≡ Some true → (d : Instr) × IsAt (is ++ i ∷ []) (16384 + k) d
    only k s = elim (cases_eq k j) [
      | inl h ↦ (i, subst (λ (at : ℕ). IsAt (is ++ i ∷ []) at i) (e ∙ ap (λ (n : ℕ). 16384 + n) (sym h)) (at-last is i))
      | inr n ↦ (let o = t.only k (sym (get_other firsts j k true n) ∙ s) in (o.0, at-front is i (16384 + k) o.0 o.1))
    ]

    all : (k : ℕ) (d : Instr) → IsAt (is ++ i ∷ []) (16384 + k) d → slice_get (set firsts j true) k ≡ Some true
    all k d w = elim (cases_eq k j) [
      | inl h ↦ subst (λ (n : ℕ). slice_get (set firsts j true) n ≡ Some true) (sym h) (get_same firsts j true l)
      | inr n ↦ get_other firsts j k true n
          ∙ elim (at-push is i (16384 + k) d w)
          [ inl o ↦ t.all k d o | inr o ↦ absurd (n (let a = o.0 in omega arith)) ]
    ]

pub table_trap : (is : List Instr) (firsts : List Bool) (j : ℕ) → Table is firsts → code_end is ≡ 16384 + j
    → j < length firsts → 16384 + length firsts ≤ 20480 → AreFirsts is true (set firsts j true)
table_trap is firsts j t e l m = record {
  ends = (let n = length-set firsts j true in omega arith);
  limit = (let n = length-set firsts j true in omega arith);
  trap = sym (let n = length-set firsts j true in
      let b : nat_lt (code_end is) (16384 + length (set firsts j true)) ≡ true = grind (arith, nat_tests) in b);
  only = only;
  all = all;
}
  where
    only : (k : ℕ) → slice_get (set firsts j true) k ≡ Some true → IsFirst is true (16384 + k)
    only k s = elim (cases_eq k j) [
      | inl h ↦ inr (refl, (let r = e in omega arith))
      | inr n ↦ inl (t.only k (sym (get_other firsts j k true n) ∙ s))
    ]

    here : slice_get (set firsts j true) j ≡ Some true
    here = get_same firsts j true l

    all : (k : ℕ) → IsFirst is true (16384 + k) → slice_get (set firsts j true) k ≡ Some true
    all k f = elim f [
      | inl p ↦ (let b = below_end is (16384 + k) p.0 p.1 in
          get_other firsts j k true (λ h. (let u = b.1 in omega arith)) ∙ t.all k p.0 p.1)
      | inr p ↦ subst (λ (n : ℕ). slice_get (set firsts j true) n ≡ Some true)
          (let q = p.1 in let h : j ≡ k = omega arith in h) here
    ]

-- the place behind code is at most the limit
pub code_end-low : (is : List Instr) (trapped : Bool) (firsts : List Bool) → AreFirsts is trapped firsts
    → code_end is ≤ code_limit
code_end-low is trapped firsts t = omega (arith, t.ends, t.limit)

-- a first byte is one of the table's places
pub first_within : (is : List Instr) (trapped : Bool) (firsts : List Bool) (q : ℕ) → AreFirsts is trapped firsts
    → IsFirst is trapped q → (16384 ≤ q) × (q < 16384 + length firsts)
first_within is trapped firsts q t f =
    let low : 16384 ≤ q = from f in
    let e : 16384 + (q - 16384) ≡ q = omega arith in
    let g = t.all (q - 16384) (subst (λ (n : ℕ). IsFirst is trapped n) (sym e) f) in
    let w = slice_get_within firsts (q - 16384) true g in
    (low, omega arith)
  where
    from : IsFirst is trapped q → 16384 ≤ q
    from f = elim f [ inl p ↦ (let b = below_end is q p.0 p.1 in b.0) | inr p ↦ (let e = p.1 in omega arith) ]

-- what the table tells of a place
told : (o : Option Bool) → unwrap_or o false ≡ true → o ≡ Some true
told (Some true) e = refl
told (Some false) e = absurd (false≢true e)
told None e = absurd (false≢true e)

pub told_first : (is : List Instr) (trapped : Bool) (firsts : List Bool) (q : ℕ) → AreFirsts is trapped firsts
    → 16384 ≤ q → unwrap_or (slice_get firsts (q - 16384)) false ≡ true → IsFirst is trapped q
told_first is trapped firsts q t l e =
    let s : 16384 + (q - 16384) ≡ q = omega arith in
    subst (λ (n : ℕ). IsFirst is trapped n) s (t.only (q - 16384) (told (slice_get firsts (q - 16384)) e))

pub told_none : (is : List Instr) (trapped : Bool) (firsts : List Bool) (q : ℕ) → AreFirsts is trapped firsts
    → 16384 ≤ q → unwrap_or (slice_get firsts (q - 16384)) false ≡ false → IsFirst is trapped q → ⊥
told_none is trapped firsts q t l e f =
    let s : 16384 + (q - 16384) ≡ q = omega arith in
    let a : slice_get firsts (q - 16384) ≡ Some true =
    t.all (q - 16384) (subst (λ (n : ℕ). IsFirst is trapped n) (sym s) f) in
    false≢true (sym e ∙ ap (λ (o : Option Bool). unwrap_or o false) a)
