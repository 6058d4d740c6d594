-- The boundary at which a request is taken.
use Rattle.std.proofs.Common.{◌≡◌, ℕ, zero, suc, ◌+◌, ◌-◌, ◌<◌, ◌≤◌, Bool, true, false, ◌&&◌, nat_le, List, [], ◌∷◌}
use Rattle.std.proofs.Common.{refl, ap, ap₂, sym, ◌∙◌, subst, arith, inl, inr, ◌⊎◌}
use Rattle.std.specs.Prelude.{if◌then◌else◌}
use Rattle.std.proofs.lemmas.Bool.{cases_Bool, false≢true}
use Rattle.std.proofs.lemmas.Bool.Decides.{nat_tests}
use Rattle.cpu12_parts.specs.State.{State}
use Rattle.cpu12_emul.specs.Take.{FrameSeen, may_interrupt}
use Rattle.run_law.specs.Uninterrupted.{uninterrupted, first_open, taken_at, expected_frame}
use Rattle.run_law.specs.{Soundness.Ascend, Moments.TakenAtFirstOpen, Moments.TakenAtOnce}
use Rattle.run_law.proofs.Boundaries.{drop_due, frames_here, taken_here}

pub le_true : (a b : ℕ) → a ≤ b → nat_le a b ≡ true
le_true a b h = grind (arith, nat_tests)

pub le_false : (a b : ℕ) → b < a → nat_le a b ≡ false
le_false a b h = grind (arith, nat_tests)

pub split : (a b : ℕ) → (a ≤ b) ⊎ (b < a)
split a b = elim (cases_Bool (nat_le a b))
    [ inl e ↦ inl (grind (arith, nat_tests, e)) | inr e ↦ inr (grind (arith, nat_tests, e)) ]

pub ascend_less : {A : Type 0} (moment : A → ℕ) (k m : ℕ) (qs : List A) → k ≤ m → Ascend moment m qs
    → Ascend moment k qs
ascend_less moment k m [] l h = tt
ascend_less moment k m (q ∷ qs) l h = (omega (arith, h.0), h.1)

-- the first open boundary lies between the first and the last,
pub open_from : (flags : ℕ) (s : State) (k m : ℕ) → m ≤ first_open flags s k m
open_from flags s zero m = omega arith
open_from flags s (suc k) m = elim (cases_Bool (may_interrupt (uninterrupted flags m s))) [
  | inl e ↦ rw e (omega arith)
  | inr e ↦ rw e (let r = open_from flags s k (suc m) in omega arith)
]

open_within : (flags : ℕ) (s : State) (k m : ℕ) → first_open flags s k m ≤ m + k
open_within flags s zero m = omega arith
open_within flags s (suc k) m = elim (cases_Bool (may_interrupt (uninterrupted flags m s))) [
  | inl e ↦ rw e (omega arith)
  | inr e ↦ rw e (let r = open_within flags s k (suc m) in omega arith)
]

-- is open, and no other comes before it
pub open_there : (flags : ℕ) (s : State) (k m : ℕ) → first_open flags s k m < m + k
    → may_interrupt (uninterrupted flags (first_open flags s k m) s) ≡ true
open_there flags s zero m h = absurd (omega arith)
open_there flags s (suc k) m h = elim (cases_Bool (may_interrupt (uninterrupted flags m s))) [
  | inl e ↦
      let v : first_open flags s (suc k) m ≡ m = rw e refl in
      subst (λ (i : ℕ). may_interrupt (uninterrupted flags i s) ≡ true) (sym v) e
  | inr e ↦
      let v : first_open flags s (suc k) m ≡ first_open flags s k (suc m) = rw e refl in
      subst (λ (i : ℕ). may_interrupt (uninterrupted flags i s) ≡ true) (sym v)
      (open_there flags s k (suc m) (omega (arith, h, v)))
]

pub open_first : (flags : ℕ) (s : State) (k m j : ℕ) → m ≤ j → j < m + k
    → may_interrupt (uninterrupted flags j s) ≡ true → first_open flags s k m ≤ j
open_first flags s zero m j l g h = absurd (omega arith)
open_first flags s (suc k) m j l g h = elim (cases_Bool (may_interrupt (uninterrupted flags m s))) [
  | inl e ↦ rw e l
  | inr e ↦ rw e (open_first flags s k (suc m) j (later e) (omega arith) h)
]
  where
    later : may_interrupt (uninterrupted flags m s) ≡ false → suc m ≤ j
    later e = elim (split j m) [
      | inl at ↦ absurd (false≢true
          (sym e ∙ subst (λ (i : ℕ). may_interrupt (uninterrupted flags i s) ≡ true)
          (let z : j ≡ m = omega arith in z) h))
      | inr past ↦ omega arith
    ]

-- the same of a request
abbrev pub at_of : ℕ → ℕ → State → ℕ → ℕ
at_of flags n s a = first_open flags s (n - a) a

pub from_moment : (flags n : ℕ) (s : State) (a : ℕ) → a ≤ at_of flags n s a
from_moment flags n s a = open_from flags s (n - a) a

pub at_first : (flags n : ℕ) (s : State) (a m : ℕ) → a ≤ m → m < n → may_interrupt (uninterrupted flags m s) ≡ true
    → at_of flags n s a ≤ m
at_first flags n s a m l g h = open_first flags s (n - a) a m l (omega arith) h

pub at_open : (flags n : ℕ) (s : State) (a : ℕ) → at_of flags n s a < n
    → may_interrupt (uninterrupted flags (at_of flags n s a) s) ≡ true
at_open flags n s a h = let l = from_moment flags n s a in open_there flags s (n - a) a (omega arith)

at_rises : (flags n : ℕ) (s : State) (a b : ℕ) → a ≤ b → at_of flags n s a ≤ at_of flags n s b
at_rises flags n s a b l =
    let from = from_moment flags n s b in
    let to = open_within flags s (n - a) a in
    elim (split n (at_of flags n s b)) [
      | inl late ↦ omega arith
      | inr early ↦ at_first flags n s a (at_of flags n s b) (omega arith) early (at_open flags n s b early)
    ]

-- requests whose moments ascend are taken at boundaries that ascend
pub taken_ascend : {A : Type 0} (flags n : ℕ) (s : State) (moment : A → ℕ) (j m : ℕ) (qs : List A)
    → j ≤ at_of flags n s m → Ascend moment m qs → Ascend (taken_at flags moment n s) j qs
taken_ascend flags n s moment j m [] l h = tt
taken_ascend {A = A} flags n s moment j m (q ∷ qs) l h =
    let rise = at_rises flags n s m (moment q) h.0 in
    let here : j ≤ taken_at flags moment n s q = omega arith in
    (here, taken_ascend flags n s moment (taken_at flags moment n s q) (moment q) qs (omega arith) h.1)

-- a request that waits is due where its boundary has come
due_is : (flags n : ℕ) (s : State) (a m : ℕ) → m < n → m ≤ at_of flags n s a
    → (may_interrupt (uninterrupted flags m s) && nat_le a m) ≡ nat_le (at_of flags n s a) m
due_is flags n s a m l g = elim (cases_Bool (may_interrupt (uninterrupted flags m s))) [
  | inl e ↦ ap (λ (b : Bool). b && nat_le a m) e ∙ elim (split a m) [
    | inl due ↦ le_true a m due ∙ sym (le_true (at_of flags n s a) m (at_first flags n s a m due l e))
    | inr not_due ↦ (let from = from_moment flags n s a in
        le_false a m not_due ∙ sym (le_false (at_of flags n s a) m (omega arith)))
  ]
  | inr e ↦ ap (λ (b : Bool). b && nat_le a m) e ∙ sym (le_false (at_of flags n s a) m (masked e))
]
  where
    masked : may_interrupt (uninterrupted flags m s) ≡ false → m < at_of flags n s a
    masked e = elim (split (at_of flags n s a) m) [
      | inl at ↦
          let z : at_of flags n s a ≡ m = omega arith in
          absurd
          (false≢true (sym e ∙ subst (λ (i : ℕ). may_interrupt (uninterrupted flags i s) ≡ true) z
          (at_open flags n s a (omega arith))))
      | inr past ↦ past
    ]

-- so what is taken at a boundary goes by these boundaries alone
pub drop_is : {A : Type 0} (flags n : ℕ) (s : State) (moment : A → ℕ) (m : ℕ) (qs : List A) → m < n
    → Ascend (taken_at flags moment n s) m qs
    → drop_due moment (may_interrupt (uninterrupted flags m s)) m qs ≡ drop_due (taken_at flags moment n s) true m qs
drop_is flags n s moment m [] l h = refl
drop_is {A = A} flags n s moment m (q ∷ qs) l h =
    ap₂ (λ (b : Bool) (xs : List A). if b then xs else q ∷ qs) (due_is flags n s (moment q) m l h.0)
    (drop_is flags n s moment m qs l
    (ascend_less (taken_at flags moment n s) m (taken_at flags moment n s q) qs h.0 h.1))

pub here_is : {A : Type 0} (flags n : ℕ) (s : State) (moment : A → ℕ) (m : ℕ) (qs : List A) → m < n
    → Ascend (taken_at flags moment n s) m qs
    → taken_here moment (may_interrupt (uninterrupted flags m s)) m qs ≡ taken_here
    (taken_at flags moment n s) true m qs
here_is flags n s moment m [] l h = refl
here_is {A = A} flags n s moment m (q ∷ qs) l h =
    ap₂ (λ (b : Bool) (xs : List A). if b then q ∷ xs else []) (due_is flags n s (moment q) m l h.0)
    (here_is flags n s moment m qs l
    (ascend_less (taken_at flags moment n s) m (taken_at flags moment n s q) qs h.0 h.1))

pub frames_is : {A : Type 0} (flags n : ℕ) (s u : State) (moment : A → ℕ) (first : Bool) (m : ℕ) (qs : List A) → m < n
    → Ascend (taken_at flags moment n s) m qs
    → frames_here moment (may_interrupt (uninterrupted flags m s)) first m u qs ≡ frames_here
    (taken_at flags moment n s) true first m u qs
frames_is flags n s u moment first m [] l h = refl
frames_is {A = A} flags n s u moment first m (q ∷ qs) l h =
    ap₂ (λ (b : Bool) (xs : List (ℕ × FrameSeen)). if b then (m, expected_frame first u) ∷ xs else [])
    (due_is flags n s (moment q) m l h.0)
    (frames_is flags n s u moment false m qs l
    (ascend_less (taken_at flags moment n s) m (taken_at flags moment n s q) qs h.0 h.1))

pub taken_at_first_open : TakenAtFirstOpen
taken_at_first_open flags n s a = record {
  from = from_moment flags n s a;
  opens = λ l. at_open flags n s a l;
  least = λ j l g h. (elim (cases_Bool (may_interrupt (uninterrupted flags j s))) [
    | inl e ↦ (let early = at_first flags n s a j l h e in absurd (omega arith))
    | inr e ↦ e
  ]);
}

-- where I is 0 throughout a request is taken at its moment
at_once : (flags : ℕ) (s : State) (k m : ℕ)
    → ((j : ℕ) → j < m + k → may_interrupt (uninterrupted flags j s) ≡ true) → first_open flags s k m ≡ m
at_once flags s zero m h = refl
at_once flags s (suc k) m h = let e = h m (omega arith) in rw e refl

pub taken_at_once : TakenAtOnce
taken_at_once flags n s a h = by (within n a)
  where
    within : (n a : ℕ) → (n - a ≡ 0) ⊎ (n - a + a ≡ n)
    within n a = grind arith

    by : (n - a ≡ 0) ⊎ (n - a + a ≡ n) → first_open flags s (n - a) a ≡ a
    by (inl e) = ap (λ (k : ℕ). first_open flags s k a) e
    by (inr e) = at_once flags s (n - a) a (λ j l. h j (omega arith))
