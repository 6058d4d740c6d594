-- What is expected boundary by boundary is what is expected request by request.
use Rattle.std.proofs.Common.{◌≡◌, ℕ, zero, suc, ◌+◌, ◌<◌, ◌≤◌, Bool, true, false, not, ◌&&◌, nat_lt, Option, Some}
use Rattle.std.proofs.Common.{None, List, [], ◌∷◌, ◌++◌, refl, ap, ap₂, sym, ◌∙◌, subst, arith, inl, inr}
use Rattle.std.specs.Prelude.{if◌then◌else◌, ◌==◌}
use Rattle.std.proofs.lemmas.Bool.Decides.{nat_tests}
use Rattle.cpu12_parts.specs.State.{State}
use Rattle.cpu12_emul.specs.{Take.FrameSeen, Step.is_part}
use Rattle.run_law.specs.{Forms.one_if, Forms.is_empty, Soundness.Ascend}
use Rattle.run_law.specs.Uninterrupted.{stepped, kind_at, uninterrupted, is_inside, has_moment, taken_before}
use Rattle.run_law.specs.Uninterrupted.{left_from, resumed_of, expected_frame, is_new, frames_after, frames_of}
use Rattle.run_law.proofs.Boundaries.{drop_due, frames_here, taken_here}
use Rattle.run_law.proofs.Moments.{le_true, le_false, split, ascend_less}

-- what is expected, boundary by boundary, of requests that are taken at these boundaries
abbrev pub frames_along : {A : Type 0} → ℕ → (A → ℕ) → ℕ → ℕ → List A → State → List (ℕ × FrameSeen)
frames_along flags moment m zero qs s = []
frames_along flags moment m (suc n) qs s =
    frames_here moment true true m s qs ++ frames_along flags moment (suc m) n (drop_due moment true m qs)
    (stepped flags s)

abbrev pub resumed_along : {A : Type 0} → ℕ → (A → ℕ) → ℕ → Bool → ℕ → List A → State → ℕ
resumed_along flags moment m inside zero qs s = 0
resumed_along flags moment m inside (suc n) qs s =
    one_if (inside && not (is_empty (frames_here moment true true m s qs))) + resumed_along flags moment (suc m)
    (is_part (kind_at flags s)) n (drop_due moment true m qs) (stepped flags s)

abbrev pub taken_along : {A : Type 0} → (A → ℕ) → ℕ → ℕ → List A → List A
taken_along moment m zero qs = []
taken_along moment m (suc n) qs =
    taken_here moment true m qs ++ taken_along moment (suc m) n (drop_due moment true m qs)

abbrev pub left_along : {A : Type 0} → (A → ℕ) → ℕ → ℕ → List A → List A
left_along moment m zero qs = qs
left_along moment m (suc n) qs = left_along moment (suc m) n (drop_due moment true m qs)

pub uninterrupted_suc : (flags m : ℕ) (s : State)
    → uninterrupted flags (suc m) s ≡ stepped flags (uninterrupted flags m s)
uninterrupted_suc flags zero s = refl
uninterrupted_suc flags (suc m) s = uninterrupted_suc flags m (stepped flags s)

lt_true : (a b : ℕ) → a < b → nat_lt a b ≡ true
lt_true a b h = grind (arith, nat_tests)

lt_false : (a b : ℕ) → b ≤ a → nat_lt a b ≡ false
lt_false a b h = grind (arith, nat_tests)

eq_true : (a b : ℕ) → a ≡ b → (a == b) ≡ true
eq_true a b h = grind (arith, nat_tests)

eq_false : (a b : ℕ) → (a ≡ b → ⊥) → (a == b) ≡ false
eq_false a b h = grind (arith, nat_tests)

pub ascend_rest : {A : Type 0} (moment : A → ℕ) (m : ℕ) (qs : List A) → Ascend moment m qs
    → Ascend moment (suc m) (drop_due moment true m qs)
ascend_rest moment m [] h = tt
ascend_rest {A = A} moment m (q ∷ qs) h = elim (split (moment q) m) [
  | inl due ↦ subst (λ (b : Bool). Ascend moment (suc m) (if b then drop_due moment true m qs else q ∷ qs))
      (sym (le_true (moment q) m due)) (ascend_rest moment m qs (ascend_less moment m (moment q) qs h.0 h.1))
  | inr not_due ↦ subst (λ (b : Bool). Ascend moment (suc m) (if b then drop_due moment true m qs else q ∷ qs))
      (sym (le_false (moment q) m not_due)) (omega arith, h.1)
]

none_taken : {A : Type 0} (moment : A → ℕ) (n : ℕ) (qs : List A) → Ascend moment n qs → taken_before moment n qs ≡ []
none_taken moment n [] h = refl
none_taken moment n (q ∷ qs) h =
    rw (lt_false (moment q) n h.0) (none_taken moment n qs (ascend_less moment n (moment q) qs h.0 h.1))

-- rows that come after the moment before
fresh_none : {A : Type 0} (moment : A → ℕ) (flags : ℕ) (s : State) (before : Option ℕ) (j n : ℕ) (qs : List A)
    → ((k : ℕ) → j ≤ k → is_new before k ≡ true) → Ascend moment j qs
    → frames_after flags moment s before (taken_before moment n qs) ≡ frames_after flags moment s None
    (taken_before moment n qs)
fresh_none moment flags s before j n [] f h = refl
fresh_none moment flags s before j n (q ∷ qs) f h = elim (split n (moment q)) [
  | inl past ↦ rw (lt_false (moment q) n past)
      (fresh_none moment flags s before j n qs f (ascend_less moment j (moment q) qs h.0 h.1))
  | inr here ↦ rw (lt_true (moment q) n here, f (moment q) h.0) refl
]

-- the rows of one boundary come first
here_first : {A : Type 0} (moment : A → ℕ) (flags : ℕ) (s : State) (first : Bool) (before : Option ℕ) (m n : ℕ)
    (qs : List A) → m < n → is_new before m ≡ first → ((k : ℕ) → m < k → is_new before k ≡ true)
    → Ascend moment m qs
    → frames_here moment true first m (uninterrupted flags m s) qs ++ frames_after flags moment s None
    (taken_before moment n (drop_due moment true m qs)) ≡ frames_after flags moment s before
    (taken_before moment n qs)
here_first moment flags s first before m n [] l e f h = refl
here_first {A = A} moment flags s first before m n (q ∷ qs) l e f h = elim (split (moment q) m) [
  | inl due ↦
      let at : m ≡ (moment q) = omega (arith, h.0) in
      let again : is_new (Some (moment q)) m ≡ false = ap not (eq_true (moment q) m (sym at)) in
      let later : (k : ℕ) → m < k → is_new (Some (moment q)) k ≡ true =
      λ k g. ap not (eq_false (moment q) k (λ z. omega arith)) in
      let r = here_first moment flags s false (Some (moment q)) m n qs l again later
      (ascend_less moment m (moment q) qs h.0 h.1) in
      let head : (m, expected_frame first (uninterrupted flags m s))
      ≡ ((moment q), expected_frame (is_new before (moment q)) (uninterrupted flags (moment q) s)) =
      ap (λ (b : Bool). one_frame m b m) (sym e) ∙ ap (λ (k : ℕ). one_frame k (is_new before k) k) at in
      rw (le_true (moment q) m due, lt_true (moment q) n (omega arith))
      (ap₂ (λ (x : ℕ × FrameSeen) (xs : List (ℕ × FrameSeen)). x ∷ xs) head r)
  | inr not_due ↦ rw (le_false (moment q) m not_due)
      (sym (fresh_none moment flags s before (suc m) n (q ∷ qs) (λ k g. f k (omega arith)) (omega arith, h.1)))
]
  where
    one_frame : ℕ → Bool → ℕ → ℕ × FrameSeen
    one_frame k b j = (k, expected_frame b (uninterrupted flags j s))

pub frames_are : {A : Type 0} (moment : A → ℕ) (flags : ℕ) (s : State) (n m : ℕ) (qs : List A) → Ascend moment m qs
    → frames_along flags moment m n qs (uninterrupted flags m s) ≡ frames_after flags moment s None
    (taken_before moment (m + n) qs)
frames_are {A = A} moment flags s zero m qs h =
    let e : m + 0 ≡ m = omega arith in
    sym (ap (λ (k : ℕ). frames_after flags moment s None (taken_before moment k qs)) e
    ∙ ap (λ (l : List A). frames_after flags moment s None l) (none_taken moment m qs h))
frames_are {A = A} moment flags s (suc n) m qs h =
    let e : suc m + n ≡ m + suc n = omega arith in
    let r = frames_are moment flags s n (suc m) (drop_due moment true m qs) (ascend_rest moment m qs h) in
    let r2 : frames_along flags moment (suc m) n (drop_due moment true m qs) (stepped flags (uninterrupted flags m s))
    ≡ frames_after flags moment s None (taken_before moment (m + suc n) (drop_due moment true m qs)) =
    ap (λ (t : State). frames_along flags moment (suc m) n (drop_due moment true m qs) t)
    (sym (uninterrupted_suc flags m s)) ∙ r
    ∙ ap (λ (k : ℕ). frames_after flags moment s None (taken_before moment k (drop_due moment true m qs))) e in
    ap (λ (l : List (ℕ × FrameSeen)). frames_here moment true true m (uninterrupted flags m s) qs ++ l) r2
    ∙ here_first moment flags s true None m (m + suc n) qs (omega arith) refl (λ k g. refl) h

-- the counted boundaries, from m on
resumed_on : {A : Type 0} → (A → ℕ) → ℕ → State → List A → ℕ → ℕ → ℕ
resumed_on moment flags s qs m zero = 0
resumed_on moment flags s qs m (suc n) =
    one_if (is_inside flags s m && has_moment moment m qs) + resumed_on moment flags s qs (suc m) n

one_later : {A : Type 0} (moment : A → ℕ) (flags : ℕ) (s : State) (qs : List A) (m n : ℕ)
    → resumed_on moment flags s qs m (suc n) ≡ resumed_on moment flags s qs m n + one_if
    (is_inside flags s (m + n) && has_moment moment (m + n) qs)
unfolding resumed_on
one_later moment flags s qs m zero =
    let e : m + 0 ≡ m = omega arith in rw e (omega arith)
one_later moment flags s qs m (suc n) =
    let e : suc m + n ≡ m + suc n = omega arith in
    let r = subst (λ (k : ℕ). resumed_on moment flags s qs (suc m) (suc n) ≡ resumed_on moment flags s qs
    (suc m) n + one_if (is_inside flags s k && has_moment moment k qs)) e (one_later moment flags s qs (suc m) n) in
    omega (arith, r)

-- rows that are taken count no more later
same_on : {A : Type 0} (moment : A → ℕ) (flags : ℕ) (s : State) (a b : List A) (m n : ℕ)
    → ((k : ℕ) → m ≤ k → has_moment moment k a ≡ has_moment moment k b)
    → resumed_on moment flags s a m n ≡ resumed_on moment flags s b m n
unfolding resumed_on
same_on moment flags s a b m zero h = refl
same_on moment flags s a b m (suc n) h =
    ap₂ (λ (x : Bool) (k : ℕ). one_if (is_inside flags s m && x) + k) (h m (omega arith))
    (same_on moment flags s a b (suc m) n (λ k g. h k (omega arith)))

not_due_yet : {A : Type 0} (moment : A → ℕ) (k : ℕ) (qs : List A) → Ascend moment (suc k) qs
    → has_moment moment k qs ≡ false
not_due_yet moment k [] h = refl
not_due_yet moment k (q ∷ qs) h =
    rw (eq_false (moment q) k (λ e. omega (arith, h.0, e)))
    (not_due_yet moment k qs (ascend_less moment (suc k) (moment q) qs h.0 h.1))

left_later : {A : Type 0} (moment : A → ℕ) (m k : ℕ) (qs : List A) → m < k
    → has_moment moment k (drop_due moment true m qs) ≡ has_moment moment k qs
left_later moment m k [] l = refl
left_later moment m k (q ∷ qs) l = elim (split (moment q) m) [
  | inl due ↦ rw (le_true (moment q) m due, eq_false (moment q) k (λ e. omega arith)) (left_later moment m k qs l)
  | inr not_due ↦ rw (le_false (moment q) m not_due) refl
]

some_here : {A : Type 0} (moment : A → ℕ) (m : ℕ) (s : State) (qs : List A) → Ascend moment m qs
    → not (is_empty (frames_here moment true true m s qs)) ≡ has_moment moment m qs
some_here moment m s [] h = refl
some_here moment m s (q ∷ qs) h = elim (split (moment q) m) [
  | inl due ↦ rw (le_true (moment q) m due, eq_true (moment q) m (omega (arith, h.0))) refl
  | inr not_due ↦ rw (le_false (moment q) m not_due) (sym (not_due_yet moment m (q ∷ qs) (omega arith, h.1)))
]

resumed_are : {A : Type 0} (moment : A → ℕ) (flags : ℕ) (s : State) (n m : ℕ) (qs : List A) → Ascend moment m qs
    → resumed_along flags moment m (is_inside flags s m) n qs (uninterrupted flags m s)
    ≡ resumed_on moment flags s qs m n
unfolding resumed_on
resumed_are moment flags s zero m qs h = refl
resumed_are moment flags s (suc n) m qs h =
    let r = resumed_are moment flags s n (suc m) (drop_due moment true m qs) (ascend_rest moment m qs h) in
    let r2 : resumed_along flags moment (suc m) (is_part (kind_at flags (uninterrupted flags m s))) n
    (drop_due moment true m qs) (stepped flags (uninterrupted flags m s)) ≡ resumed_on moment flags s qs (suc m) n =
    ap (λ (t : State). resumed_along flags moment (suc m) (is_part (kind_at flags (uninterrupted flags m s))) n
    (drop_due moment true m qs) t) (sym (uninterrupted_suc flags m s)) ∙ r
    ∙ same_on moment flags s (drop_due moment true m qs) qs (suc m) n (λ k g. left_later moment m k qs g) in
    ap₂ (λ (b : Bool) (k : ℕ). one_if (is_inside flags s m && b) + k)
    (some_here moment m (uninterrupted flags m s) qs h) r2

-- none counts before the first
and_false : (b : Bool) → one_if (b && false) ≡ 0
and_false true = refl
and_false false = refl

none_before : {A : Type 0} (moment : A → ℕ) (flags : ℕ) (s : State) (qs : List A) (m k : ℕ) → k ≤ m → Ascend moment m qs
    → resumed_of flags moment s qs k ≡ 0
none_before moment flags s qs m zero l h = refl
none_before moment flags s qs m (suc k) l h =
    let r = none_before moment flags s qs m k (omega arith) h in
    let e = ap (λ (b : Bool). one_if (is_inside flags s k && b))
    (not_due_yet moment k qs (ascend_less moment (suc k) m qs l h)) ∙ and_false (is_inside flags s k) in
    omega (arith, r, e)

counted_from : {A : Type 0} (moment : A → ℕ) (flags : ℕ) (s : State) (qs : List A) (m n : ℕ)
    → resumed_of flags moment s qs (m + n) ≡ resumed_of flags moment s qs m + resumed_on moment flags s qs m n
unfolding resumed_on
counted_from moment flags s qs m zero =
    let e : m + 0 ≡ m = omega arith in
    ap (λ (k : ℕ). resumed_of flags moment s qs k) e
    ∙ (let z : resumed_of flags moment s qs m ≡ resumed_of flags moment s qs m + 0 = omega arith in z)
counted_from moment flags s qs m (suc n) =
    let e : m + suc n ≡ suc (m + n) = omega arith in
    let r = counted_from moment flags s qs m n in
    let l = one_later moment flags s qs m n in
    ap (λ (k : ℕ). resumed_of flags moment s qs k) e ∙ omega (arith, r, l)

pub resumed_whole : {A : Type 0} (moment : A → ℕ) (flags : ℕ) (s : State) (m n all : ℕ) (qs : List A) → m + n ≡ all
    → Ascend moment m qs
    → resumed_along flags moment m (is_inside flags s m) n qs (uninterrupted flags m s)
    ≡ resumed_of flags moment s qs all
resumed_whole moment flags s m n all qs sum h =
    let r = resumed_are moment flags s n m qs h in
    let c = counted_from moment flags s qs m n in
    let z = none_before moment flags s qs m m (omega arith) h in
    let e : resumed_on moment flags s qs m n ≡ resumed_of flags moment s qs (m + n) = omega (arith, c, z) in
    r ∙ e ∙ ap (λ (k : ℕ). resumed_of flags moment s qs k) sum

pub frames_whole : {A : Type 0} (moment : A → ℕ) (flags : ℕ) (s : State) (m n all : ℕ) (qs : List A) → m + n ≡ all
    → Ascend moment m qs → frames_along flags moment m n qs (uninterrupted flags m s) ≡ frames_of flags moment s qs all
frames_whole moment flags s m n all qs sum h = frames_are moment flags s n m qs h
    ∙ ap (λ (k : ℕ). frames_after flags moment s None (taken_before moment k qs)) sum

-- and the requests
here_then : {A : Type 0} (moment : A → ℕ) (m n : ℕ) (qs : List A) → m < n
    → taken_here moment true m qs ++ taken_before moment n (drop_due moment true m qs) ≡ taken_before moment n qs
here_then moment m n [] l = refl
here_then {A = A} moment m n (q ∷ qs) l = elim (split (moment q) m) [
  | inl due ↦ rw (le_true (moment q) m due, lt_true (moment q) n (omega arith))
      (ap (λ (xs : List A). q ∷ xs) (here_then moment m n qs l))
  | inr not_due ↦ rw (le_false (moment q) m not_due) refl
]

pub taken_whole : {A : Type 0} (moment : A → ℕ) (m n all : ℕ) (qs : List A) → m + n ≡ all → Ascend moment m qs
    → taken_along moment m n qs ≡ taken_before moment all qs
taken_whole moment m zero all qs sum h =
    let e : m ≡ all = omega (arith, sum) in sym (none_taken moment all qs (subst (λ (k : ℕ). Ascend moment k qs) e h))
taken_whole {A = A} moment m (suc n) all qs sum h =
    ap (λ (xs : List A). taken_here moment true m qs ++ xs)
    (taken_whole moment (suc m) n all (drop_due moment true m qs) (omega arith) (ascend_rest moment m qs h))
    ∙ here_then moment m all qs (omega arith)

all_left : {A : Type 0} (moment : A → ℕ) (n : ℕ) (qs : List A) → Ascend moment n qs → left_from moment n qs ≡ qs
all_left moment n [] h = refl
all_left {A = A} moment n (q ∷ qs) h =
    rw (lt_false (moment q) n h.0)
    (ap (λ (xs : List A). q ∷ xs) (all_left moment n qs (ascend_less moment n (moment q) qs h.0 h.1)))

left_then : {A : Type 0} (moment : A → ℕ) (m n : ℕ) (qs : List A) → m < n
    → left_from moment n (drop_due moment true m qs) ≡ left_from moment n qs
left_then moment m n [] l = refl
left_then moment m n (q ∷ qs) l = elim (split (moment q) m) [
  | inl due ↦ rw (le_true (moment q) m due, lt_true (moment q) n (omega arith)) (left_then moment m n qs l)
  | inr not_due ↦ rw (le_false (moment q) m not_due) refl
]

pub left_whole : {A : Type 0} (moment : A → ℕ) (m n all : ℕ) (qs : List A) → m + n ≡ all → Ascend moment m qs
    → left_along moment m n qs ≡ left_from moment all qs
left_whole moment m zero all qs sum h =
    let e : m ≡ all = omega (arith, sum) in sym (all_left moment all qs (subst (λ (k : ℕ). Ascend moment k qs) e h))
left_whole moment m (suc n) all qs sum h =
    left_whole moment (suc m) n all (drop_due moment true m qs) (omega arith) (ascend_rest moment m qs h)
    ∙ left_then moment m all qs (omega arith)
