-- What serves for the masses of all cuts serves for all masses.
use Rattle.std.proofs.Common.{◌≡◌, ◌⊎◌, inl, inr, ⊎_elim, ℕ, zero, suc, ◌+◌, ◌*◌, ◌<◌, ◌≤◌, List, [], ◌∷◌, Bool, true}
use Rattle.std.proofs.Common.{false}
use Rattle.std.proofs.Common.{refl, sym, subst, ap, ◌∙◌, cond, length, take, get_or, max, arith, mul-le-mul_right}
use Rattle.std.specs.Prelude.{if◌then◌else◌, nat_le, ◌==◌, All, IsTrue, ◌↔◌}
use Rattle.std.proofs.lemmas.Bool.{cases_lt, leb-true, leb-false, le-leb, eq-eqb}
use Rattle.std.proofs.lemmas.Bool.Decides.{nat_tests}
use Rattle.fz_num.specs.Fractions.{over}
use Rattle.cell_error.specs.declared.{ranges.MassRange.MassRange, ranges.Answer.Answer, cuts.Cut.Cut}
use Rattle.cell_error.specs.declared.cuts.Cut.TheVariants.{Nowhere, From, UpTo, AtLeast, AtMost}
use Rattle.cell_error.specs.Errors.{AreBetween, total, weighted, answer_of, IsWithin, Covers, IsCellError, IsRange}
use Rattle.cell_error.specs.Cuts.{is_high, chosen, masses, IsErrorAt}
use Rattle.cell_error.proofs.Tilts.{tilt_up, tilt_down}
use Rattle.cell_error.proofs.Extremes.{Each, each_more, each_next, chosen_same, First, first, agree}
use Rattle.cell_error.proofs.Withins.{step, top, bottom, within_up, within_down, within_back, within_more}

-- ---- above

abbrev IsUp : ℕ → ℕ → List MassRange → List ℕ → Type 0
IsUp x y ts ms = x * weighted ts ms ≤ y * total ms

pub up_of_test : (Q : List ℕ → Type 0) (x y : ℕ) (ts : List MassRange) → Q (masses Nowhere ts)
    → Each (λ c. Q (masses (From c) ts)) ts → Q (chosen (λ u. nat_le y (x * u)) ts)
up_of_test Q x y ts none each =
    let p : ℕ → Bool = λ u. nat_le y (x * u) in
    let P : ℕ → Type 0 = λ c. Q (masses (From c) ts) in
    let R : ℕ → ℕ → Type 0 = λ a b. a ≤ b in
    ⊎_elim
    (λ (n : Each (λ u. p u ≡ false) ts).
    subst Q (sym (chosen_same p (is_high Nowhere) ts n)) none)
    (λ (f : First R P p ts).
    let c = f.at in
    let le : y ≤ x * c = leb-true y (x * c) f.holds in
    let a : Each (λ u. p u ≡ is_high (From c) u) ts =
    agree R (λ a. omega arith) (λ a b c k l. omega arith) (λ a b. up_or a b) P p (is_high (From c)) c
    (λ u l. (le-leb y (x * u) (on u c l le), le-leb c u l)) (λ u e. leb-true c u e) ts f.none_before in
    subst Q (sym (chosen_same p (is_high (From c)) ts a)) f.good)
    (first R (λ a. omega arith) (λ a b c k l. omega arith) (λ a b. up_or a b) P p ts each)
  where
    up_or : (a b : ℕ) → (a ≤ b) ⊎ (b ≤ a)
    up_or a b = ⊎_elim (λ (l : a < b). inl (omega arith)) (λ (l : b ≤ a). inr l) (cases_lt a b)

    on : (u c : ℕ) → c ≤ u → y ≤ x * c → y ≤ x * u
    on u c l le = let m : c * x ≤ u * x = mul-le-mul_right x l in omega arith

up_of : (x y : ℕ) (ts : List MassRange) → IsUp x y ts (masses Nowhere ts)
    → Each (λ c. IsUp x y ts (masses (From c) ts)) ts → (d : ℕ) (ms : List ℕ) → AreBetween d ts ms → IsUp x y ts ms
up_of x y ts none each d ms b =
    let p : ℕ → Bool = λ u. nat_le y (x * u) in
    let t = tilt_up x y d p (λ u e. leb-true y (x * u) e)
    (λ u e. let l = leb-false y (x * u) e in omega arith) ts ms b in
    let s : x * weighted ts (chosen p ts) ≤ y * total (chosen p ts) = up_of_test (IsUp x y ts) x y ts none each in
    let k : x * weighted ts (chosen p ts) * d ≤ y * total (chosen p ts) * d = mul-le-mul_right d s in
    omega arith

-- ---- below

abbrev IsDown : ℕ → ℕ → List MassRange → List ℕ → Type 0
IsDown x y ts ms = y * total ms ≤ x * weighted ts ms

pub down_of_test : (Q : List ℕ → Type 0) (x y : ℕ) (ts : List MassRange) → Q (masses Nowhere ts)
    → Each (λ c. Q (masses (UpTo c) ts)) ts → Q (chosen (λ u. nat_le (x * u) y) ts)
down_of_test Q x y ts none each =
    let p : ℕ → Bool = λ u. nat_le (x * u) y in
    let P : ℕ → Type 0 = λ c. Q (masses (UpTo c) ts) in
    let R : ℕ → ℕ → Type 0 = λ a b. b ≤ a in
    ⊎_elim
    (λ (n : Each (λ u. p u ≡ false) ts).
    subst Q (sym (chosen_same p (is_high Nowhere) ts n)) none)
    (λ (f : First R P p ts).
    let c = f.at in
    let le : x * c ≤ y = leb-true (x * c) y f.holds in
    let a : Each (λ u. p u ≡ is_high (UpTo c) u) ts =
    agree R (λ a. omega arith) (λ a b c k l. omega arith) (λ a b. down_or a b) P p (is_high (UpTo c)) c
    (λ u l. (le-leb (x * u) y (on u c l le), le-leb u c l)) (λ u e. leb-true u c e) ts f.none_before in
    subst Q (sym (chosen_same p (is_high (UpTo c)) ts a)) f.good)
    (first R (λ a. omega arith) (λ a b c k l. omega arith) (λ a b. down_or a b) P p ts each)
  where
    down_or : (a b : ℕ) → (b ≤ a) ⊎ (a ≤ b)
    down_or a b = ⊎_elim (λ (l : a < b). inr (omega arith)) (λ (l : b ≤ a). inl l) (cases_lt a b)

    on : (u c : ℕ) → u ≤ c → x * c ≤ y → x * u ≤ y
    on u c l le = let m : u * x ≤ c * x = mul-le-mul_right x l in omega arith

down_of : (x y : ℕ) (ts : List MassRange) → IsDown x y ts (masses Nowhere ts)
    → Each (λ c. IsDown x y ts (masses (UpTo c) ts)) ts → (d : ℕ) (ms : List ℕ) → AreBetween d ts ms
    → IsDown x y ts ms
down_of x y ts none each d ms b =
    let p : ℕ → Bool = λ u. nat_le (x * u) y in
    let t = tilt_down x y d p (λ u e. leb-true (x * u) y e)
    (λ u e. let l = leb-false (x * u) y e in omega arith) ts ms b in
    let s : y * total (chosen p ts) ≤ x * weighted ts (chosen p ts) = down_of_test (IsDown x y ts) x y ts none each in
    let k : y * total (chosen p ts) * d ≤ x * weighted ts (chosen p ts) * d = mul-le-mul_right d s in
    omega arith

-- ---- both

pub weighted_le : (w : ℕ) (ts : List MassRange) (ms : List ℕ) → Each (λ u. u ≤ w) ts → weighted ts ms ≤ w * total ms
weighted_le w [] ms h = omega arith
weighted_le w (t ∷ ts) [] h = omega arith
weighted_le w (t ∷ ts) (m ∷ ms) h =
    let tail = weighted_le w ts ms h.1 in
    let one : t.at * m ≤ w * m = mul-le-mul_right m h.0 in
    omega arith

pub answer_some : (ts : List MassRange) (rest : ℕ) (ms : List ℕ) → 0 < total ms
    → answer_of ts rest ms ≡ over (weighted ts ms) (total ms)
answer_some ts rest ms h = let e : (total ms == 0) ≡ false = grind (arith, nat_tests) in
    ap (λ v. cond v (over rest 1) (over (weighted ts ms) (total ms))) e

pub answer_none : (ts : List MassRange) (rest : ℕ) (ms : List ℕ) → total ms ≡ 0 → answer_of ts rest ms ≡ over rest 1
answer_none ts rest ms h = let e : (total ms == 0) ≡ true = eq-eqb (total ms) 0 h in
    ap (λ v. cond v (over rest 1) (over (weighted ts ms) (total ms))) e

pub cases_zero : (n : ℕ) → (n ≡ 0) ⊎ (0 < n)
cases_zero n = ⊎_elim (λ (l : 0 < n). inr l) (λ (l : n ≤ 0). inl (omega arith)) (cases_lt 0 n)

-- what is within of the answer to some masses is so by both products
module _ (a : Answer) (e : ℕ) (ts : List MassRange) (rest : ℕ) (h : Each (λ u. u ≤ a.width) ts) where
  answer_up : (ms : List ℕ) → IsWithin a e (answer_of ts rest ms) → IsUp (step a) (top a e) ts ms
  answer_up ms w = ⊎_elim
      (λ (z : total ms ≡ 0). let l = weighted_le a.width ts ms h in
      let k : a.width * total ms ≡ a.width * 0 = ap (λ n. a.width * n) z in
      let q : weighted ts ms ≡ 0 = omega arith in
      let j : step a * weighted ts ms ≡ step a * 0 = ap (λ n. step a * n) q in
      omega arith)
      (λ (p : 0 < total ms). within_up a e (weighted ts ms) (total ms)
      (subst (IsWithin a e) (answer_some ts rest ms p) w))
      (cases_zero (total ms))

  answer_down : (ms : List ℕ) → IsWithin a e (answer_of ts rest ms) → IsDown (step a) (bottom a e) ts ms
  answer_down ms w = ⊎_elim
      (λ (z : total ms ≡ 0). let j : bottom a e * total ms ≡ bottom a e * 0 = ap (λ n. bottom a e * n) z in omega arith)
      (λ (p : 0 < total ms). within_down a e (weighted ts ms) (total ms)
      (subst (IsWithin a e) (answer_some ts rest ms p) w))
      (cases_zero (total ms))

-- where there is no mass, there may be none
zero_lows : (d : ℕ) (ts : List MassRange) (ms : List ℕ) → 1 ≤ d → AreBetween d ts ms → total ms ≡ 0
    → total (masses Nowhere ts) ≡ 0
zero_lows d [] [] p b z = refl
zero_lows d [] (m ∷ ms) p b z = absurd b
zero_lows d (t ∷ ts) [] p b z = absurd b
zero_lows d (t ∷ ts) (m ∷ ms) p b z =
    let tail : total (masses Nowhere ts) ≡ 0 = zero_lows d ts ms p b.2 (omega arith) in
    let l : 1 * t.low ≤ d * t.low = mul-le-mul_right t.low p in
    let k = b.0 in
    omega arith

pub covers_of_cuts : (a : Answer) (ts : List MassRange) (rest e : ℕ) → Each (λ u. u ≤ a.width) ts
    → IsWithin a e (answer_of ts rest (masses Nowhere ts))
    → Each (λ c. IsWithin a e (answer_of ts rest (masses (From c) ts))) ts
    → Each (λ c. IsWithin a e (answer_of ts rest (masses (UpTo c) ts))) ts → Covers a ts rest e
covers_of_cuts a ts rest e h none from upto d ms p b = ⊎_elim
    (λ (z : total ms ≡ 0).
    let zl = zero_lows d ts ms p b z in
    subst (IsWithin a e) (answer_none ts rest (masses Nowhere ts) zl ∙ sym (answer_none ts rest ms z)) none)
    (λ (m : 0 < total ms).
    let u = up_of (step a) (top a e) ts (answer_up a e ts rest h (masses Nowhere ts) none)
    (each_more (λ c. IsWithin a e (answer_of ts rest (masses (From c) ts)))
    (λ c. IsUp (step a) (top a e) ts (masses (From c) ts))
    (λ c w. answer_up a e ts rest h (masses (From c) ts) w) ts from)
    d ms b in
    let l = down_of (step a) (bottom a e) ts (answer_down a e ts rest h (masses Nowhere ts) none)
    (each_more (λ c. IsWithin a e (answer_of ts rest (masses (UpTo c) ts)))
    (λ c. IsDown (step a) (bottom a e) ts (masses (UpTo c) ts))
    (λ c w. answer_down a e ts rest h (masses (UpTo c) ts) w) ts
    upto) d ms b in
    subst (IsWithin a e) (sym (answer_some ts rest ms m)) (within_back a e (weighted ts ms) (total ms) u l))
    (cases_zero (total ms))

-- ---- the cuts' own masses

pub each_in : (w : ℕ) (ts : List MassRange) → All (IsRange w) ts → Each (λ u. u ≤ w) ts
each_in w [] h = tt
each_in w (t ∷ ts) h = ((h 0 t (omega arith)).at_to, each_in w ts (λ k d l. h (suc k) d (omega arith)))

chosen_between : (w : ℕ) (p : ℕ → Bool) (ts : List MassRange) → All (IsRange w) ts → AreBetween 1 ts (chosen p ts)
chosen_between w p [] h = tt
chosen_between w p (t ∷ ts) h =
    let r = h 0 t (omega arith) in
    let one = by_test (p t.at) r.low_to in
    (one.0, one.1, chosen_between w p ts (λ k d l. h (suc k) d (omega arith)))
  where
    by_test : (v : Bool) → t.low ≤ t.high
        → (t.low * 1 ≤ (if v then t.high else t.low)) × ((if v then t.high else t.low) ≤ t.high * 1)
    by_test true l = (omega arith, omega arith)
    by_test false l = (omega arith, omega arith)

-- what covers all masses serves at each cut
pub at_cut : (a : Answer) (ts : List MassRange) (rest f : ℕ) (c : Cut) → All (IsRange a.width) ts → Covers a ts rest f
    → IsWithin a f (answer_of ts rest (masses c ts))
at_cut a ts rest f c h k = k 1 (masses c ts) (omega arith) (chosen_between a.width (is_high c) ts h)

-- ---- the greatest of the cuts so far

pub record IsCutsError (a : Answer) (ts : List MassRange) (rest i e : ℕ) : Type 0 where
  pub nowhere : IsWithin a e (answer_of ts rest (masses Nowhere ts))
  pub from : Each (λ c. IsWithin a e (answer_of ts rest (masses (From c) ts))) (take i ts)
  pub up_to : Each (λ c. IsWithin a e (answer_of ts rest (masses (UpTo c) ts))) (take i ts)
  pub least : (f : ℕ) → Covers a ts rest f → e ≤ f

pub cuts_none : (a : Answer) (ts : List MassRange) (rest e : ℕ) → All (IsRange a.width) ts
    → IsErrorAt a (answer_of ts rest (masses Nowhere ts)) e → IsCutsError a ts rest 0 e
cuts_none a ts rest e h n = record {
  nowhere = n.within;
  from = tt;
  up_to = tt;
  least = λ f k. n.least f (at_cut a ts rest f Nowhere h k);
}

pub cuts_next : (a : Answer) (ts : List MassRange) (rest i e x y : ℕ) (t : MassRange) → i < length ts
    → All (IsRange a.width) ts → IsCutsError a ts rest i e
    → IsErrorAt a (answer_of ts rest (masses (From (get_or ts i t).at) ts)) x
    → IsErrorAt a (answer_of ts rest (masses (UpTo (get_or ts i t).at) ts)) y
    → IsCutsError a ts rest (i + 1) (max (max e x) y)
cuts_next a ts rest i e x y t l h s ex ey =
    let n = max (max e x) y in
    let le : e ≤ n = omega arith in
    let lx : x ≤ n = omega arith in
    let ly : y ≤ n = omega arith in
    let next : suc i ≡ i + 1 = omega arith in
    let F : ℕ → ℕ → Type 0 = λ k c. IsWithin a k (answer_of ts rest (masses (From c) ts)) in
    let U : ℕ → ℕ → Type 0 = λ k c. IsWithin a k (answer_of ts rest (masses (UpTo c) ts)) in
    record {
      nowhere = within_more a e n (answer_of ts rest (masses Nowhere ts)) le s.nowhere;
      from = subst (λ j. Each (F n) (take j ts)) next
          (each_next (F n) ts i t l
          (each_more (F e) (F n) (λ c w. within_more a e n (answer_of ts rest (masses (From c) ts)) le w)
          (take i ts) s.from)
          (within_more a x n (answer_of ts rest (masses (From (get_or ts i t).at) ts)) lx ex.within));
      up_to = subst (λ j. Each (U n) (take j ts)) next
          (each_next (U n) ts i t l
          (each_more (U e) (U n) (λ c w. within_more a e n (answer_of ts rest (masses (UpTo c) ts)) le w)
          (take i ts) s.up_to)
          (within_more a y n (answer_of ts rest (masses (UpTo (get_or ts i t).at) ts)) ly ey.within));
      least = λ f k.
          let a1 = s.least f k in
          let a2 = ex.least f (at_cut a ts rest f (From (get_or ts i t).at) h k) in
          let a3 = ey.least f (at_cut a ts rest f (UpTo (get_or ts i t).at) h k) in
          omega arith;
    }

pub take_all : (i : ℕ) (ts : List MassRange) → length ts ≤ i → take i ts ≡ ts
take_all zero [] l = refl
take_all zero (t ∷ ts) l = absurd (omega arith)
take_all (suc i) [] l = refl
take_all (suc i) (t ∷ ts) l = ap (λ xs. t ∷ xs) (take_all i ts (omega arith))

pub cuts_all : (a : Answer) (ts : List MassRange) (rest i e : ℕ) → length ts ≤ i → All (IsRange a.width) ts
    → IsCutsError a ts rest i e → IsCellError a ts rest e
cuts_all a ts rest i e l h s =
    let whole : take i ts ≡ ts = take_all i ts l in
    let F : ℕ → Type 0 = λ c. IsWithin a e (answer_of ts rest (masses (From c) ts)) in
    let U : ℕ → Type 0 = λ c. IsWithin a e (answer_of ts rest (masses (UpTo c) ts)) in
    record {
      covers = covers_of_cuts a ts rest e (each_in a.width ts h) s.nowhere (subst (Each F) whole s.from)
          (subst (Each U) whole s.up_to);
      least = s.least;
    }

-- ---- whether an error serves

up_by : (x y : ℕ) (ts : List MassRange) → IsUp x y ts (masses (AtLeast x y) ts) → (d : ℕ) (ms : List ℕ)
    → AreBetween d ts ms → IsUp x y ts ms
up_by x y ts s d ms b =
    let p : ℕ → Bool = λ u. nat_le y (x * u) in
    let t = tilt_up x y d p (λ u e. leb-true y (x * u) e)
    (λ u e. let l = leb-false y (x * u) e in omega arith) ts ms b in
    let k : x * weighted ts (chosen p ts) * d ≤ y * total (chosen p ts) * d = mul-le-mul_right d s in
    omega arith

down_by : (x y : ℕ) (ts : List MassRange) → IsDown x y ts (masses (AtMost x y) ts) → (d : ℕ) (ms : List ℕ)
    → AreBetween d ts ms → IsDown x y ts ms
down_by x y ts s d ms b =
    let p : ℕ → Bool = λ u. nat_le (x * u) y in
    let t = tilt_down x y d p (λ u e. leb-true (x * u) y e)
    (λ u e. let l = leb-false (x * u) y e in omega arith) ts ms b in
    let k : y * total (chosen p ts) * d ≤ x * weighted ts (chosen p ts) * d = mul-le-mul_right d s in
    omega arith

-- what the three tests say
pub record Serves (a : Answer) (ts : List MassRange) (rest e : ℕ) : Type 0 where
  pub up : step a * weighted ts (masses (AtLeast (step a) (top a e)) ts)
      ≤ top a e * total (masses (AtLeast (step a) (top a e)) ts)
  pub down : bottom a e * total (masses (AtMost (step a) (bottom a e)) ts)
      ≤ step a * weighted ts (masses (AtMost (step a) (bottom a e)) ts)
  pub rests : total (masses Nowhere ts) ≡ 0 → (step a * rest ≤ top a e) × (bottom a e ≤ step a * rest)

pub covers_of_serves : (a : Answer) (ts : List MassRange) (rest e : ℕ) → Serves a ts rest e → Covers a ts rest e
covers_of_serves a ts rest e s d ms p b = ⊎_elim
    (λ (z : total ms ≡ 0).
    let r = s.rests (zero_lows d ts ms p b z) in
    let r0 = r.0 in
    let r1 = r.1 in
    subst (IsWithin a e) (sym (answer_none ts rest ms z)) (within_back a e rest 1 (omega arith) (omega arith)))
    (λ (m : 0 < total ms).
    subst (IsWithin a e) (sym (answer_some ts rest ms m))
    (within_back a e (weighted ts ms) (total ms) (up_by (step a) (top a e) ts s.up d ms b)
    (down_by (step a) (bottom a e) ts s.down d ms b)))
    (cases_zero (total ms))

pub serves_of_covers : (a : Answer) (ts : List MassRange) (rest e : ℕ) → All (IsRange a.width) ts → Covers a ts rest e
    → Serves a ts rest e
serves_of_covers a ts rest e h c =
    let w = each_in a.width ts h in
    record {
      up = answer_up a e ts rest w (masses (AtLeast (step a) (top a e)) ts)
          (at_cut a ts rest e (AtLeast (step a) (top a e)) h c);
      down = answer_down a e ts rest w (masses (AtMost (step a) (bottom a e)) ts)
          (at_cut a ts rest e (AtMost (step a) (bottom a e)) h c);
      rests = λ z.
          let i : IsWithin a e (over rest 1) =
          subst (IsWithin a e) (answer_none ts rest (masses Nowhere ts) z) (at_cut a ts rest e Nowhere h c) in
          let u = within_up a e rest 1 i in
          let d = within_down a e rest 1 i in
          (omega arith, omega arith);
    }

pub serves_iff : (a : Answer) (ts : List MassRange) (rest e x y z : ℕ) → x ≡ step a → y ≡ top a e → z ≡ bottom a e
    → All (IsRange a.width) ts → (r u d s : Bool) → (IsTrue r → IsTrue u × IsTrue d × IsTrue s)
    → (IsTrue u → IsTrue d → IsTrue s → IsTrue r)
    → (IsTrue u ↔ (x * weighted ts (masses (AtLeast x y) ts) ≤ y * total (masses (AtLeast x y) ts)))
    → (IsTrue d ↔ (z * total (masses (AtMost x z) ts) ≤ x * weighted ts (masses (AtMost x z) ts)))
    → (IsTrue s ↔ (total (masses Nowhere ts) ≡ 0 → (x * rest ≤ y) × (z ≤ x * rest)))
    → IsTrue r ↔ Covers a ts rest e
serves_iff a ts rest e x y z ex ey ez h r u d s all only iu id is =
    let U : ℕ → ℕ → Type 0 = λ x y. IsTrue u
    ↔ (x * weighted ts (masses (AtLeast x y) ts) ≤ y * total (masses (AtLeast x y) ts)) in
    let D : ℕ → ℕ → Type 0 = λ x z. IsTrue d
    ↔ (z * total (masses (AtMost x z) ts) ≤ x * weighted ts (masses (AtMost x z) ts)) in
    let S : ℕ → ℕ → ℕ → Type 0 = λ x y z. IsTrue s
    ↔ (total (masses Nowhere ts) ≡ 0 → (x * rest ≤ y) × (z ≤ x * rest)) in
    let ju : U (step a) (top a e) = subst (λ n. U n (top a e)) ex (subst (U x) ey iu) in
    let jd : D (step a) (bottom a e) = subst (λ n. D n (bottom a e)) ex (subst (D x) ez id) in
    let js : S (step a) (top a e) (bottom a e) =
    subst (λ n. S n (top a e) (bottom a e)) ex (subst (λ n. S x n (bottom a e)) ey (subst (S x y) ez is)) in (
      λ t. let p = all t in
          covers_of_serves a ts rest e (record { up = ju.0 p.0; down = jd.0 p.1; rests = js.0 p.2 }),
      λ c. let v = serves_of_covers a ts rest e h c in only (ju.1 v.up) (jd.1 v.down) (js.1 v.rests),
    )
