-- Where a number of millionths covers all masses, there is a least one.
use Rattle.std.proofs.Common.{◌≡◌, ◌⊎◌, inl, inr, ⊎_elim, ℕ, zero, suc, ◌*◌, ◌<◌, ◌≤◌, List, arith}
use Rattle.std.specs.Prelude.{All}
use Rattle.std.proofs.lemmas.Bool.{cases_lt}
use Rattle.cell_error.specs.{declared.ranges.MassRange.MassRange, declared.ranges.Answer.Answer, Cuts.masses}
use Rattle.cell_error.specs.declared.cuts.Cut.TheVariants.{Nowhere, AtLeast, AtMost}
use Rattle.cell_error.specs.Errors.{IsRange, total, weighted, answer_of, Covers, CoveredMassesHaveErrors}
use Rattle.cell_error.proofs.Covering.{covers_of_serves, serves_of_covers, cases_zero}
use Rattle.cell_error.proofs.Withins.{step, top, bottom, within_more}

decide : (m n : ℕ) → (m ≤ n) ⊎ (m ≤ n → ⊥)
decide m n = ⊎_elim (λ (l : n < m). inr (λ k. absurd (omega arith))) (λ (l : m ≤ n). inl l) (cases_lt n m)

both : {A B : Type 0} → A ⊎ (A → ⊥) → B ⊎ (B → ⊥) → (A × B) ⊎ (A × B → ⊥)
both {A} {B} p q = ⊎_elim
    (λ (a : A). ⊎_elim (λ (b : B). inl (a, b)) (λ (n : B → ⊥). inr (λ w. n w.1)) q)
    (λ (n : A → ⊥). inr (λ w. n w.0))
    p

when_zero : {A : Type 0} (n : ℕ) → A ⊎ (A → ⊥) → (n ≡ 0 → A) ⊎ ((n ≡ 0 → A) → ⊥)
when_zero {A} n q = ⊎_elim
    (λ (z : n ≡ 0). ⊎_elim (λ (a : A). inl (λ _. a)) (λ (no : A → ⊥). inr (λ f. no (f z))) q)
    (λ (p : 0 < n). inl (λ z. absurd (omega arith)))
    (cases_zero n)

covers_decided : (a : Answer) (ts : List MassRange) (rest e : ℕ) → All (IsRange a.width) ts
    → Covers a ts rest e ⊎ (Covers a ts rest e → ⊥)
covers_decided a ts rest e h =
    let x = step a in
    let y = top a e in
    let z = bottom a e in
    let U : Type 0 = x * weighted ts (masses (AtLeast x y) ts) ≤ y * total (masses (AtLeast x y) ts) in
    let D : Type 0 = z * total (masses (AtMost x z) ts) ≤ x * weighted ts (masses (AtMost x z) ts) in
    let R : Type 0 = total (masses Nowhere ts) ≡ 0 → (x * rest ≤ y) × (z ≤ x * rest) in
    let all : ((U × D) × R) ⊎ ((U × D) × R → ⊥) =
    both (both (decide (x * weighted ts (masses (AtLeast x y) ts)) (y * total (masses (AtLeast x y) ts)))
    (decide (z * total (masses (AtMost x z) ts)) (x * weighted ts (masses (AtMost x z) ts))))
    (when_zero (total (masses Nowhere ts)) (both (decide (x * rest) y) (decide z (x * rest)))) in
    ⊎_elim
    (λ (w : (U × D) × R). inl (covers_of_serves a ts rest e (record { up = w.0.0; down = w.0.1; rests = w.1 })))
    (λ (no : (U × D) × R → ⊥). inr (λ c.
    let s = serves_of_covers a ts rest e h c in no ((s.up, s.down), s.rests)))
    all

covers_more : (a : Answer) (ts : List MassRange) (rest e n : ℕ) → e ≤ n → Covers a ts rest e → Covers a ts rest n
covers_more a ts rest e n l c d ms p b = within_more a e n (answer_of ts rest ms) l (c d ms p b)

pub errors_are : CoveredMassesHaveErrors
errors_are a ts rest zero h c = (0, record { covers = c; least = λ f k. omega arith }, omega arith)
errors_are a ts rest (suc n) h c = ⊎_elim
    (λ (y : Covers a ts rest n). let r = errors_are a ts rest n h y in
    let l = r.2 in (r.0, r.1, omega arith))
    (λ (no : Covers a ts rest n → ⊥). (
      suc n,
      record {
        covers = c;
        least = λ f k. ⊎_elim (λ (l : n < f). omega arith)
            (λ (l : f ≤ n). absurd (no (covers_more a ts rest f n l k))) (cases_lt n f);
      },
      omega arith,
    ))
    (covers_decided a ts rest n h)
