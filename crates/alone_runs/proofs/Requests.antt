-- The requests of a good plan are in order, and those of each sample are good.
use Rattle.std.proofs.Common.{◌≡◌, ℕ, suc, ◌<◌, ◌≤◌, List, [], ◌∷◌, sym, ◌∙◌, subst, arith, inl, inr, ◌⊎◌}
use Rattle.std.proofs.lemmas.Bool.{cases_Bool}
use Rattle.std.specs.Prelude.{All}
use Rattle.interrupt_plan.specs.declared.Request.{Request}
use Rattle.interrupt_plan.specs.Plans.{NotAfter, Ascends, IsGoodRequest, IsGood}
use Rattle.alone_runs.specs.{Forms.place_of, Rows.requests_of, Given.RequestsAreGood, Given.PlansAreInOrder}
use Rattle.run_forms.specs.{Rows.is_of, Slices.Follow, Slices.IsInOrder}
use Rattle.run_law.specs.Soundness.{AllGood, Ascend}
use Rattle.run_forms.proofs.Algebra.{one_is, other_is, of_here, of_not}

pub not_after_le : (a b : Request) → NotAfter a b → a.sample ≤ b.sample
not_after_le a b (inl l) = omega arith
not_after_le a b (inr e) = let s = e.0 in omega (arith, s)

follow_ascends : (a : Request) (rest : List Request) → Ascends (a ∷ rest) → Follow place_of a.sample rest
follow_ascends a [] h = tt
follow_ascends a (b ∷ rest) h = (not_after_le a b h.0, follow_ascends b rest h.1)

follow_good : (plan : List Request) → IsGood plan → Follow place_of 1 plan
follow_good [] h = tt
follow_good (a ∷ rest) h =
    (let first : IsGoodRequest a = h.requests 0 a (omega arith) in first.sample_from, follow_ascends a rest h.ascends)

pub plans_are_in_order : PlansAreInOrder
plans_are_in_order plan good = record { few = good.few; follow = follow_good plan good }

pub slice_in_order : PlansAreInOrder → (plan slice : List Request) → IsGood plan → slice ≡ plan
    → IsInOrder place_of slice
slice_in_order in_order plan slice good is = subst (IsInOrder place_of) (sym is) (in_order plan good)

-- by sample and then by moment, from a pair of numbers on, and each request is good
abbrev pub Goes : ℕ → ℕ → List Request → Type 0
Goes k m [] = Unit {0}
Goes k m (q ∷ qs) = (k ≤ q.sample) × (q.sample ≡ k → m ≤ q.moment) × IsGoodRequest q × Goes q.sample q.moment qs

not_after_moment : (a b : Request) → NotAfter a b → b.sample ≡ a.sample → a.moment ≤ b.moment
not_after_moment a b (inl l) e = absurd (omega arith)
not_after_moment a b (inr p) e = p.1

goes_from : (a : Request) (rest : List Request) → All IsGoodRequest rest → Ascends (a ∷ rest)
    → Goes a.sample a.moment rest
goes_from a [] g h = tt
goes_from a (b ∷ rest) g h = (
  not_after_le a b h.0,
  not_after_moment a b h.0,
  g 0 b (omega arith),
  goes_from b rest (λ k d l. g (suc k) d (omega arith)) h.1,
)

goes_good : (plan : List Request) → IsGood plan → Goes 0 0 plan
goes_good [] h = tt
goes_good (a ∷ rest) h = (
  omega arith,
  λ e. omega arith,
  h.requests 0 a (omega arith),
  goes_from a rest (λ k d l. h.requests (suc k) d (omega arith)) h.ascends,
)

-- the requests of one sample are good, and ascend
requests_good : (k j m : ℕ) (plan : List Request) → Goes j m plan → AllGood IsGoodRequest (requests_of k plan)
requests_good k j m [] h = tt
requests_good k j m (q ∷ qs) h = elim (cases_Bool (is_of place_of k q)) [
  | inl e ↦ subst (λ (l : List Request). AllGood IsGoodRequest l) (sym (of_here place_of k q qs e))
      (h.2, requests_good k q.sample q.moment qs h.3)
  | inr e ↦ subst (λ (l : List Request). AllGood IsGoodRequest l) (sym (of_not place_of k q qs e))
      (requests_good k q.sample q.moment qs h.3)
]

requests_ascend : (k j m : ℕ) (plan : List Request) → Goes j m plan → (i : ℕ) → (j ≡ k → i ≤ m) → (j < k → i ≤ 0)
    → Ascend (λ (r : Request). r.moment) i (requests_of k plan)
requests_ascend k j m [] h i e f = tt
requests_ascend k j m (q ∷ qs) h i e f = elim (cases_Bool (is_of place_of k q)) [
  | inl t ↦
      let here = one_is place_of k q t in
      let at : i ≤ q.moment = at_most here (one_of j q.sample h.0) in
      subst (λ (l : List Request). Ascend (λ (r : Request). r.moment) i l) (sym (of_here place_of k q qs t))
      (at, requests_ascend k q.sample q.moment qs h.3 q.moment (λ y. omega arith) (λ y. absurd (omega arith)))
  | inr t ↦
      let other = other_is place_of k q t in
      subst (λ (l : List Request). Ascend (λ (r : Request). r.moment) i l) (sym (of_not place_of k q qs t))
      (requests_ascend k q.sample q.moment qs h.3 i (λ y. absurd (other y)) (λ y. f (omega (arith, h.0))))
]
  where
    one_of : (a b : ℕ) → a ≤ b → (a ≡ b) ⊎ (a < b)
    one_of a b l = grind arith

    at_most : q.sample ≡ k → (j ≡ q.sample) ⊎ (j < q.sample) → i ≤ q.moment
    at_most here (inl y) = omega (arith, e (y ∙ here), h.1 (sym y))
    at_most here (inr y) = omega (arith, f (omega arith))

pub requests_are_good : RequestsAreGood
requests_are_good plan good k =
    let g = goes_good plan good in
    (requests_good k 0 0 plan g, requests_ascend k 0 0 plan g 0 (λ e. omega arith) (λ e. omega arith))
