-- One more summary leads to places.
use Rattle.handler_check.proofs.Words.{[], ◌++◌, ◌==◌, ◌||◌, ◌∙◌, ◌∷◌, ◌≡◌, ◌≤◌, ◌⊎◌, ap, arith, Bool, cases_eq}
use Rattle.handler_check.proofs.Words.{false, false≢true, Has, if◌then◌else◌, inl, inr, Instr, IsIn, IsSummary}
use Rattle.handler_check.proofs.Words.{led_all, List, Meets, nat_lt, nat_tests, None, Option, PathSummary, refl, Some}
use Rattle.handler_check.proofs.Words.{subst, sym, true, ℕ}
use Rattle.std.proofs.{Common.not}
use Rattle.handler_check.specs.{PathSummaries.join, PathSummaries.led}

pub one_summary : (w v : PathSummary) → Some w ≡ Some v → w ≡ v
one_summary w v e = cc

-- what the summary at a place tells after a join, where no paths meet: as much as each of the two
pub record Tells (w : PathSummary) (j : PathSummary) : Type 0 where
  pub apart : j.meets ≡ false → w.meets ≡ false
  pub height : j.meets ≡ false → w.height ≡ j.height
  pub few : j.meets ≡ false → w.most ≤ j.most

same_tells : (w : PathSummary) → Tells w w
same_tells w = record { apart = λ e. e; height = λ e. refl; few = λ e. omega arith }

meets_tells : (w j : PathSummary) → j.meets ≡ true → Tells w j
meets_tells w j e = record {
  apart = λ f. absurd (false≢true (sym f ∙ e));
  height = λ f. absurd (false≢true (sym f ∙ e));
  few =
      λ f. absurd (false≢true (sym f ∙ e));
}

-- the three cases of a join with an old summary
abbrev Joined : PathSummary → PathSummary → PathSummary → Type 0
Joined old v j = ((j ≡ record old { meets = true }) × ((old.meets ≡ true) ⊎ (old.height ≡ v.height → ⊥)))
    ⊎ (((j ≡ v) × (old.meets ≡ false) × (old.height ≡ v.height) × (old.most ≤ v.most))
    ⊎ ((j ≡ old) × (old.meets ≡ false) × (old.height ≡ v.height) × (v.most ≤ old.most)))

other_heights : (g h : ℕ) → (g == h) ≡ false → g ≡ h → ⊥
other_heights g h e f = grind (arith, nat_tests)

joined : (old v : PathSummary) → Joined old v (join (Some old) v)
joined old v = cases old.meets (old.height == v.height) (nat_lt old.most v.most) refl refl refl
  where
    cases : (m h l : Bool) → old.meets ≡ m → (old.height == v.height) ≡ h → nat_lt old.most v.most ≡ l
        → Joined old v (if m || not h then record old { meets = true } else (if l then v else old))
    cases true h l em eh el = inl (refl, inl em)
    cases false false l em eh el = inl (refl, inr (other_heights old.height v.height eh))
    cases false true true em eh el = inr (inl (refl, em, grind (arith, nat_tests), grind (arith, nat_tests)))
    cases false true false em eh el = inr (inr (refl, em, grind (arith, nat_tests), grind (arith, nat_tests)))

is_met : (old j : PathSummary) → j ≡ record old { meets = true } → j.meets ≡ true
is_met old j e = ap (λ (w : PathSummary). w.meets) e

tells_by : (w u j : PathSummary) → j ≡ u → Tells w u → Tells w j
tells_by w u j e t = subst (λ (k : PathSummary). Tells w k) (sym e) t

pub old_tells : (old v : PathSummary) → Tells old (join (Some old) v)
old_tells old v = elim (joined old v) [
  | inl m ↦ meets_tells old (join (Some old) v) (is_met old (join (Some old) v) m.0)
  | inr r ↦ elim r [
    | inl k ↦ tells_by old v (join (Some old) v) k.0 (record { apart = λ e. k.1; height = λ e. k.2; few = λ e. k.3 })
    | inr k ↦ tells_by old old (join (Some old) v) k.0 (same_tells old)
  ]
]

pub new_tells : (o : Option PathSummary) (v : PathSummary) → v.meets ≡ false → Tells v (join o v)
new_tells None v f = same_tells v
new_tells (Some old) v f = elim (joined old v) [
  | inl m ↦ meets_tells v (join (Some old) v) (is_met old (join (Some old) v) m.0)
  | inr r ↦ elim r [
    | inl k ↦ tells_by v v (join (Some old) v) k.0 (same_tells v)
    | inr k ↦ tells_by v old (join (Some old) v) k.0 (record { apart = λ e. f; height = λ e. sym k.2; few = λ e. k.3 })
  ]
]

-- a join of summaries is a summary
join_is : (is : List Instr) (at : ℕ) (old v : PathSummary) → v.meets ≡ false → IsSummary is at old → IsSummary is at v
    → IsSummary is at (join (Some old) v)
join_is is at old v f o n = elim (joined old v) [
  | inl m ↦ subst (λ (w : PathSummary). IsSummary is at w) (sym m.0)
      (record { one = λ e. absurd (false≢true (sym e)); two = λ e. meets m.1; some = o.some; low = o.low })
  | inr r ↦ elim r [
    | inl k ↦ subst (λ (w : PathSummary). IsSummary is at w) (sym k.0) n
    | inr k ↦ subst (λ (w : PathSummary). IsSummary is at w)
        (sym k.0) o
  ]
]
  where
    apart : (b : Bool) → old.meets ≡ b → (old.height ≡ v.height → ⊥) → Meets is at
    apart true e ne = o.two e
    apart false e ne = (old.most, v.most, old.height, v.height, (o.one e, n.one f, ne))

    meets : (old.meets ≡ true) ⊎ (old.height ≡ v.height → ⊥) → Meets is at
    meets w = elim w [ inl e ↦ o.two e | inr ne ↦ apart old.meets refl ne ]

pub joined_is : (is : List Instr) (at : ℕ) (o : Option PathSummary) (v : PathSummary) → v.meets ≡ false
    → ((old : PathSummary) → o ≡ Some old → IsSummary is at old) → IsSummary is at v → IsSummary is at (join o v)
joined_is is at None v f old n = n
joined_is is at (Some w) v f old n = join_is is at w v f (old w refl) n

-- one more summary leads to a place
pub led_here : (summaries : ℕ → Option PathSummary) (to : ℕ) (v : PathSummary) (q : ℕ) → q ≡ to → led summaries to v q
    ≡ Some (join (summaries to) v)
led_here summaries to v q e = let t : (q == to) ≡ true = grind (arith, nat_tests) in rw t

pub led_other : (summaries : ℕ → Option PathSummary) (to : ℕ) (v : PathSummary) (q : ℕ) → (q ≡ to → ⊥)
    → led summaries to v q ≡ summaries q
led_other summaries to v q n = let t : (q == to) ≡ false = grind (arith, nat_tests) in rw t

tells_has : (summaries : ℕ → Option PathSummary) (q h n : ℕ) (w j : PathSummary) → summaries q ≡ Some j → Tells w j
    → (w.meets ≡ false → h ≡ w.height) → (w.meets ≡ false → n ≤ w.most) → Has summaries q h n
tells_has summaries q h n w j e t height few = record {
  summary = j;
  is = e;
  height = λ m. height (t.apart m) ∙ t.height m;
  few = λ m. (let a = few (t.apart m) in let b = t.few m in omega arith);
}

led_has : (summaries : ℕ → Option PathSummary) (to : ℕ) (v : PathSummary) (q h n : ℕ) → Has summaries q h n
    → Has (led summaries to v) q h n
led_has summaries to v q h n a = elim (cases_eq q to) [
  | inl e ↦ tells_has (led summaries to v) q h n a.summary (join (Some a.summary) v)
      (led_here summaries to v q e ∙ ap (λ (o : Option PathSummary). Some (join o v)) (ap summaries (sym e) ∙ a.is))
      (old_tells a.summary v) a.height a.few
  | inr ne ↦ record { summary = a.summary; is = led_other summaries to v q ne ∙ a.is; height = a.height; few = a.few }
]

led_new : (summaries : ℕ → Option PathSummary) (to : ℕ) (v : PathSummary) → v.meets ≡ false → Has (led summaries to v)
    to v.height v.most
led_new summaries to v f =
    tells_has (led summaries to v) to v.height v.most v (join (summaries to) v) (led_here summaries to v to refl)
    (new_tells (summaries to) v f) (λ e. refl) (λ e. omega arith)

led_is : (is : List Instr) (summaries : ℕ → Option PathSummary) (to : ℕ) (v : PathSummary) → v.meets ≡ false
    → ((at : ℕ) (summary : PathSummary) → summaries at ≡ Some summary → IsSummary is at summary) → IsSummary is to v
    → (at : ℕ) (summary : PathSummary) → led summaries to v at ≡ Some summary → IsSummary is at summary
led_is is summaries to v f a n at summary e = elim (cases_eq at to) [
  | inl s ↦ subst (λ (w : PathSummary). IsSummary is at w) (one_summary (join (summaries to) v) summary
      (sym (led_here summaries to v at s) ∙ e))
      (subst (λ (k : ℕ). IsSummary is k (join (summaries to) v)) (sym s)
      (joined_is is to (summaries to) v f (λ old k. a to old k) n))
  | inr ne ↦ a at summary (sym (led_other summaries to v at ne) ∙ e)
]

-- one more summary leads to each of some places
pub all_kept : (summaries : ℕ → Option PathSummary) (tos : List ℕ) (v : PathSummary) (q : ℕ) → (IsIn tos q → ⊥)
    → led_all summaries tos v q ≡ summaries q
all_kept summaries [] v q n = refl
all_kept summaries (to ∷ tos) v q n = all_kept (led summaries to v) tos v q (λ k. n (inr k))
    ∙ led_other summaries to v q (λ e. n (inl e))

pub all_has : (summaries : ℕ → Option PathSummary) (tos : List ℕ) (v : PathSummary) (q h n : ℕ) → Has summaries q h n
    → Has (led_all summaries tos v) q h n
all_has summaries [] v q h n a = a
all_has summaries (to ∷ tos) v q h n a = all_has (led summaries to v) tos v q h n (led_has summaries to v q h n a)

pub all_new : (summaries : ℕ → Option PathSummary) (tos : List ℕ) (v : PathSummary) (q : ℕ) → v.meets ≡ false
    → IsIn tos q
    → Has (led_all summaries tos v) q v.height v.most
all_new summaries [] v q f k = absurd k
all_new summaries (to ∷ tos) v q f k = elim k [
  | inl e ↦ all_has (led summaries to v) tos v q v.height v.most
      (subst (λ (p : ℕ). Has (led summaries to v) p v.height v.most) (sym e) (led_new summaries to v f))
  | inr r ↦ all_new (led summaries to v) tos v q f r
]

pub all_is : (is : List Instr) (summaries : ℕ → Option PathSummary) (tos : List ℕ) (v : PathSummary) → v.meets ≡ false
    → ((at : ℕ) (summary : PathSummary) → summaries at ≡ Some summary → IsSummary is at summary)
    → ((q : ℕ) → IsIn tos q → IsSummary is q v)
    → (at : ℕ) (summary : PathSummary) → led_all summaries tos v at ≡ Some summary → IsSummary is at summary
all_is is summaries [] v f a n = a
all_is is summaries (to ∷ tos) v f a n =
    all_is is (led summaries to v) tos v f (led_is is summaries to v f a (n to (inl refl))) (λ q k. n q (inr k))

-- the places of two lists
pub all_append : (summaries : ℕ → Option PathSummary) (xs ys : List ℕ) (v : PathSummary) (q : ℕ)
    → led_all summaries (xs ++ ys) v q ≡ led_all (led_all summaries xs v) ys v q
all_append summaries [] ys v q = refl
all_append summaries (x ∷ xs) ys v q = all_append (led summaries x v) xs ys v q

-- where summaries are the same, so are they after
led_same : (summaries others : ℕ → Option PathSummary) (to : ℕ) (v : PathSummary) → ((q : ℕ) → summaries q ≡ others q)
    → (q : ℕ)
    → led summaries to v q ≡ led others to v q
led_same summaries others to v s q = elim (cases_eq q to) [
  | inl e ↦ led_here summaries to v q e ∙ ap (λ (o : Option PathSummary). Some (join o v)) (s to)
      ∙ sym (led_here others to v q e)
  | inr ne ↦ led_other summaries to v q ne ∙ s q ∙ sym (led_other others to v q ne)
]

pub all_same : (summaries others : ℕ → Option PathSummary) (tos : List ℕ) (v : PathSummary)
    → ((q : ℕ) → summaries q ≡ others q) → (q : ℕ)
    → led_all summaries tos v q ≡ led_all others tos v q
all_same summaries others [] v s q = s q
all_same summaries others (to ∷ tos) v s q = all_same (led summaries to v) (led others to v) tos v
    (led_same summaries others to v s) q

pub in_left : (xs ys : List ℕ) (q : ℕ) → IsIn xs q → IsIn (xs ++ ys) q
in_left [] ys q k = absurd k
in_left (x ∷ xs) ys q k = elim k [ inl e ↦ inl e | inr r ↦ inr (in_left xs ys q r) ]

pub in_right : (xs ys : List ℕ) (q : ℕ) → IsIn ys q → IsIn (xs ++ ys) q
in_right [] ys q k = k
in_right (x ∷ xs) ys q k = inr (in_right xs ys q k)

pub in_either : (xs ys : List ℕ) (q : ℕ) → IsIn (xs ++ ys) q → IsIn xs q ⊎ IsIn ys q
in_either [] ys q k = inr k
in_either (x ∷ xs) ys q k = elim k [
  | inl e ↦ inl (inl e)
  | inr r ↦ elim (in_either xs ys q r) [ inl l ↦ inl (inr l) | inr s ↦ inr s ]
]
