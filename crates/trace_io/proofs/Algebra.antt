-- Lists that are cut at one of their elements.
use Rattle.std.proofs.Common.{arith, ◌≡◌, ◌<◌, ◌≤◌, ◌⊎◌, ℕ, List, [], ◌∷◌, ◌++◌, length, refl, sym, ap, ◌∙◌, subst, inl, inr}
use Rattle.std.proofs.lemmas.Bool.{cases_lt}
use Rattle.std.proofs.lemmas.List.{append-nil, append_assoc, length-append}

-- of two cuts of a list, the element of the earlier stands before that of the later
pub cut_within : {X : Type 0} (before : List X) (x : X) (after others : List X) (y : X) (rest : List X)
    → before ++ x ∷ after ≡ others ++ y ∷ rest → length before < length others
    → (between : List X) × (others ≡ before ++ x ∷ between)
cut_within before x after [] y rest e l = absurd (omega arith)
cut_within [] x after (z ∷ others) y rest e l = (others, let same : z ≡ x = cc in ap (λ w. w ∷ others) same)
cut_within (b ∷ before) x after (z ∷ others) y rest e l =
    let same : z ≡ b = cc in
    let tails : before ++ x ∷ after ≡ others ++ y ∷ rest = cc in
    let inner = cut_within before x after others y rest tails (omega arith) in
    (inner.0, (λ i. same i ∷ inner.1 i))

-- two cuts at one place are one
pub one_cut : {X : Type 0} (before : List X) (x : X) (after others : List X) (y : X) (rest : List X)
    → before ++ x ∷ after ≡ others ++ y ∷ rest → length before ≡ length others → (before ≡ others) × (x ≡ y)
one_cut [] x after [] y rest e l = (refl, cc)
one_cut [] x after (z ∷ others) y rest e l = absurd (omega arith)
one_cut (b ∷ before) x after [] y rest e l = absurd (omega arith)
one_cut (b ∷ before) x after (z ∷ others) y rest e l =
    let same : b ≡ z = cc in
    let tails : before ++ x ∷ after ≡ others ++ y ∷ rest = cc in
    let inner = one_cut before x after others y rest tails (omega arith) in
    ((λ i. same i ∷ inner.0 i), inner.1)

-- elements that fail behind others, with what: the first that does so stands behind a list that passes, among the first
-- `most`, or else there are more, which is `over`
pub data FailsFirst {X F : Type 0} (Pass : List X → Type 0) (Fails : List X → X → F → Type 0) (most : ℕ) (over : F)
    (xs : List X) : F → Type 0 where
  at_element : (before : List X) (x : X) (after : List X) (f : F) → xs ≡ before ++ x ∷ after → length before < most
      → Pass before → Fails before x f → FailsFirst Pass Fails most over xs f
  more_elements : (before : List X) (x : X) (after : List X) → xs ≡ before ++ x ∷ after → length before ≡ most
      → Pass before → FailsFirst Pass Fails most over xs over

-- where none fails that stands in a list that passes, and each fails with one thing, a list fails first with one
module _ {X F : Type 0} (Pass : List X → Type 0) (Fails : List X → X → F → Type 0)
    (apart : (before : List X) (x : X) (after : List X) (f : F) → Fails before x f → Pass (before ++ x ∷ after) → ⊥)
    (one : (before : List X) (x : X) (f g : F) → Fails before x f → Fails before x g → f ≡ g) where
  none_fails_before : (before : List X) (x : X) (after others : List X) (y : X) (rest : List X) (f : F)
      → before ++ x ∷ after ≡ others ++ y ∷ rest → length before < length others → Fails before x f → Pass others → ⊥
  none_fails_before before x after others y rest f e l fails pass =
      let inner = cut_within before x after others y rest e l in
      apart before x inner.0 f fails (subst Pass inner.1 pass)

  pub one_fails_first : (before : List X) (x : X) (after : List X) (f : F) (others : List X) (y : X) (rest : List X)
      (g : F) → before ++ x ∷ after ≡ others ++ y ∷ rest → Pass before → Fails before x f → Pass others
      → Fails others y g → f ≡ g
  one_fails_first before x after f others y rest g e pass fails pass' fails' =
      elim (cases_lt (length before) (length others)) [
        | inl l ↦ absurd (none_fails_before before x after others y rest f e l fails pass')
        | inr r ↦ elim (cases_lt (length others) (length before)) [
          | inl l ↦ absurd (none_fails_before others y rest before x after g (sym e) l fails' pass)
          | inr s ↦
              let same = one_cut before x after others y rest e (omega arith) in
              one others y f g (subst (λ (z : X). Fails others z f) same.1
              (subst (λ (bs : List X). Fails bs x f) same.0 fails)) fails'
        ]
      ]

  pub one_first_failure : (most : ℕ) (over : F) (xs : List X) (f g : F) → FailsFirst Pass Fails most over xs f
      → FailsFirst Pass Fails most over xs g → f ≡ g
  one_first_failure most over xs f g (at_element b x a f' cut l pass fails) (at_element c y d g' cut' m pass' fails') =
      one_fails_first b x a f c y d g (sym cut ∙ cut') pass fails pass' fails'
  one_first_failure most over xs f g (at_element b x a f' cut l pass fails) (more_elements c y d cut' m pass') =
      absurd (none_fails_before b x a c y d f (sym cut ∙ cut') (omega arith) fails pass')
  one_first_failure most over xs f g (more_elements b x a cut l pass) (at_element c y d g' cut' m pass' fails') =
      absurd (none_fails_before c y d b x a g (sym cut' ∙ cut) (omega arith) fails' pass)
  one_first_failure most over xs f g (more_elements b x a cut l pass) (more_elements c y d cut' m pass') = refl

-- where each element that stands behind a list that passes passes with it or fails, a list passes or fails first
module _ {X F : Type 0} (Pass : List X → Type 0) (Fails : List X → X → F → Type 0) (most : ℕ) (over : F)
    (judge : (before : List X) (x : X) → length before < most → Pass before
    → Pass (before ++ x ∷ []) ⊎ ((f : F) × Fails before x f)) where
  abbrev IsJudged : List X → Type 0
  IsJudged xs = (Pass xs × (length xs ≤ most)) ⊎ ((f : F) × FailsFirst Pass Fails most over xs f)

  judged_from : (before rest : List X) → length before ≤ most → Pass before → IsJudged (before ++ rest)
  judged_from before [] few pass = subst IsJudged (sym (append-nil before)) (inl (pass, few))
  judged_from before (x ∷ rest) few pass = elim (cases_lt (length before) most) [
    | inl l ↦ elim (judge before x l pass) [
      | inl more ↦ subst IsJudged (append_assoc before (x ∷ []) rest)
          (judged_from (before ++ x ∷ []) rest (omega (arith, l, length-append before (x ∷ []))) more)
      | inr fails ↦ inr (fails.0, at_element before x rest fails.0 refl l pass fails.1)
    ]
    | inr r ↦ inr (over, more_elements before x rest refl (omega (arith, r, few)) pass)
  ]

  pub judged : Pass [] → (xs : List X) → IsJudged xs
  judged pass xs = judged_from [] xs (omega arith) pass
