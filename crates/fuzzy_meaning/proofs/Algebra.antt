-- The algebra of conditions: what they come to by operations, and the parts of an AND or an OR, to which a
-- recursion goes down. For this crate and those above it.
use Rattle.std.proofs.Common.{◌≡◌, ℕ, ◌+◌, ◌<◌, Bool, true, false, not, List, [], ◌∷◌, ◌++◌, length, get_or, take}
use Rattle.std.proofs.Common.{sym, ap, ◌∙◌, zero, suc, ◌*◌, ◌≤◌, arith, ◌⊎◌, ⊎_elim, inl, inr, Vec, Global, Some}
use Rattle.std.proofs.Common.{slice_get, subst}
use Rattle.std.proofs.lemmas.List.{take_more}
use Rattle.fuzzy_meaning.specs.Conditions.{Condition, is, negation, all, any, Conditions, end, also, HasLiterals}
use Rattle.fuzzy_meaning.specs.Conditions.{SomeHaveLiterals, AllHaveLiterals, Joins, evaluate, evaluate_parts}
use Rattle.fuzzy_meaning.specs.Conditions.{conditions, evaluate_pushed, evaluate_pushed_parts, nodes, total_nodes}
use denote.Param.Weighed.{most, at_most}
use Rattle.fuzzy_meaning.specs.declared.{condition.Condition.TheDeep.size-Condition, condition.Node.Node}
use Rattle.fuzzy_meaning.specs.declared.condition.Node.TheVariants.{And, Or}
use Rattle.fuzzy_meaning.specs.Trees.{tree}

-- ---- literals

pub AllHaveLiterals-some : (P : ℕ → ℕ → Type 0) (cs : Conditions) → SomeHaveLiterals P cs → AllHaveLiterals P cs
AllHaveLiterals-some P end h = absurd h
AllHaveLiterals-some P (also c cs) h = h

module _ {P Q : ℕ → ℕ → Type 0} (of : (i t : ℕ) → P i t → Q i t) where
  mutual
    pub HasLiterals-map : (c : Condition) → HasLiterals P c → HasLiterals Q c
    HasLiterals-map (is i t) h = of i t h
    HasLiterals-map (negation c) h = HasLiterals-map c h
    HasLiterals-map (all cs) h = SomeHaveLiterals-map cs h
    HasLiterals-map (any cs) h = SomeHaveLiterals-map cs h

    SomeHaveLiterals-map : (cs : Conditions) → SomeHaveLiterals P cs → SomeHaveLiterals Q cs
    SomeHaveLiterals-map end h = absurd h
    SomeHaveLiterals-map (also c cs) h = (HasLiterals-map c h.0, AllHaveLiterals-map cs h.1)

    AllHaveLiterals-map : (cs : Conditions) → AllHaveLiterals P cs → AllHaveLiterals Q cs
    AllHaveLiterals-map end h = tt
    AllHaveLiterals-map (also c cs) h = (HasLiterals-map c h.0, AllHaveLiterals-map cs h.1)

-- ---- operations that keep a relation

-- the relation holds for what an OR or an AND comes to, where it holds for the parts
pub record AreJoinsRelated {A B : Type 0} (R : A → B → Type 0) (j : Joins A) (k : Joins B) : Type 0 where
  pub none : (or : Bool) → R (j.none or) (k.none or)
  pub join : (or : Bool) (a c : A) (b d : B) → R a b → R c d → R (j.join or a c) (k.join or b d)

module _ {A B : Type 0} (R : A → B → Type 0) {j : Joins A} {k : Joins B} (joins : AreJoinsRelated R j k) where
  -- of a valid condition, and for NOT too
  module _ {minus : A → A} {opposite : B → B} (of_not : (a : A) (b : B) → R a b → R (minus a) (opposite b))
      {v : ℕ → ℕ → A} {w : ℕ → ℕ → B} {P : ℕ → ℕ → Type 0} (literal : (i t : ℕ) → P i t → R (v i t) (w i t)) where
    mutual
      pub evaluate-related : (c : Condition) → HasLiterals P c → R (evaluate minus j v c) (evaluate opposite k w c)
      evaluate-related (is i t) h = literal i t h
      evaluate-related (negation c) h = of_not _ _ (evaluate-related c h)
      evaluate-related (all cs) h = evaluate_parts-related false cs (AllHaveLiterals-some P cs h)
      evaluate-related (any cs) h = evaluate_parts-related true cs (AllHaveLiterals-some P cs h)

      pub evaluate_parts-related : (or : Bool) (cs : Conditions) → AllHaveLiterals P cs
          → R (evaluate_parts minus j v or cs) (evaluate_parts opposite k w or cs)
      evaluate_parts-related or end h = joins.none or
      evaluate_parts-related or (also c cs) h =
          joins.join or _ _ _ _ (evaluate-related c h.0) (evaluate_parts-related or cs h.1)

  -- of any condition, NOT pushed to the literals
  module _ {v : Bool → ℕ → ℕ → A} {w : Bool → ℕ → ℕ → B}
      (literal : (odd : Bool) (i t : ℕ) → R (v odd i t) (w odd i t)) where
    mutual
      pub evaluate_pushed-related : (odd : Bool) (c : Condition)
          → R (evaluate_pushed j v odd c) (evaluate_pushed k w odd c)
      evaluate_pushed-related odd (is i t) = literal odd i t
      evaluate_pushed-related odd (negation c) = evaluate_pushed-related (not odd) c
      evaluate_pushed-related odd (all cs) = evaluate_pushed_parts-related odd odd cs
      evaluate_pushed-related odd (any cs) = evaluate_pushed_parts-related odd (not odd) cs

      pub evaluate_pushed_parts-related : (odd or : Bool) (cs : Conditions)
          → R (evaluate_pushed_parts j v odd or cs) (evaluate_pushed_parts k w odd or cs)
      evaluate_pushed_parts-related odd or end = joins.none or
      evaluate_pushed_parts-related odd or (also c cs) =
          joins.join or _ _ _ _ (evaluate_pushed-related odd c) (evaluate_pushed_parts-related odd or cs)

-- ---- De Morgan

-- NOT of an OR is the AND of NOTs and the other way round, for good values, up to a relation
pub record IsDeMorgan {A : Type 0} (Good : A → Type 0) (Same : A → A → Type 0) (minus : A → A) (j : Joins A)
    : Type 0 where
  pub alike : (a : A) → Good a → Same a a
  pub trans : (a b c : A) → Same a b → Same b c → Same a c
  pub good_none : (or : Bool) → Good (j.none or)
  pub good_join : (or : Bool) (a b : A) → Good a → Good b → Good (j.join or a b)
  pub good_minus : (a : A) → Good a → Good (minus a)
  pub join_same : (or : Bool) (a b c d : A) → Same a c → Same b d → Same (j.join or a b) (j.join or c d)
  pub join_minus : (or : Bool) (a b : A) → Good a → Good b
      → Same (j.join or (minus a) (minus b)) (minus (j.join (not or) a b))
  pub none_minus : (or : Bool) → Same (j.none or) (minus (j.none (not or)))
  pub twice : (a : A) → Good a → Same a (minus (minus a))

-- a value behind an odd number of NOTs, or an even one
abbrev pub turned : {A : Type 0} → (A → A) → Bool → A → A
turned minus true a = minus a
turned minus false a = a

module _ {A : Type 0} {Good : A → Type 0} {Same : A → A → Type 0} {minus : A → A} {j : Joins A}
    (m : IsDeMorgan Good Same minus j) {v : ℕ → ℕ → A} (literal : (i t : ℕ) → Good (v i t)) where
  mutual
    pub evaluate-good : (c : Condition) → Good (evaluate minus j v c)
    evaluate-good (is i t) = literal i t
    evaluate-good (negation c) = m.good_minus _ (evaluate-good c)
    evaluate-good (all cs) = evaluate_parts-good false cs
    evaluate-good (any cs) = evaluate_parts-good true cs

    pub evaluate_parts-good : (or : Bool) (cs : Conditions) → Good (evaluate_parts minus j v or cs)
    evaluate_parts-good or end = m.good_none or
    evaluate_parts-good or (also c cs) = m.good_join or _ _ (evaluate-good c) (evaluate_parts-good or cs)

  mutual
    pub evaluate_pushed-same : (odd : Bool) (c : Condition)
        → Same (evaluate_pushed j (λ odd i t. turned minus odd (v i t)) odd c) (turned minus odd (evaluate minus j v c))
    evaluate_pushed-same true (is i t) = m.alike _ (m.good_minus _ (literal i t))
    evaluate_pushed-same false (is i t) = m.alike _ (literal i t)
    evaluate_pushed-same true (negation c) =
        m.trans _ _ _ (evaluate_pushed-same false c) (m.twice _ (evaluate-good c))
    evaluate_pushed-same false (negation c) = evaluate_pushed-same true c
    evaluate_pushed-same true (all cs) = complements-same true cs
    evaluate_pushed-same false (all cs) = parts-same false cs
    evaluate_pushed-same true (any cs) = complements-same false cs
    evaluate_pushed-same false (any cs) = parts-same true cs

    parts-same : (or : Bool) (cs : Conditions)
        → Same (evaluate_pushed_parts j (λ odd i t. turned minus odd (v i t)) false or cs)
        (evaluate_parts minus j v or cs)
    parts-same or end = m.alike _ (m.good_none or)
    parts-same or (also c cs) = m.join_same or _ _ _ _ (evaluate_pushed-same false c) (parts-same or cs)

    complements-same : (or : Bool) (cs : Conditions)
        → Same (evaluate_pushed_parts j (λ odd i t. turned minus odd (v i t)) true or cs)
        (minus (evaluate_parts minus j v (not or) cs))
    complements-same or end = m.none_minus or
    complements-same or (also c cs) =
        m.trans _ _ _ (m.join_same or _ _ _ _ (evaluate_pushed-same true c) (complements-same or cs))
        (m.join_minus or _ _ (evaluate-good c) (evaluate_parts-good (not or) cs))

-- ---- any condition, where all literals are related

module _ {A B : Type 0} (R : A → B → Type 0) {j : Joins A} {k : Joins B} (joins : AreJoinsRelated R j k)
    {minus : A → A} {opposite : B → B} (of_not : (a : A) (b : B) → R a b → R (minus a) (opposite b))
    {v : ℕ → ℕ → A} {w : ℕ → ℕ → B} (literal : (i t : ℕ) → R (v i t) (w i t)) where
  mutual
    pub evaluate-alike : (c : Condition) → R (evaluate minus j v c) (evaluate opposite k w c)
    evaluate-alike (is i t) = literal i t
    evaluate-alike (negation c) = of_not _ _ (evaluate-alike c)
    evaluate-alike (all cs) = evaluate_parts-alike false cs
    evaluate-alike (any cs) = evaluate_parts-alike true cs

    evaluate_parts-alike : (or : Bool) (cs : Conditions)
        → R (evaluate_parts minus j v or cs) (evaluate_parts opposite k w or cs)
    evaluate_parts-alike or end = joins.none or
    evaluate_parts-alike or (also c cs) =
        joins.join or _ _ _ _ (evaluate-alike c) (evaluate_parts-alike or cs)

-- ---- parts, from the first on

pub record IsMonoid {A : Type 0} (none : A) (join : A → A → A) : Type 0 where
  pub left : (a : A) → join none a ≡ a
  pub right : (a : A) → join a none ≡ a
  pub assoc : (a b c : A) → join (join a b) c ≡ join a (join b c)

module _ {A : Type 0} {j : Joins A} (monoid : (or : Bool) → IsMonoid (j.none or) (j.join or))
    (v : Bool → ℕ → ℕ → A) (odd or : Bool) where
  push : (cs : List Condition) (c : Condition) → evaluate_pushed_parts j v odd or (conditions (cs ++ c ∷ []))
      ≡ j.join or (evaluate_pushed_parts j v odd or (conditions cs)) (evaluate_pushed j v odd c)
  push [] c = (monoid or).right _ ∙ sym ((monoid or).left _)
  push (d ∷ cs) c = ap (j.join or (evaluate_pushed j v odd d)) (push cs c) ∙ sym ((monoid or).assoc _ _ _)

  -- those up to one with it
  pub evaluate_pushed_parts-take : (cs : List Condition) (k : ℕ) (c : Condition) → k < length cs → c ≡ get_or cs k c
      → evaluate_pushed_parts j v odd or (conditions (take (k + 1) cs))
      ≡ j.join or (evaluate_pushed_parts j v odd or (conditions (take k cs))) (evaluate_pushed j v odd c)
  evaluate_pushed_parts-take cs k c lt same =
      ap (λ (ds : List Condition). evaluate_pushed_parts j v odd or (conditions ds))
      (take_more cs k c lt ∙ ap (λ (d : Condition). take k cs ++ d ∷ []) (sym same))
      ∙ push (take k cs) c

-- ---- parts

-- of a slice
pub part_falls : (cs : List Condition) (i : ℕ) (p : Condition) → i < length cs → p ≡ get_or cs i p
    → size-Condition p ≤ most size-Condition cs
part_falls cs i p lt there = let h = at_most size-Condition cs i p lt in rw (← there) at h

most_parts : (cs : List Condition) → most size-Condition cs ≤ 2 * (total_nodes (conditions cs) + 1)
most_parts [] = omega arith
most_parts (c ∷ cs) = omega (arith, most_parts cs)

-- each part has the literals that all have
pub HasLiterals-part : (P : ℕ → ℕ → Type 0) (cs : List Condition) (k : ℕ) (c : Condition)
    → AllHaveLiterals P (conditions cs) → slice_get cs k ≡ Some c → HasLiterals P c
HasLiterals-part P [] k c h e = absurd (let x : ⊥ = cc in x)
HasLiterals-part P (d ∷ cs) zero c h e = let same : d ≡ c = cc in subst (λ x. HasLiterals P x) same h.0
HasLiterals-part P (d ∷ cs) (suc k) c h e = HasLiterals-part P cs k c h.1 e

-- of a condition with parts, whichever sort it is
module _ {n : Node} {c : Condition} (seen : tree n ≡ c) {v : Vec Condition Global} (sort : (n ≡ And v) ⊎ (n ≡ Or v))
  where
    pub parts_tree : (c ≡ all (conditions v.items)) ⊎ (c ≡ any (conditions v.items))
    parts_tree = ⊎_elim (λ p. inl (sym seen ∙ ap tree p)) (λ p. inr (sym seen ∙ ap tree p)) sort

    pub parts_nodes : nodes c ≡ 1 + total_nodes (conditions v.items)
    parts_nodes = ⊎_elim (ap nodes) (ap nodes) parts_tree

    pub parts_fall : {read : List Condition} → read ≡ v.items → most size-Condition read ≤ 2 * nodes c
    parts_fall same = rw same (omega (arith, most_parts v.items, parts_nodes))

    -- all have the literals that it has
    pub AllHaveLiterals-parts : (P : ℕ → ℕ → Type 0) → HasLiterals P c → AllHaveLiterals P (conditions v.items)
    AllHaveLiterals-parts P h = ⊎_elim (λ e. AllHaveLiterals-some P _ (subst (HasLiterals P) e h))
        (λ e. AllHaveLiterals-some P _ (subst (HasLiterals P) e h)) parts_tree

-- each part of an AND or an OR has fewer conditions than the whole
pub part_nodes : (cs : List Condition) (k : ℕ) (c : Condition) → slice_get cs k ≡ Some c
    → nodes c ≤ total_nodes (conditions cs)
part_nodes [] k c e = absurd (let x : ⊥ = cc in x)
part_nodes (d ∷ cs) zero c e = let same : d ≡ c = cc in omega (arith, ap nodes same)
part_nodes (d ∷ cs) (suc k) c e = omega (arith, part_nodes cs k c e)

pub take_nodes : (cs : List Condition) (k : ℕ) → total_nodes (conditions (take k cs)) ≤ total_nodes (conditions cs)
take_nodes cs zero = omega arith
take_nodes [] (suc k) = omega arith
take_nodes (c ∷ cs) (suc k) = omega (arith, take_nodes cs k)
