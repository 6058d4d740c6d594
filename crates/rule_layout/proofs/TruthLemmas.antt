-- Spreading keeps the truth of a condition.
use Rattle.rule_layout.proofs.Words.{[], ◌++◌, ◌-◌, ◌∙◌, ◌∷◌, ◌≡◌, ◌≤◌, ap₂, arith, Bool, choices, false}
use Rattle.rule_layout.proofs.Words.{greatest_conjunction, least_literal, List, Literal, map, max, min, not, refl}
use Rattle.rule_layout.proofs.Words.{spread_literal, spreads, true, ℕ}
use Rattle.rule_layout.specs.{Truths.SpreadingLaw}
use Rattle.fuzzy_meaning.specs.Conditions.{levels}
use Rattle.fuzzy_meaning.proofs.Algebra.{AreJoinsRelated, IsDeMorgan, turned, evaluate_pushed-related}
use Rattle.fuzzy_meaning.proofs.Algebra.{evaluate_pushed-same}

levels_are_De_Morgan : (n : ℕ) → IsDeMorgan (λ a. a ≤ n) (λ a b. a ≡ b) (λ a. n - a) (levels n)
levels_are_De_Morgan n = record {
  alike = λ a h. refl;
  trans = λ a b c e f. e ∙ f;
  good_none = λ or. grind arith;
  good_join = good_join;
  good_minus = λ a h. omega arith;
  join_same = λ or a b c d e f. ap₂ ((levels n).join or) e f;
  join_minus = join_minus;
  none_minus = λ or. grind arith;
  twice = λ a h. omega arith;
}
  where
    good_join : (or : Bool) (a b : ℕ) → a ≤ n → b ≤ n → (levels n).join or a b ≤ n
    good_join true a b h k = omega arith
    good_join false a b h k = omega arith

    join_minus : (or : Bool) (a b : ℕ) → a ≤ n → b ≤ n
        → (levels n).join or (n - a) (n - b) ≡ n - (levels n).join (not or) a b
    join_minus true a b h k = omega arith
    join_minus false a b h k = omega arith

module _ (n : ℕ) (v : ℕ → ℕ → ℕ) where
  least_literal_le : (ls : List Literal) → least_literal n v ls ≤ n
  least_literal_le [] = omega arith
  least_literal_le (l ∷ ls) = omega (arith, least_literal_le ls)

  least_literal-append : (ks ls : List Literal)
      → least_literal n v (ks ++ ls) ≡ min (least_literal n v ks) (least_literal n v ls)
  least_literal-append [] ls = omega (arith, least_literal_le ls)
  least_literal-append (k ∷ ks) ls = omega (arith, least_literal-append ks ls)

  greatest_conjunction-append : (xs ys : List (List Literal))
      → greatest_conjunction n v (xs ++ ys) ≡ max (greatest_conjunction n v xs) (greatest_conjunction n v ys)
  greatest_conjunction-append [] ys = omega arith
  greatest_conjunction-append (x ∷ xs) ys = omega (arith, greatest_conjunction-append xs ys)

  greatest_conjunction-headed : (x : List Literal) (ys : List (List Literal))
      → greatest_conjunction n v (map (λ y. x ++ y) ys) ≡ min (least_literal n v x) (greatest_conjunction n v ys)
  greatest_conjunction-headed x [] = omega arith
  greatest_conjunction-headed x (y ∷ ys) = omega (arith, least_literal-append x y, greatest_conjunction-headed x ys)

  greatest_conjunction-choices : (xs ys : List (List Literal))
      → greatest_conjunction n v (choices xs ys) ≡ min (greatest_conjunction n v xs) (greatest_conjunction n v ys)
  greatest_conjunction-choices [] ys = omega arith
  greatest_conjunction-choices (x ∷ xs) ys =
      let front = greatest_conjunction-append (map (λ y. x ++ y) ys) (choices xs ys) in
      omega (arith, front, greatest_conjunction-headed x ys, greatest_conjunction-choices xs ys)

  abbrev HasLevel : List (List Literal) → ℕ → Type 0
  HasLevel xs l = greatest_conjunction n v xs ≡ l

  levels_kept : AreJoinsRelated HasLevel spreads (levels n)
  levels_kept = record { none = none; join = join }
    where
      none : (or : Bool) → HasLevel (spreads.none or) ((levels n).none or)
      none true = refl
      none false = omega arith

      join : (or : Bool) (xs ys : List (List Literal)) (a b : ℕ) → HasLevel xs a → HasLevel ys b
          → HasLevel (spreads.join or xs ys) ((levels n).join or a b)
      join true xs ys a b h k = greatest_conjunction-append xs ys ∙ ap₂ max h k
      join false xs ys a b h k = greatest_conjunction-choices xs ys ∙ ap₂ min h k

  literal_kept : ((i t : ℕ) → v i t ≤ n) → (odd : Bool) (i t : ℕ)
      → HasLevel (spread_literal odd i t) (turned (λ a. n - a) odd (v i t))
  literal_kept within true i t = omega arith
  literal_kept within false i t = omega (arith, within i t)

pub spreading_law_lem : SpreadingLaw
spreading_law_lem n v c _ within =
    evaluate_pushed-related (HasLevel n v) (levels_kept n v) (literal_kept n v within) false c
    ∙ evaluate_pushed-same (levels_are_De_Morgan n) within false c
