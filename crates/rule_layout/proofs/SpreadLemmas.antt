-- How conditions spread.
use Rattle.rule_layout.proofs.Words.{[], ◌*◌, ◌+◌, ◌<◌, ◌∷◌, ◌≡◌, ◌≤◌, all, AllFitGrid, also, any, append-nil}
use Rattle.rule_layout.proofs.Words.{append_assoc, arith, Bool, choices, Condition, Conditions, conditions, end}
use Rattle.rule_layout.proofs.Words.{evaluate_pushed_parts-take, false, FitsGrid, get_or, is, IsInGrid, IsMonoid}
use Rattle.rule_layout.proofs.Words.{length, length-append, List, mul-le-mul_left, mul-le-mul_right, negation, nodes}
use Rattle.rule_layout.proofs.Words.{not, refl, spread_literal, spread_of, spread_parts, spreads, suc, take}
use Rattle.rule_layout.proofs.Words.{total_length, total_nodes, true, zero, ℕ}
use Rattle.fuzzy_meaning.specs.{Conditions.SomeHaveLiterals}
use Rattle.rule_layout.proofs.ChoicesLemmas.{length-choices, total_length-append, total_length-choices, choices_assoc}
use Rattle.rule_layout.proofs.ChoicesLemmas.{nil-choices, choices-nil}

spreads_are_monoids : {A : Type 0} (or : Bool) → IsMonoid {A = List (List A)} (spreads.none or) (spreads.join or)
spreads_are_monoids true = record { left = λ xs. refl; right = append-nil; assoc = append_assoc }
spreads_are_monoids false = record { left = nil-choices; right = choices-nil; assoc = choices_assoc }

-- the parts up to one with it
pub spread_parts-take : (odd or : Bool) (cs : List Condition) (i : ℕ) (p : Condition) → i < length cs
    → p ≡ get_or cs i p → spread_parts odd or (conditions (take (i + 1) cs))
    ≡ spreads.join or (spread_parts odd or (conditions (take i cs))) (spread_of odd p)
spread_parts-take odd or = evaluate_pushed_parts-take spreads_are_monoids spread_literal odd or

some_choices : {A : Type 0} (xs ys : List (List A)) → 1 ≤ length xs → 1 ≤ length ys → 1 ≤ length (choices xs ys)
some_choices xs ys h k = omega (arith, h, mul-le-mul_left (length xs) k, length-choices xs ys)

-- a condition without empty lists spreads into one conjunction at least
mutual
  pub some_conjunction : (odd : Bool) (c : Condition) → FitsGrid c → 1 ≤ length (spread_of odd c)
  some_conjunction odd (is i t) h = omega arith
  some_conjunction odd (negation c) h = some_conjunction (not odd) c h
  some_conjunction odd (all cs) h = some_of_parts odd odd cs h
  some_conjunction odd (any cs) h = some_of_parts odd (not odd) cs h

  some_of_parts : (odd or : Bool) (cs : Conditions) → SomeHaveLiterals IsInGrid cs
      → 1 ≤ length (spread_parts odd or cs)
  some_of_parts odd or end h = absurd h
  some_of_parts odd true (also c cs) h =
      omega (arith, some_conjunction odd c h.0, length-append (spread_of odd c) (spread_parts odd true cs))
  some_of_parts odd false (also c cs) h =
      some_choices (spread_of odd c) (spread_parts odd false cs) (some_conjunction odd c h.0) (some_choice odd cs h.1)

  some_choice : (odd : Bool) (cs : Conditions) → AllFitGrid cs → 1 ≤ length (spread_parts odd false cs)
  some_choice odd end h = omega arith
  some_choice odd (also c cs) h =
      some_choices (spread_of odd c) (spread_parts odd false cs) (some_conjunction odd c h.0) (some_choice odd cs h.1)

join_le_right : {A : Type 0} (or : Bool) (xs ys : List (List A)) → 1 ≤ length xs
    → length ys ≤ length (spreads.join or xs ys)
join_le_right true xs ys some = omega (arith, length-append xs ys)
join_le_right false xs ys some = omega (arith, length-choices xs ys, mul-le-mul_right (length ys) some)

join_monotone : {A : Type 0} (or : Bool) (xs ys zs : List (List A)) → length ys ≤ length zs
    → length (spreads.join or xs ys) ≤ length (spreads.join or xs zs)
join_monotone true xs ys zs le = omega (arith, le, length-append xs ys, length-append xs zs)
join_monotone false xs ys zs le =
    omega (arith, length-choices xs ys, length-choices xs zs, mul-le-mul_left (length xs) le)

-- the first parts, and each part alone, spread into no more than all
pub take_le : (odd or : Bool) (cs : List Condition) (i : ℕ) → AllFitGrid (conditions cs)
    → length (spread_parts odd or (conditions (take i cs))) ≤ length (spread_parts odd or (conditions cs))
take_le odd true cs zero h = omega arith
take_le odd false cs zero h = some_choice odd (conditions cs) h
take_le odd or [] (suc i) h = omega arith
take_le odd or (c ∷ cs) (suc i) h = join_monotone or (spread_of odd c) _ _ (take_le odd or cs i h.1)

pub part_le : (odd or : Bool) (cs : List Condition) (i : ℕ) (p : Condition) → AllFitGrid (conditions cs)
    → i < length cs → p ≡ get_or cs i p → length (spread_of odd p) ≤ length (spread_parts odd or (conditions cs))
part_le odd or [] i p h lt same = absurd (omega arith)
part_le odd true (c ∷ cs) zero p h lt same =
    rw same (omega (arith, length-append (spread_of odd c) (spread_parts odd true (conditions cs))))
part_le odd false (c ∷ cs) zero p h lt same =
    let wide = mul-le-mul_left (length (spread_of odd c)) (some_choice odd (conditions cs) h.1) in
    rw same (omega (arith, wide, length-choices (spread_of odd c) (spread_parts odd false (conditions cs))))
part_le odd or (c ∷ cs) (suc i) p h lt same =
    let part = part_le odd or cs i p h.1 (omega arith) same in
    let all = spread_parts odd or (conditions cs) in
    omega (arith, part, join_le_right or (spread_of odd c) all (some_conjunction odd c h.0))

sum_bound : (a b m n p q : ℕ) → a ≤ m * p → b ≤ n * q → a + b ≤ (m + n) * (p + q)
sum_bound a b m n p q h k = omega arith

product_bound : (a b m n p q : ℕ) → a ≤ m * p → b ≤ n * q → a * n + m * b ≤ m * n * (p + q)
product_bound a b m n p q h k =
    let left = mul-le-mul_right n h in
    let right = mul-le-mul_left m k in
    omega (arith, left, right)

widened : (a m p : ℕ) → a ≤ m * p → a ≤ m * (1 + p)
widened a m p h = omega arith

-- a conjunction has no more literals than the condition has parts
mutual
  pub entries_le : (odd : Bool) (c : Condition) → total_length (spread_of odd c) ≤ length (spread_of odd c) * nodes c
  entries_le odd (is i t) = omega arith
  entries_le odd (negation c) = widened _ (length (spread_of (not odd) c)) (nodes c) (entries_le (not odd) c)
  entries_le odd (all cs) =
      widened _ (length (spread_parts odd odd cs)) (total_nodes cs) (parts_entries_le odd odd cs)
  entries_le odd (any cs) =
      widened _ (length (spread_parts odd (not odd) cs)) (total_nodes cs) (parts_entries_le odd (not odd) cs)

  pub parts_entries_le : (odd or : Bool) (cs : Conditions)
      → total_length (spread_parts odd or cs) ≤ length (spread_parts odd or cs) * total_nodes cs
  parts_entries_le odd true end = omega arith
  parts_entries_le odd false end = omega arith
  parts_entries_le odd true (also c cs) =
      rw (
        total_length-append (spread_of odd c) (spread_parts odd true cs),
        length-append (spread_of odd c) (spread_parts odd true cs),
      )
      (sum_bound _ _ (length (spread_of odd c)) (length (spread_parts odd true cs)) (nodes c) (total_nodes cs)
      (entries_le odd c) (parts_entries_le odd true cs))
  parts_entries_le odd false (also c cs) =
      rw (
        total_length-choices (spread_of odd c) (spread_parts odd false cs),
        length-choices (spread_of odd c) (spread_parts odd false cs),
      )
      (product_bound _ _ (length (spread_of odd c)) (length (spread_parts odd false cs)) (nodes c) (total_nodes cs)
      (entries_le odd c) (parts_entries_le odd false cs))
