-- Conditions as trees.
-- Reached by the promise.
use Rattle.std.specs.Prelude.{ℕ, ◌+◌, ◌-◌, min, max, Bool, true, false, not, if◌then◌else◌, List, [], ◌∷◌}

mutual
  -- input i is term t; not; all of; any of
  pub data Condition : Type 0 where
    is : ℕ → ℕ → Condition
    negation : Condition → Condition
    all : Conditions → Condition
    any : Conditions → Condition

  pub data Conditions : Type 0 where
    end : Conditions
    also : Condition → Conditions → Conditions

abbrev pub conditions : List Condition → Conditions
conditions [] = end
conditions (c ∷ cs) = also c (conditions cs)

-- an OR, or an AND
abbrev pub group : Bool → Conditions → Condition
group true cs = any cs
group false cs = all cs

-- behind an odd number of NOTs, or an even one
abbrev pub under : Bool → Condition → Condition
under true c = negation c
under false c = c

-- how many conditions lie one in another
abbrev mutual
  pub depth : Condition → ℕ
  depth (is i t) = 1
  depth (negation c) = 1 + depth c
  depth (all cs) = 1 + greatest_depth cs
  depth (any cs) = 1 + greatest_depth cs

  pub greatest_depth : Conditions → ℕ
  greatest_depth end = 0
  greatest_depth (also c cs) = max (depth c) (greatest_depth cs)

-- how many conditions there are in all
abbrev mutual
  pub nodes : Condition → ℕ
  nodes (is i t) = 1
  nodes (negation c) = 1 + nodes c
  nodes (all cs) = 1 + total_nodes cs
  nodes (any cs) = 1 + total_nodes cs

  pub total_nodes : Conditions → ℕ
  total_nodes end = 0
  total_nodes (also c cs) = nodes c + total_nodes cs

-- each literal is so, and no list is empty
abbrev mutual
  pub HasLiterals : (ℕ → ℕ → Type 0) → Condition → Type 0
  HasLiterals P (is i t) = P i t
  HasLiterals P (negation c) = HasLiterals P c
  HasLiterals P (all cs) = SomeHaveLiterals P cs
  HasLiterals P (any cs) = SomeHaveLiterals P cs

  -- one at least
  pub SomeHaveLiterals : (ℕ → ℕ → Type 0) → Conditions → Type 0
  SomeHaveLiterals P end = ⊥
  SomeHaveLiterals P (also c cs) = HasLiterals P c × AllHaveLiterals P cs

  pub AllHaveLiterals : (ℕ → ℕ → Type 0) → Conditions → Type 0
  AllHaveLiterals P end = Unit {0}
  AllHaveLiterals P (also c cs) = HasLiterals P c × AllHaveLiterals P cs

-- what an OR, or an AND, comes to: of no parts, and of one part and the rest
pub record Joins (A : Type 0) : Type 0 where
  pub none : Bool → A
  pub join : Bool → A → A → A

-- by one operation for OR, and another for AND
abbrev pub joins : {A : Type 0} → A → (A → A → A) → A → (A → A → A) → Joins A
joins no_any or no_all and = record {
  none = λ any. if any then no_any else no_all;
  join = λ any. if any then or else and;
}

-- what a condition comes to where its literals, NOT, AND and OR have their values
abbrev mutual
  pub evaluate : {A : Type 0} → (A → A) → Joins A → (ℕ → ℕ → A) → Condition → A
  evaluate minus j v (is i t) = v i t
  evaluate minus j v (negation c) = minus (evaluate minus j v c)
  evaluate minus j v (all cs) = evaluate_parts minus j v false cs
  evaluate minus j v (any cs) = evaluate_parts minus j v true cs

  pub evaluate_parts : {A : Type 0} → (A → A) → Joins A → (ℕ → ℕ → A) → Bool → Conditions → A
  evaluate_parts minus j v or end = j.none or
  evaluate_parts minus j v or (also c cs) = j.join or (evaluate minus j v c) (evaluate_parts minus j v or cs)

-- the same where NOT is pushed to the literals. `odd`: the condition stands under an odd number of NOTs. There an AND
-- is an OR of NOTs, an OR an AND of NOTs, and a literal its complement.
abbrev mutual
  pub evaluate_pushed : {A : Type 0} → Joins A → (Bool → ℕ → ℕ → A) → Bool → Condition → A
  evaluate_pushed j v odd (is i t) = v odd i t
  evaluate_pushed j v odd (negation c) = evaluate_pushed j v (not odd) c
  evaluate_pushed j v odd (all cs) = evaluate_pushed_parts j v odd odd cs
  evaluate_pushed j v odd (any cs) = evaluate_pushed_parts j v odd (not odd) cs

  pub evaluate_pushed_parts : {A : Type 0} → Joins A → (Bool → ℕ → ℕ → A) → Bool → Bool → Conditions → A
  evaluate_pushed_parts j v odd or end = j.none or
  evaluate_pushed_parts j v odd or (also c cs) =
      j.join or (evaluate_pushed j v odd c) (evaluate_pushed_parts j v odd or cs)

-- the truth where each literal has a whole number from 0 to n
abbrev pub levels : ℕ → Joins ℕ
levels n = joins 0 max n min

abbrev pub level : ℕ → (ℕ → ℕ → ℕ) → Condition → ℕ
level n = evaluate (λ x. n - x) (levels n)
