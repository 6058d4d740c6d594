-- Facts of valid blocks that hold in one way at most.
-- Beside the promise.
use Rattle.std.specs.Prelude.{ℕ}
use Rattle.std.specs.Coded.{×_prop, Unit-prop}
use Rattle.fuzzy_meaning.specs.Conditions.{Condition, Conditions, all, also, any, end, is, negation}
use Rattle.fuzzy_meaning.specs.Conditions.{HasLiterals, SomeHaveLiterals, AllHaveLiterals}

mutual
  pub HasLiterals-prop :
      (P : ℕ → ℕ → Type 0) → ((i t : ℕ) → IsProp (P i t)) → (c : Condition) → IsProp (HasLiterals P c)
  HasLiterals-prop P each (is i t) = each i t
  HasLiterals-prop P each (negation c) = HasLiterals-prop P each c
  HasLiterals-prop P each (all cs) = SomeHaveLiterals-prop P each cs
  HasLiterals-prop P each (any cs) = SomeHaveLiterals-prop P each cs

  SomeHaveLiterals-prop :
      (P : ℕ → ℕ → Type 0) → ((i t : ℕ) → IsProp (P i t)) → (cs : Conditions) → IsProp (SomeHaveLiterals P cs)
  SomeHaveLiterals-prop P each end = λ x y. elim x [ ]
  SomeHaveLiterals-prop P each (also c cs) = ×_prop (HasLiterals-prop P each c) (AllHaveLiterals-prop P each cs)

  AllHaveLiterals-prop :
      (P : ℕ → ℕ → Type 0) → ((i t : ℕ) → IsProp (P i t)) → (cs : Conditions) → IsProp (AllHaveLiterals P cs)
  AllHaveLiterals-prop P each end = Unit-prop
  AllHaveLiterals-prop P each (also c cs) = ×_prop (HasLiterals-prop P each c) (AllHaveLiterals-prop P each cs)
