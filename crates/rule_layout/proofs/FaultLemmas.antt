-- A block within its limits has no fault.
use Rattle.rule_layout.proofs.Words.{[], ◌∷◌, ◌≤◌, arith, length, List, refl, rule_spread, suc, sum_by, sum_by-cons}
use Rattle.rule_layout.proofs.Words.{take, zero, ℕ}
use Rattle.rule_layout.specs.{Faults.LimitsHaveNoFault}
use Rattle.rule_layout.specs.declared.flat.LayoutFault.TheVariants as fault

sum_by-take : {X : Type 0} (f : X → ℕ) (n : ℕ) (xs : List X) → sum_by f (take n xs) ≤ sum_by f xs
sum_by-take f zero xs = omega arith
sum_by-take f (suc n) [] = omega arith
sum_by-take f (suc n) (x ∷ xs) = omega (arith, sum_by-take f n xs, sum_by-cons f x (take n xs), sum_by-cons f x xs)

pub no_fault_within : LimitsHaveNoFault
no_fault_within b (fault.TooManyRules n) w no_memory h =
    omega (arith, w.few_conjunctions, h.over, sum_by-take (λ r. length (rule_spread r)) n b.rules)
no_fault_within b (fault.ListTooLong n) w no_memory h = omega (arith, w.short_list, h.over, h.bytes)
no_fault_within b fault.Memory w no_memory h = absurd (no_memory refl)
