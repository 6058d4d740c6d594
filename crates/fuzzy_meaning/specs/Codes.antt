-- Conditions as lists of numbers, in postfix.
-- Beside the promise.
use Rattle.std.specs.Prelude.{◌≡◌, ℕ, zero, suc, List, [], ◌∷◌, refl}
use Rattle.std.specs.Coded.{Coded, code_by, coded×, coded_ℕ, coded_list}
use Rattle.fuzzy_meaning.specs.Conditions.{Condition, is, negation, all, any, Conditions, end, also}

-- which constructor, and the numbers of a literal
abbrev Token : Type 0
Token = ℕ × (ℕ × ℕ)

-- a tree before what follows it
abbrev mutual
  written : Condition → List Token → List Token
  written (is i t) k = (0, (i, t)) ∷ k
  written (negation c) k = written c ((1, (0, 0)) ∷ k)
  written (all cs) k = all_written cs ((2, (0, 0)) ∷ k)
  written (any cs) k = all_written cs ((3, (0, 0)) ∷ k)

  all_written : Conditions → List Token → List Token
  all_written end k = (4, (0, 0)) ∷ k
  all_written (also c cs) k = all_written cs (written c ((5, (0, 0)) ∷ k))

-- the trees and the lists that are read and not yet used
abbrev Stacks : Type 0
Stacks = List Condition × List Conditions

abbrev top : List Condition → Condition
top [] = is 0 0
top (c ∷ cs) = c

abbrev below : List Condition → List Condition
below [] = []
below (c ∷ cs) = cs

abbrev top_list : List Conditions → Conditions
top_list [] = end
top_list (c ∷ cs) = c

abbrev below_list : List Conditions → List Conditions
below_list [] = []
below_list (c ∷ cs) = cs

abbrev step : ℕ → ℕ × ℕ → Stacks → Stacks
step zero x s = (is x.0 x.1 ∷ s.0, s.1)
step (suc zero) x s = (negation (top s.0) ∷ below s.0, s.1)
step (suc (suc zero)) x s = (all (top_list s.1) ∷ s.0, below_list s.1)
step (suc (suc (suc zero))) x s = (any (top_list s.1) ∷ s.0, below_list s.1)
step (suc (suc (suc (suc zero)))) x s = (s.0, end ∷ s.1)
step (suc (suc (suc (suc (suc n))))) x s = (below s.0, also (top s.0) (top_list s.1) ∷ below_list s.1)

abbrev run : List Token → Stacks → Stacks
run [] s = s
run (x ∷ xs) s = run xs (step x.0 x.1 s)

mutual
  run-written : (c : Condition) (k : List Token) (s : Stacks) → run (written c k) s ≡ run k (c ∷ s.0, s.1)
  run-written (is i t) k s = refl
  run-written (negation c) k s = run-written c ((1, (0, 0)) ∷ k) s
  run-written (all cs) k s = run-all_written cs ((2, (0, 0)) ∷ k) s
  run-written (any cs) k s = run-all_written cs ((3, (0, 0)) ∷ k) s

  run-all_written : (cs : Conditions) (k : List Token) (s : Stacks) → run (all_written cs k) s ≡ run k (s.0, cs ∷ s.1)
  run-all_written end k s = refl
  run-all_written (also c cs) k s =
      rw (
        run-all_written cs (written c ((5, (0, 0)) ∷ k)) s,
        run-written c ((5, (0, 0)) ∷ k) (s.0, cs ∷ s.1),
      )
      refl

abbrev to : Condition → List Token
to c = written c []

abbrev from : List Token → Condition
from xs = top (run xs ([], [])).0

pub from-to : (c : Condition) → from (to c) ≡ c
from-to c = rw (run-written c [] ([], [])) refl

abbrev pub condition_code : Coded Condition
condition_code = code_by (List Token) (coded_list (coded× coded_ℕ (coded× coded_ℕ coded_ℕ))) to from from-to
