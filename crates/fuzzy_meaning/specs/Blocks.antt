-- Valid blocks.
-- Reached by the promise.
use Rattle.std.specs.Prelude.{◌≡◌, ℕ, ◌+◌, ◌-◌, ◌≤◌, List, length, All, sum_by, slice_get, Option, Some, IfSome}
use Rattle.std.specs.Prelude.{IsSomeAnd, option_and_then, ℤ, pos, neg_ℤ, ◌≤ℤ◌, ◌<ℤ◌}
use Rattle.fz_num.specs.declared.dec.Dec.{Dec}
use Rattle.fuzzy_meaning.specs.declared.{block.Block.Block, block.Input.Input, block.Output.Output, block.Rule.Rule}
use Rattle.fuzzy_meaning.specs.declared.block.Trapezoid.{Trapezoid}
use Rattle.fuzzy_meaning.specs.Conditions.{Condition, Conditions, conditions, depth, nodes, HasLiterals}
use Rattle.fuzzy_meaning.specs.Conditions.{SomeHaveLiterals}

-- inputs, outputs and terms count from 1
abbrev pub input_at : Block → ℕ → Option Input
input_at b i = slice_get b.inputs (i - 1)

abbrev pub output_at : Block → ℕ → Option Output
output_at b o = slice_get b.outputs (o - 1)

abbrev pub term_at : Block → ℕ → ℕ → Option Trapezoid
term_at b i t = option_and_then (λ x. slice_get x.terms (t - 1)) (input_at b i)

-- the block has input i with term t
pub record HasTerm (b : Block) (i t : ℕ) : Type 0 where
  pub input_from : 1 ≤ i
  pub term_from : 1 ≤ t
  pub term_to : IsSomeAnd (input_at b i) (λ x. t ≤ length x.terms)

-- the block has output o with term t
pub record HasSingleton (b : Block) (o t : ℕ) : Type 0 where
  pub output_from : 1 ≤ o
  pub term_from : 1 ≤ t
  pub term_to : IsSomeAnd (output_at b o) (λ x. t ≤ length x.singletons)

-- a magnitude of at most 100000, in 1/10000
pub record IsInScale (z : ℤ) : Type 0 where
  pub low : neg_ℤ (pos 1000000000) ≤ℤ z
  pub high : z ≤ℤ pos 1000000000

pub record IsWithin (lo hi x : Dec) : Type 0 where
  pub low : lo.0 ≤ℤ x.0
  pub high : x.0 ≤ℤ hi.0

-- a <= b <= c <= d
pub record IsTrapezoid (t : Trapezoid) : Type 0 where
  pub a_in : IfSome t.a (λ a. IsInScale a.0 × (a.0 ≤ℤ t.b.0))
  pub b_in : IsInScale t.b.0
  pub peak : t.b.0 ≤ℤ t.c.0
  pub c_in : IsInScale t.c.0
  pub d_in : IfSome t.d (λ d. IsInScale d.0 × (t.c.0 ≤ℤ d.0))

-- within a range
pub record IsValidTerm (lo hi : Dec) (t : Trapezoid) : Type 0 where
  pub a_in : IfSome t.a (λ a. (lo.0 ≤ℤ a.0) × (a.0 ≤ℤ t.b.0))
  pub b_in : lo.0 ≤ℤ t.b.0
  pub peak : t.b.0 ≤ℤ t.c.0
  pub c_in : t.c.0 ≤ℤ hi.0
  pub d_in : IfSome t.d (λ d. (t.c.0 ≤ℤ d.0) × (d.0 ≤ℤ hi.0))

pub record IsValidInput (x : Input) : Type 0 where
  pub lo_in : IsInScale x.lo.0
  pub hi_in : IsInScale x.hi.0
  pub range : x.lo.0 <ℤ x.hi.0
  pub some_term : 1 ≤ length x.terms
  pub few_terms : length x.terms ≤ 15
  pub terms : All (IsValidTerm x.lo x.hi) x.terms

-- the high end alone may be 100001: the range of one point p is p to p + 1
pub record IsValidOutput (x : Output) : Type 0 where
  pub lo_in : IsInScale x.lo.0
  pub hi_in : x.hi.0 ≤ℤ pos 1000010000
  pub range : x.lo.0 <ℤ x.hi.0
  pub some_term : 1 ≤ length x.singletons
  pub few_terms : length x.singletons ≤ 15
  pub singletons : All (IsWithin x.lo x.hi) x.singletons
  pub singletons_in_scale : All (λ u. IsInScale u.0) x.singletons
  pub default_in : IfSome x.default (IsWithin x.lo x.hi)
  pub default_in_scale : IfSome x.default (λ d. IsInScale d.0)

-- each literal names a term of the block, and no list is empty
abbrev pub IsValidCondition : Block → Condition → Type 0
IsValidCondition b = HasLiterals (HasTerm b)

-- one at least
abbrev pub AreValidConditions : Block → Conditions → Type 0
AreValidConditions b = SomeHaveLiterals (HasTerm b)

-- from 0 to 1, in 1/10000
pub record IsWeight (w : Dec) : Type 0 where
  pub low : pos 0 ≤ℤ w.0
  pub high : w.0 ≤ℤ pos 10000

pub record IsValidRule (b : Block) (r : Rule) : Type 0 where
  pub condition : IsValidCondition b r.cond
  pub deep : depth r.cond ≤ 256
  pub weight : IfSome r.weight IsWeight
  pub some_conclusion : 1 ≤ length r.concl
  pub conclusions : All (λ c. HasSingleton b c.0 c.1) r.concl

-- how many conditions and conclusions a rule has in all
abbrev pub rule_size : Rule → ℕ
rule_size r = nodes r.cond + length r.concl

pub record IsValid (b : Block) : Type 0 where
  pub some_input : 1 ≤ length b.inputs
  pub few_inputs : length b.inputs ≤ 8
  pub some_output : 1 ≤ length b.outputs
  pub few_outputs : length b.outputs ≤ 4
  pub some_rule : 1 ≤ length b.rules
  pub few_rules : length b.rules ≤ 256
  pub inputs : All IsValidInput b.inputs
  pub outputs : All IsValidOutput b.outputs
  pub rules : All (IsValidRule b) b.rules
  pub size : sum_by rule_size b.rules ≤ 1048576

-- one number for each input, within its range
pub record AreInputs (b : Block) (xs : List Dec) : Type 0 where
  pub count : length xs ≡ length b.inputs
  pub within : (k : ℕ) (i : Input) (x : Dec) → slice_get b.inputs k ≡ Some i → slice_get xs k ≡ Some x
      → IsWithin i.lo i.hi x

-- each part of a valid AND or OR is valid
abbrev pub PartsAreValid : Type 0
PartsAreValid =
    (b : Block) (parts : List Condition) (k : ℕ) (c : Condition) → AreValidConditions b (conditions parts)
    → slice_get parts k ≡ Some c → IsValidCondition b c
