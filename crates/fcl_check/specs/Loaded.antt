-- The block that a tree without faults spells.
-- Reached by the promise.
use Rattle.std.specs.Prelude.{◌≡◌, ℕ, cond, List, map, Option, Some, None, option_and_then, option_map, ℤ, pos, ◌+ℤ◌}
use Rattle.std.specs.Ordering.{int_eq}
use Rattle.std.specs.List.{AllZip, filter, take_while}
use Rattle.fz_num.specs.declared.dec.Dec.{Dec}
use Rattle.fuzzy_meaning.specs.Conditions.{Condition, is as literal, negation, all, any, Conditions, end, also}
use Rattle.fuzzy_meaning.specs.declared.{block.Block.Block, block.Input.Input, block.Output.Output, block.Rule.Rule}
use Rattle.fuzzy_meaning.specs.declared.block.Trapezoid.{Trapezoid}
use Rattle.fcl_syntax.specs.Grammar.{TNot, neg, group, is, lone, TNots, no_nots, more_nots, TAnd, and_of, TAnds}
use Rattle.fcl_syntax.specs.Grammar.{no_ands, more_ands, TOr, or_of}
use Rattle.fcl_syntax.specs.declared.{tree.Conclusion.Conclusion, tree.Defuzzify.Defuzzify, tree.Direction.Direction}
use Rattle.fcl_syntax.specs.declared.tree.Direction.TheVariants as side
use Rattle.fcl_syntax.specs.declared.{tree.Fallback.Fallback, tree.FunctionBlock.FunctionBlock, tree.Fuzzify.Fuzzify}
use Rattle.fcl_syntax.specs.declared.{tree.Name.Name, tree.Part.Part, tree.Point.Point, tree.Range.Range}
use Rattle.fcl_syntax.specs.declared.{tree.Rule.Rule as RuleNode, tree.Singleton.Singleton, tree.Term.Term}
use Rattle.fcl_syntax.specs.declared.tree.Weight.{Weight}
use Rattle.fcl_check.specs.{Faults.conclusions_of, Places.first, Places.last, Places.drop_while}
use Rattle.fcl_check.specs.Names.{as_defuzzify, as_fuzzify, terms_of, singletons_of, declared_as, section_of}
use Rattle.fcl_check.specs.Names.{variable_number, term_number, letters}
use Rattle.fcl_check.specs.Sections.{Ends, value, ends_of, hull_of, points_of, x_of, has_one, has_zero, fuzzy_range}
use Rattle.fcl_check.specs.Sections.{defuzzy_range, abscissas, output_numbers, default_of, fallback_number}

abbrev pub number_of : Option Dec → Option ℤ
number_of d = option_map (λ (d : Dec). d.0) d

abbrev pub abscissa_of : Option Point → Option ℤ
abscissa_of p = option_map x_of p

-- ---- inputs

-- the corners of a term: its last zero before a one, its first and its last one, its first zero behind a one
pub record IsTermOf (t : Term) (z : Trapezoid) : Type 0 where
  pub a : number_of z.a ≡ abscissa_of (last (take_while has_zero (points_of t)))
  pub b : Some z.b.0 ≡ abscissa_of (first (filter has_one (points_of t)))
  pub c : Some z.c.0 ≡ abscissa_of (last (filter has_one (points_of t)))
  pub d : number_of z.d ≡ abscissa_of (first (filter has_zero (drop_while has_zero (points_of t))))

abbrev pub given_or : Option Ends → Option Range → Option Ends
given_or hull None = hull
given_or hull (Some r) = Some (ends_of r)

-- from the RANGE, or from the least to the greatest of all points
abbrev pub input_range : Fuzzify → Option Ends
input_range s = given_or (hull_of (abscissas s)) (fuzzy_range s)

pub record IsInputOf (s : Fuzzify) (x : Input) : Type 0 where
  pub range : Some (x.lo.0, x.hi.0) ≡ input_range s
  pub terms : AllZip IsTermOf (terms_of s) x.terms

-- ---- outputs

-- what reaches from p to p reaches to p + 1
abbrev pub widened : Ends → Ends
widened e = cond (int_eq e.0 e.1) (e.0, e.1 +ℤ pos 10000) e

-- from the least to the greatest of the singletons and DEFAULT
abbrev pub output_hull : Defuzzify → Option Ends
output_hull s = hull_of (map (λ (n : ℤ × ℕ). n.0) (output_numbers s))

-- the RANGE as it stands; else the hull, which is widened where it is one number
abbrev pub output_range : Defuzzify → Option Ends
output_range s = given_or (option_map widened (output_hull s)) (defuzzy_range s)

abbrev pub default_number : Fallback → Option ℤ
default_number d = option_map value (fallback_number d.value)

pub record IsOutputOf (s : Defuzzify) (y : Output) : Type 0 where
  pub range : Some (y.lo.0, y.hi.0) ≡ output_range s
  pub singletons : map (λ (d : Dec). d.0) y.singletons ≡ map (λ (t : Singleton). value t.value) (singletons_of s)
  pub default : Some (number_of y.default) ≡ option_map default_number (default_of s)

-- ---- both

-- what the section of a name makes, which is of one sort
abbrev pub IsVariableNamed : {S X : Type 0} → (Part → Option S) → (S → X → Type 0) → List ℕ → FunctionBlock → Name
    → X → Type 0
IsVariableNamed {S} as_section IsOf text b n x =
    (s : S) × (option_and_then as_section (section_of text b (letters text n)) ≡ Some s) × IsOf s x

-- ---- rules

abbrev pub or_zero : Option ℕ → ℕ
or_zero None = 0
or_zero (Some n) = n

-- all or any of one part is that part
abbrev pub all_of : Condition → Conditions → Condition
all_of c end = c
all_of c (also d ds) = all (also c (also d ds))

abbrev pub any_of : Condition → Conditions → Condition
any_of c end = c
any_of c (also d ds) = any (also c (also d ds))

abbrev pub negated : Option ℕ → Condition → Condition
negated None c = c
negated (Some at) c = negation c

-- the condition of a tree, where each variable and term has its number; `x IS NOT t` is NOT of `x IS t`
abbrev mutual
  pub not_condition : (Name → Name → Condition) → TNot → Condition
  not_condition f (neg at t) = negation (not_condition f t)
  not_condition f (group at o) = or_condition f o
  not_condition f (is v i b t) = negated b (f v t)
  not_condition f (lone v x) = f v v

  pub nots_conditions : (Name → Name → Condition) → TNots → Conditions
  nots_conditions f no_nots = end
  nots_conditions f (more_nots at t ts) = also (not_condition f t) (nots_conditions f ts)

  pub and_condition : (Name → Name → Condition) → TAnd → Condition
  and_condition f (and_of t ts) = all_of (not_condition f t) (nots_conditions f ts)

  pub ands_conditions : (Name → Name → Condition) → TAnds → Conditions
  ands_conditions f no_ands = end
  ands_conditions f (more_ands at a items) = also (and_condition f a) (ands_conditions f items)

  pub or_condition : (Name → Name → Condition) → TOr → Condition
  or_condition f (or_of a items) = any_of (and_condition f a) (ands_conditions f items)

module _ (text : List ℕ) (b : FunctionBlock) where
  -- the numbers of a variable and of a term of it on one side
  abbrev pub numbers_of : Direction → Name → Name → ℕ × ℕ
  numbers_of side v t = (
    or_zero (variable_number text b side (letters text v)),
    or_zero (term_number text b side (letters text v) (letters text t)),
  )

  abbrev pub literal_of : Name → Name → Condition
  literal_of v t = let n = numbers_of side.Input v t in literal n.0 n.1

  abbrev pub conclusion_of : Conclusion → ℕ × ℕ
  conclusion_of c = numbers_of side.Output c.variable c.term

  pub record IsRuleOf (r : RuleNode) (q : Rule) : Type 0 where
    pub condition : q.cond ≡ or_condition literal_of r.condition
    pub weight : number_of q.weight ≡ option_map (λ (w : Weight). value w.value) r.weight
    pub conclusions : q.concl ≡ map conclusion_of (conclusions_of r)

  -- ---- the block

  abbrev pub IsInputNamed : Name → Input → Type 0
  IsInputNamed = IsVariableNamed as_fuzzify IsInputOf text b

  abbrev pub IsOutputNamed : Name → Output → Type 0
  IsOutputNamed = IsVariableNamed as_defuzzify IsOutputOf text b

  -- inputs and outputs in the order of their declaration, each by its section, and the rules in their order
  pub record IsBlockOf (block : Block) : Type 0 where
    pub inputs : AllZip IsInputNamed (declared_as side.Input b) block.inputs
    pub outputs : AllZip IsOutputNamed (declared_as side.Output b) block.outputs
    pub rules : AllZip IsRuleOf b.rules.rules block.rules
