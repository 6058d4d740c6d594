-- The faults of a tree: each kind at all its places in the text's order, and the first of them.
-- Reached by the promise.
use Rattle.std.specs.Prelude.{ℕ, Bool, true, false, not, ◌&&◌, ◌||◌, nat_le, ◌≡◌, ◌≢◌, List, [], ◌∷◌, ◌++◌, drop}
use Rattle.std.specs.Prelude.{length, map, Result, Ok, Err, Option, Some, None, is_none, slice_get, int_lt, pos}
use Rattle.std.specs.List.{filter, flat_map, list_any}
use Rattle.fcl_syntax.specs.declared.tree.{Conclusion.Conclusion, DefuzzyLine.DefuzzyLine, Direction.Direction}
use Rattle.fcl_syntax.specs.declared.tree.{FunctionBlock.FunctionBlock, Direction.TheVariants.Input}
use Rattle.fcl_syntax.specs.declared.tree.{Direction.TheVariants.Output, FuzzyLine.FuzzyLine, Name.Name, Part.Part}
use Rattle.fcl_syntax.specs.declared.tree.{Rule.Rule, RuleLine.RuleLine, Weight.Weight}
use Rattle.fcl_syntax.specs.declared.tree.DefuzzyLine.TheVariants as defuzzy
use Rattle.fcl_syntax.specs.declared.tree.FuzzyLine.TheVariants as fuzzy
use Rattle.fcl_syntax.specs.declared.tree.Part.TheVariants as part
use Rattle.fcl_syntax.specs.declared.tree.RuleLine.TheVariants as line
use Rattle.fcl_syntax.specs.Grammar.{TNot, neg, group, is, lone, TNots, no_nots, more_nots, TAnd, and_of, TAnds}
use Rattle.fcl_syntax.specs.Grammar.{no_ands, more_ands, TOr, or_of}
use Rattle.fcl_check.specs.Names.{Declared, is_direction, section_name, declared_in, direction_of, section_of}
use Rattle.fcl_check.specs.Names.{term_number, letters, is_named}
use Rattle.fcl_check.specs.Places.{at_if, at_some, at_each, first}
use Rattle.fcl_check.specs.Sections.{without_terms, terms_over_limit, falling_points, shapeless_terms, points_outside}
use Rattle.fcl_check.specs.Sections.{bad_range, numbers_outside, incomplete, value}
use Rattle.fcl_check.specs.declared.fault.LoadFault.{LoadFault}
use Rattle.fcl_check.specs.declared.fault.LoadFault.TheVariants as load

-- ---- names in conditions and conclusions

-- a variable and a term of it
pub record Pair : Type 0 where
  pub variable : Name
  pub term : Name

-- those of a condition in the text's order
abbrev mutual
  pub not_pairs : TNot → List Pair
  not_pairs (neg at t) = not_pairs t
  not_pairs (group at o) = or_pairs o
  not_pairs (is v i b t) = (record { variable = v; term = t }) ∷ []
  not_pairs (lone v f) = []

  pub nots_pairs : TNots → List Pair
  nots_pairs no_nots = []
  nots_pairs (more_nots at t ts) = not_pairs t ++ nots_pairs ts

  pub and_pairs : TAnd → List Pair
  and_pairs (and_of t ts) = not_pairs t ++ nots_pairs ts

  pub ands_pairs : TAnds → List Pair
  ands_pairs no_ands = []
  ands_pairs (more_ands at a items) = and_pairs a ++ ands_pairs items

  pub or_pairs : TOr → List Pair
  or_pairs (or_of a items) = and_pairs a ++ ands_pairs items

abbrev pub condition_pairs : Rule → List Pair
condition_pairs r = or_pairs r.condition

abbrev pub conclusions_of : Rule → List Conclusion
conclusions_of r = r.first ∷ r.more

-- ---- lines that may stand once in their section

abbrev pub line_at : FuzzyLine → ℕ
line_at (fuzzy.Term t) = t.name.at
line_at (fuzzy.Range r) = r.at

abbrev pub output_line_at : DefuzzyLine → ℕ
output_line_at (defuzzy.Singleton t) = t.name.at
output_line_at (defuzzy.Accu s) = s.at
output_line_at (defuzzy.Method s) = s.at
output_line_at (defuzzy.Default d) = d.at
output_line_at (defuzzy.Range r) = r.at

abbrev pub rule_line_at : RuleLine → ℕ
rule_line_at (line.And s) = s.at
rule_line_at (line.Or s) = s.at
rule_line_at (line.Act a) = a.at
rule_line_at (line.Accu s) = s.at

abbrev pub same_rule_line : RuleLine → RuleLine → Bool
same_rule_line (line.And s) (line.And t) = true
same_rule_line (line.Or s) (line.Or t) = true
same_rule_line (line.Act a) (line.Act b) = true
same_rule_line (line.Accu s) (line.Accu t) = true
same_rule_line _ _ = false

-- lines of one kind, other than TERM, of which a section may have one
abbrev pub same_kind : DefuzzyLine → DefuzzyLine → Bool
same_kind (defuzzy.Accu s) (defuzzy.Accu t) = true
same_kind (defuzzy.Method s) (defuzzy.Method t) = true
same_kind (defuzzy.Default s) (defuzzy.Default t) = true
same_kind (defuzzy.Range q) (defuzzy.Range r) = true
same_kind _ _ = false

-- the items that are the same as one before them
abbrev pub repeated : {A : Type 0} → (A → A → Bool) → (A → ℕ) → List A → List ℕ
repeated {A} same at items = at_each (λ (before : List A) (x : A). at_if (list_any (same x) before) (at x)) [] items

abbrev pub is_some_direction : Direction → Option Direction → Bool
is_some_direction side None = false
is_some_direction side (Some d) = is_direction side d

-- ---- limits

-- how many inputs and outputs a block may have
abbrev pub most_of : Direction → ℕ
most_of Input = 8
most_of Output = 4

-- a declared name behind as many of its direction as there may be
abbrev pub is_over : List Declared → Declared → Bool
is_over before d = nat_le (most_of d.0) (length (filter (λ (e : Declared). is_direction d.0 e.0) before))

-- ---- WeightOutside: weights below 0 or above 1, at WITH

abbrev pub weight_outside : Rule → List ℕ
weight_outside r =
    at_some (λ (w : Weight). at_if (int_lt (value w.value) (pos 0) || int_lt (pos 10000) (value w.value)) w.at) r.weight

module _ (text : List ℕ) (b : FunctionBlock) where
  abbrev pub same_name : Name → Name → Bool
  same_name m n = is_named text (letters text m) n

  -- ---- Twice

  abbrev pub same_declared : Declared → Declared → Bool
  same_declared d e = same_name d.1 e.1

  abbrev pub same_line : FuzzyLine → FuzzyLine → Bool
  same_line (fuzzy.Term s) (fuzzy.Term t) = same_name s.name t.name
  same_line (fuzzy.Range q) (fuzzy.Range r) = true
  same_line _ _ = false

  abbrev pub same_output_line : DefuzzyLine → DefuzzyLine → Bool
  same_output_line (defuzzy.Singleton s) (defuzzy.Singleton t) = same_name s.name t.name
  same_output_line l m = same_kind l m

  abbrev pub repeated_lines : Part → List ℕ
  repeated_lines (part.Fuzzify s) = repeated same_line line_at s.lines
  repeated_lines (part.Defuzzify s) = repeated same_output_line output_line_at s.lines

  abbrev pub same_section : Part → Part → Bool
  same_section p q = same_name (section_name p) (section_name q)

  -- a section of a name that an earlier one has, and the lines that are given twice in it
  abbrev pub repeated_section : List Part → Part → List ℕ
  repeated_section before p = at_if (list_any (same_section p) before) (section_name p).at ++ repeated_lines p

  abbrev pub twice : List ℕ
  twice = repeated same_declared (λ (d : Declared). d.1.at) (declared_in b)
      ++ (at_each repeated_section [] b.parts
      ++ repeated same_rule_line rule_line_at b.rules.lines)

  -- ---- Unknown

  abbrev pub direction : Name → Option Direction
  direction n = direction_of text b (letters text n)

  abbrev pub is_declared_as : Direction → Name → Bool
  is_declared_as side n = is_some_direction side (direction n)

  -- a variable that is not declared, or a term that it does not have where it stands on its side
  abbrev pub unknown_pair : Direction → Name → Name → List ℕ
  unknown_pair side v t = at_if (is_none (direction v)) v.at ++
      at_if (is_declared_as side v && is_none (term_number text b side (letters text v) (letters text t))) t.at

  abbrev pub unknown_in : Rule → List ℕ
  unknown_in r = flat_map (λ (p : Pair). unknown_pair Input p.variable p.term) (condition_pairs r)
      ++ flat_map (λ (c : Conclusion). unknown_pair Output c.variable c.term) (conclusions_of r)

  abbrev pub unknown_section : Part → List ℕ
  unknown_section p = at_if (is_none (direction (section_name p))) (section_name p).at

  abbrev pub unknown : List ℕ
  unknown = flat_map unknown_section b.parts ++ flat_map unknown_in b.rules.rules

  -- ---- TooMany: the inputs behind 8 others, the outputs behind 4, the terms behind 15 and the rules
  -- behind 256

  abbrev pub too_many : List ℕ
  too_many = at_each (λ (before : List Declared) (d : Declared). at_if (is_over before d) d.1.at) [] (declared_in b)
      ++ (flat_map terms_over_limit b.parts
      ++ map (λ (r : Rule). r.at) (drop 256 b.rules.rules))

  -- ---- WrongSide: names that are declared, but in the other direction

  abbrev pub mistaken : Direction → Name → List ℕ
  mistaken side n = at_some (λ (d : Direction). at_if (not (is_direction side d)) n.at) (direction n)

  abbrev pub mistaken_section : Part → List ℕ
  mistaken_section (part.Fuzzify s) = mistaken Input s.name
  mistaken_section (part.Defuzzify s) = mistaken Output s.name

  abbrev pub mistaken_in : Rule → List ℕ
  mistaken_in r = flat_map (λ (p : Pair). mistaken Input p.variable) (condition_pairs r)
      ++ flat_map (λ (c : Conclusion). mistaken Output c.variable) (conclusions_of r)

  abbrev pub wrong_side : List ℕ
  wrong_side = flat_map mistaken_section b.parts ++ flat_map mistaken_in b.rules.rules

  -- ---- MissingPart: a variable without its section, at its declared name; METHOD or DEFAULT; an
  -- input, an output or a rule, at END_FUNCTION_BLOCK

  abbrev pub without_section : Declared → List ℕ
  without_section d = at_if (is_none (section_of text b (letters text d.1))) d.1.at

  abbrev pub has_direction : Direction → Bool
  has_direction side = list_any (λ (d : Declared). is_direction side d.0) (declared_in b)

  abbrev pub is_whole : Bool
  is_whole = has_direction Input && has_direction Output && not (is_none (slice_get b.rules.rules 0))

  abbrev pub missing_part : List ℕ
  missing_part = flat_map without_section (declared_in b)
      ++ (flat_map incomplete b.parts
      ++ at_if (not is_whole) b.end)

  -- ---- the kinds in their order, each with all its places in the text's order

  abbrev pub kinds : List ((ℕ → LoadFault) × List ℕ)
  kinds =
      (load.Twice, twice)
      ∷ (load.Unknown, unknown)
      ∷ (load.NoTerms, flat_map without_terms b.parts)
      ∷ (load.TooMany, too_many)
      ∷ (load.PointsNotAscending, flat_map falling_points b.parts)
      ∷ (load.TermShape, flat_map shapeless_terms b.parts)
      ∷ (load.TermOutside, flat_map points_outside b.parts)
      ∷ (load.BadRange, flat_map (bad_range (is_declared_as Input)) b.parts)
      ∷ (load.SingletonOutside, flat_map numbers_outside b.parts)
      ∷ (load.WeightOutside, flat_map weight_outside b.rules.rules)
      ∷ (load.WrongSide, wrong_side)
      ∷ (load.MissingPart, missing_part)
      ∷ []

  -- the first kind that occurs, at its first place
  abbrev pub first_fault : Option LoadFault
  first_fault = first (flat_map (λ k. map k.0 k.1) kinds)

-- the answer is this fault, and no fault where there is none; want of memory is free
abbrev pub Answers : {A : Type 0} → Result A LoadFault → Option LoadFault → Type 0
Answers (Ok a) fault = fault ≡ None
Answers (Err e) fault = e ≢ load.Memory → fault ≡ Some e
