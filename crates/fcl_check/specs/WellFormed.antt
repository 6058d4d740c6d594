-- What the sections of a tree without load faults have, and what its rules name. No public clause cites it.
-- Beside the promise.
use Rattle.std.specs.Prelude.{◌≡◌, ℕ, true, List, [], Option, Some, option_and_then}
use Rattle.std.specs.List.{AllByRecursion}
use Rattle.fcl_syntax.specs.declared.tree.{Conclusion.Conclusion, Defuzzify.Defuzzify, Direction.Direction}
use Rattle.fcl_syntax.specs.declared.tree.{Direction.TheVariants.Input, Direction.TheVariants.Output}
use Rattle.fcl_syntax.specs.declared.tree.{FunctionBlock.FunctionBlock, Fuzzify.Fuzzify, Name.Name, Part.Part}
use Rattle.fcl_syntax.specs.declared.tree.Rule.{Rule}
use Rattle.fcl_syntax.specs.declared.tree.Part.TheVariants as part
use Rattle.fcl_check.specs.Faults.{Pair, conclusions_of, condition_pairs, is_declared_as, weight_outside}
use Rattle.fcl_check.specs.Names.{Declared, is_direction, letters, section_of, term_number}
use Rattle.fcl_check.specs.Sections.{incomplete, shapeless_terms, without_terms}

-- ---- sections

pub record IsWellFormedFuzzify (s : Fuzzify) : Type 0 where
  pub some : without_terms (part.Fuzzify s) ≡ []
  pub shaped : shapeless_terms (part.Fuzzify s) ≡ []

pub record IsWellFormedDefuzzify (s : Defuzzify) : Type 0 where
  pub some : without_terms (part.Defuzzify s) ≡ []
  pub complete : incomplete (part.Defuzzify s) ≡ []

-- a variable that is declared on this side has a well-formed section of one sort
abbrev pub HasSection : {S : Type 0} → Direction → (Part → Option S) → (S → Type 0) → List ℕ → FunctionBlock
    → Declared → Type 0
HasSection {S} side as_section IsWellFormed text b d = is_direction side d.0 ≡ true
    → (s : S) × (option_and_then as_section (section_of text b (letters text d.1)) ≡ Some s) × IsWellFormed s

-- ---- rules

module _ (text : List ℕ) (b : FunctionBlock) where
  -- a variable that is declared on this side, and a term of it
  pub record IsKnown (side : Direction) (v t : Name) : Type 0 where
    pub declared : is_declared_as text b side v ≡ true
    pub number : ℕ
    pub numbered : term_number text b side (letters text v) (letters text t) ≡ Some number

  -- inputs, each with a term of it
  abbrev pub AreKnown : List Pair → Type 0
  AreKnown pairs = AllByRecursion (λ (p : Pair). IsKnown Input p.variable p.term) pairs

  -- outputs, each with a term of it
  abbrev pub AreConcluded : List Conclusion → Type 0
  AreConcluded conclusions = AllByRecursion (λ (c : Conclusion). IsKnown Output c.variable c.term) conclusions

  pub record IsWellFormedRule (r : Rule) : Type 0 where
    pub condition : AreKnown (condition_pairs r)
    pub conclusions : AreConcluded (conclusions_of r)
    pub weight : weight_outside r ≡ []
