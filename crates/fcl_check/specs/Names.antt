-- The names of a tree, and what they stand for. Names that differ only in case are equal: their
-- letters are read in the text in small letters.
-- Reached by the promise.
use Rattle.std.specs.Prelude.{if◌then◌else◌, ℕ, suc, Bool, true, false, List, ◌∷◌, drop, map, Option, Some, None}
use Rattle.std.specs.Prelude.{option_map, option_and_then}
use Rattle.std.specs.List.{filter_map, find, flat_map, position, take_while}
use Rattle.std.specs.Str.{bytes_eq}
use Rattle.fcl_tokens.specs.Tokens.{is_name_byte}
use Rattle.fcl_syntax.specs.declared.tree.{Declaration.Declaration, Defuzzify.Defuzzify, DefuzzyLine.DefuzzyLine}
use Rattle.fcl_syntax.specs.declared.tree.{Direction.Direction, FunctionBlock.FunctionBlock}
use Rattle.fcl_syntax.specs.declared.tree.{Direction.TheVariants.Input, Direction.TheVariants.Output, Fuzzify.Fuzzify}
use Rattle.fcl_syntax.specs.declared.tree.{FuzzyLine.FuzzyLine, Name.Name, Part.Part, Singleton.Singleton, Term.Term}
use Rattle.fcl_syntax.specs.declared.tree.Variables.{Variables}
use Rattle.fcl_syntax.specs.declared.tree.DefuzzyLine.TheVariants as defuzzy
use Rattle.fcl_syntax.specs.declared.tree.FuzzyLine.TheVariants as fuzzy
use Rattle.fcl_syntax.specs.declared.tree.Part.TheVariants as part

-- a declared variable
abbrev pub Declared : Type 0
Declared = Direction × Name

abbrev pub is_direction : Direction → Direction → Bool
is_direction Input Input = true
is_direction Output Output = true
is_direction _ _ = false

abbrev pub as_fuzzify : Part → Option Fuzzify
as_fuzzify (part.Fuzzify s) = Some s
as_fuzzify (part.Defuzzify s) = None

abbrev pub as_defuzzify : Part → Option Defuzzify
as_defuzzify (part.Fuzzify s) = None
as_defuzzify (part.Defuzzify s) = Some s

-- the terms of a section, and their names
abbrev pub term_of : FuzzyLine → Option Term
term_of (fuzzy.Term t) = Some t
term_of (fuzzy.Range r) = None

abbrev pub terms_of : Fuzzify → List Term
terms_of s = filter_map term_of s.lines

abbrev pub singleton_of : DefuzzyLine → Option Singleton
singleton_of (defuzzy.Singleton s) = Some s
singleton_of _ = None

abbrev pub singletons_of : Defuzzify → List Singleton
singletons_of s = filter_map singleton_of s.lines

abbrev pub section_name : Part → Name
section_name (part.Fuzzify s) = s.name
section_name (part.Defuzzify s) = s.name

abbrev pub term_names : Fuzzify → List Name
term_names s = map (λ (t : Term). t.name) (terms_of s)

abbrev pub singleton_names : Defuzzify → List Name
singleton_names s = map (λ (t : Singleton). t.name) (singletons_of s)

-- the declared variables in the text's order
abbrev pub declared_by : Variables → List Declared
declared_by v = flat_map
    (λ (d : Declaration). map (λ (n : Name). (v.direction, n)) (d.first ∷ d.more)) v.declarations

abbrev pub declared_in : FunctionBlock → List Declared
declared_in b = flat_map declared_by b.variables

abbrev pub declared_as : Direction → FunctionBlock → List Name
declared_as direction b =
    filter_map (λ (d : Declared). if is_direction direction d.0 then Some d.1 else None) (declared_in b)

module _ (text : List ℕ) where
  -- the letters of a name
  abbrev pub letters : Name → List ℕ
  letters n = take_while is_name_byte (drop n.at text)

  -- whether a name has these letters
  abbrev pub is_named : List ℕ → Name → Bool
  is_named ls n = bytes_eq ls (letters n)

  -- the direction in which a name is declared first
  abbrev pub direction_of : FunctionBlock → List ℕ → Option Direction
  direction_of b ls = option_map (λ (d : Declared). d.0) (find (λ (d : Declared). is_named ls d.1) (declared_in b))

  -- the number of a name among some, from 1
  abbrev pub number_in : List Name → List ℕ → Option ℕ
  number_in names ls = option_map suc (position (is_named ls) names)

  -- the number of a variable among those of a direction
  abbrev pub variable_number : FunctionBlock → Direction → List ℕ → Option ℕ
  variable_number b direction ls = number_in (declared_as direction b) ls

  -- the first section of a name
  abbrev pub section_of : FunctionBlock → List ℕ → Option Part
  section_of b ls = find (λ p. is_named ls (section_name p)) b.parts

  -- the section of a name, of the sort that inputs have or of the sort that outputs have
  abbrev pub fuzzify_of : FunctionBlock → List ℕ → Option Fuzzify
  fuzzify_of b ls = option_and_then as_fuzzify (section_of b ls)

  abbrev pub defuzzify_of : FunctionBlock → List ℕ → Option Defuzzify
  defuzzify_of b ls = option_and_then as_defuzzify (section_of b ls)

  -- the number of a term of a variable, looked for in its section of the direction's sort
  abbrev pub term_number : FunctionBlock → Direction → List ℕ → List ℕ → Option ℕ
  term_number b Input v t = option_and_then (λ (s : Fuzzify). number_in (term_names s) t) (fuzzify_of b v)
  term_number b Output v t = option_and_then (λ (s : Defuzzify). number_in (singleton_names s) t) (defuzzify_of b v)
