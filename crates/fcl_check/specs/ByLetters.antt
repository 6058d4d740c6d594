-- What the maps from letters hold while the names of a tree are gathered. No public clause cites it.
-- Beside the promise.
use Rattle.std.specs.Prelude.{◌≡◌, if◌then◌else◌, ℕ, List, Option, Some, None, option_map, IfSome}
use Rattle.std.specs.{BTreeMap.BTreeMap, BTreeMap.get_by, Borrow.Bor, Cmp.Lexicographic.slice_cmp, List.filter_map}
use Rattle.std.specs.{List.find, Ordering.nat_cmp}
use Rattle.fcl_syntax.specs.declared.tree.{Direction.Direction, Name.Name, Part.Part, Direction.TheVariants.Input}
use Rattle.fcl_syntax.specs.declared.tree.Direction.TheVariants.{Output}
use Rattle.fcl_syntax.specs.declared.tree.Part.TheVariants as part
use Rattle.fcl_check.specs.Names.{Declared, is_direction, is_named, number_in, section_name, singleton_names}
use Rattle.fcl_check.specs.Names.{term_names}
use Rattle.fcl_check.specs.{declared.names.Counts.Counts, declared.names.Section.Section}
use Rattle.fcl_check.specs.{declared.names.Variable.Variable, Loaded.or_zero}

-- the value at some letters
abbrev pub at_letters : {X : Type 0} → BTreeMap (Bor (List ℕ)) X → List ℕ → Option X
at_letters m ls = get_by (λ k. slice_cmp nat_cmp ls k.now) m

-- the names of a direction among some declared ones
abbrev pub names_of : Direction → List Declared → List Name
names_of side ds = filter_map (λ (d : Declared). if is_direction side d.0 then Some d.1 else None) ds

abbrev pub count_of : Direction → Counts → ℕ
count_of Input c = c.inputs
count_of Output c = c.outputs

-- the first of some declared variables that has these letters, with its number
abbrev pub variable_in : List ℕ → List Declared → List ℕ → Option Variable
variable_in text ds ls =
    option_map
    (λ (side : Direction). record { direction = side; number = or_zero (number_in text (names_of side ds) ls) })
    (option_map (λ (d : Declared). d.0) (find (λ (d : Declared). is_named text ls d.1) ds))

-- the names of a section's terms
abbrev pub names_in : Part → List Name
names_in (part.Fuzzify s) = term_names s
names_in (part.Defuzzify s) = singleton_names s

-- the sections of some parts, each with the numbers of its terms
pub record HoldsSections (text : List ℕ) (ps : List Part) (sections : BTreeMap (Bor (List ℕ)) Section) : Type 0 where
  pub parts : (ls : List ℕ) → option_map (λ (s : Section). s.part.now) (at_letters sections ls) ≡
      find (λ p. is_named text ls (section_name p)) ps
  pub terms : (ls : List ℕ) → IfSome (at_letters sections ls)
      (λ (s : Section). (ts : List ℕ) → at_letters s.terms ts ≡ number_in text (names_in s.part.now) ts)
