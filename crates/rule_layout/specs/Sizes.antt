-- What the sizes of lists of conjunctions say.
-- Beside the promise.
use Rattle.std.specs.Prelude.{◌≡◌, ℕ, ◌+◌, ◌*◌, ◌<◌, ◌≤◌, List, length, sum_by, Option, Some, None, Result, Ok, Err}
use Rattle.std.specs.Prelude.{Bool, true, false}
use Rattle.fuzzy_meaning.specs.{declared.block.Rule.Rule, Blocks.rule_size}
use Rattle.rule_layout.specs.declared.{flat.LayoutFault.LayoutFault, sizes.Size.Size}
use Rattle.rule_layout.specs.declared.flat.LayoutFault.TheVariants.{TooManyRules, ListTooLong, Memory}
use Rattle.rule_layout.specs.{Spreading.total_length, Grid.FitsGrid}
use Rattle.rule_layout.specs.Layouts.{rule_spread, conjunction_count, IsFirstTooMany}

-- at most 512 conjunctions, of some two million entries each
pub record IsSmall (s : Size) : Type 0 where
  pub few : s.conjunctions ≤ 512
  pub short : s.entries ≤ s.conjunctions * 2097152

-- these numbers of conjunctions and of entries, or none where there are more than 512 conjunctions
abbrev pub IsSizeIfFew : ℕ → ℕ → Option Size → Type 0
IsSizeIfFew conjunctions entries None = 512 < conjunctions
IsSizeIfFew conjunctions entries (Some s) =
    (conjunctions ≤ 512) × (s.conjunctions ≡ conjunctions) × (s.entries ≡ entries)

abbrev pub IsSizeOf : {A : Type 0} → List (List A) → Option Size → Type 0
IsSizeOf xs = IsSizeIfFew (length xs) (total_length xs)

abbrev pub IsSum : Size → Size → Option Size → Type 0
IsSum s o = IsSizeIfFew (s.conjunctions + o.conjunctions) (s.entries + o.entries)

abbrev pub IsProduct : Size → Size → Option Size → Type 0
IsProduct s o =
    IsSizeIfFew (s.conjunctions * o.conjunctions) (s.entries * o.conjunctions + s.conjunctions * o.entries)

-- of an OR, or of an AND
abbrev pub IsJoined : Bool → Size → Size → Option Size → Type 0
IsJoined true = IsSum
IsJoined false = IsProduct

-- a rule whose size can be counted
pub record IsCountable (r : Rule) : Type 0 where
  pub fits : FitsGrid r.cond
  pub few : rule_size r ≤ 1048576

-- the elements of the list that a rule gives: each conjunction has the rule's conclusions and two
-- marks
abbrev pub rule_entries : Rule → ℕ
rule_entries r = total_length (rule_spread r) + length (rule_spread r) * (length r.concl + 2)

abbrev pub entry_count : List Rule → ℕ
entry_count rules = sum_by rule_entries rules

abbrev pub IsSizeOfRule : Rule → Option Size → Type 0
IsSizeOfRule r = IsSizeIfFew (length (rule_spread r)) (rule_entries r)

abbrev pub IsSizeOfRules : List Rule → Result Size LayoutFault → Type 0
IsSizeOfRules rules (Ok s) = IsSizeIfFew (conjunction_count rules) (entry_count rules) (Some s)
IsSizeOfRules rules (Err (TooManyRules n)) = IsFirstTooMany rules n
IsSizeOfRules rules (Err (ListTooLong n)) = ⊥
IsSizeOfRules rules (Err Memory) = ⊥
