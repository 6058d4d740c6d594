-- What a block's rules are laid out as, and when they are too many.
-- Beside the promise.
use Rattle.std.specs.Prelude.{◌≡◌, ℕ, ◌-◌, ◌*◌, ◌<◌, ◌≤◌, Bool, false, not, ◌&&◌, nat_le, List, map, length, get_or}
use Rattle.std.specs.Prelude.{take, sum_by, flat_map, All, Option, Some, None, pos, int_lt, if◌then◌else◌}
use Rattle.std.specs.List.{list_any}
use Rattle.fz_num.specs.declared.dec.Dec.{Dec}
use Rattle.fuzzy_meaning.specs.{declared.block.Block.Block, declared.block.Rule.Rule, Blocks.IsValid}
use Rattle.rule_layout.specs.declared.{flat.Slot.Slot, flat.Conjunction.Conjunction}
use Rattle.rule_layout.specs.declared.{flat.RuleInstruction.RuleInstruction, flat.Flat.Flat}
use Rattle.rule_layout.specs.declared.flat.RuleInstruction.TheVariants.{Rev, Revw}
use Rattle.rule_layout.specs.declared.flat.LayoutFault.{LayoutFault}
use Rattle.rule_layout.specs.declared.flat.LayoutFault.TheVariants.{TooManyRules, ListTooLong, Memory}
use Rattle.rule_layout.specs.{Spreading.Literal, Spreading.spread_of, Lists.marked}
use Rattle.rule_layout.specs.Slots.{slots_of, number_in, literal_number, conclusion_number}
use Rattle.byte_scaling.specs.Weights.{weight_byte_of}

-- a rule's condition spread
abbrev pub rule_spread : Rule → List (List Literal)
rule_spread r = spread_of false r.cond

-- a conjunction of a rule, by the numbers of the slots
abbrev pub conjunction_of : List Slot → Rule → List Literal → Conjunction
conjunction_of ss r ls = record {
  literals = map (literal_number ss) ls;
  conclusions = map (conclusion_number ss) r.concl;
}

abbrev pub rule_conjunctions : List Slot → Rule → List Conjunction
rule_conjunctions ss r = map (conjunction_of ss r) (rule_spread r)

abbrev pub rule_weights : Rule → List ℕ
rule_weights r = map (λ _. weight_byte_of r.weight) (rule_spread r)

unfoldable pub conjunctions_of : Block → List Conjunction
conjunctions_of b = flat_map (rule_conjunctions (slots_of b)) b.rules

unfoldable pub weights_of : Block → List ℕ
weights_of b = flat_map rule_weights b.rules

-- a weight below 1
abbrev pub is_below_one : Option Dec → Bool
is_below_one None = false
is_below_one (Some w) = int_lt w.0 (pos 10000)

-- REV, where bytes can number the slots and no rule has a weight below 1
abbrev pub instruction_by : ℕ → List Rule → RuleInstruction
instruction_by slots rules = if nat_le slots 254 && not (list_any (λ r. is_below_one r.weight) rules) then Rev else Revw

unfoldable pub instruction_of : Block → RuleInstruction
instruction_of b = instruction_by (length (slots_of b)) b.rules

unfoldable pub flat_of : Block → Flat
flat_of b = record {
  slots = slots_of b;
  conjunctions = conjunctions_of b;
  weights = weights_of b;
  instruction = instruction_of b;
}

-- how many conjunctions the rules have in all
abbrev pub conjunction_count : List Rule → ℕ
conjunction_count rules = sum_by (λ r. length (rule_spread r)) rules

-- how many bytes an element of the list has
abbrev pub element_width : RuleInstruction → ℕ
element_width Rev = 1
element_width Revw = 2

-- how many bytes the list has
unfoldable pub list_size : Block → ℕ
list_size b = element_width (instruction_of b) * length (marked 0xFE 0xFF (conjunctions_of b))

-- the limits of a layout
pub record IsWithinLimits (b : Block) : Type 0 where
  pub few_conjunctions : conjunction_count b.rules ≤ 512
  pub short_list : list_size b ≤ 9984

-- the first rule, from 1, with which the conjunctions are more than 512
pub record IsFirstTooMany (rules : List Rule) (n : ℕ) : Type 0 where
  pub from : 1 ≤ n
  pub to : n ≤ length rules
  pub before : conjunction_count (take (n - 1) rules) ≤ 512
  pub over : 512 < conjunction_count (take n rules)

-- each number of the conjunction is below n
pub record IsBelow (n : ℕ) (c : Conjunction) : Type 0 where
  pub literals : All (λ k. k < n) c.literals
  pub conclusions : All (λ k. k < n) c.conclusions

-- a layout: the slots are apart, so that a slot's place is its number; each number is a slot's, so
-- that no mark of a list is one; each conjunction has a weight byte, which for REV scales nothing
pub record IsLaidOut (f : Flat) : Type 0 where
  pub few_slots : length f.slots ≤ 300
  pub few_for_rev : f.instruction ≡ Rev → length f.slots ≤ 254
  pub apart : (k : ℕ) (s : Slot) → k < length f.slots → number_in f.slots (get_or f.slots k s) ≡ k
  pub in_range : All (IsBelow (length f.slots)) f.conjunctions
  pub some_conjunction : 1 ≤ length f.conjunctions
  pub weighed : length f.weights ≡ length f.conjunctions
  pub weight_bytes : All (λ w. w ≤ 255) f.weights
  pub unscaled : f.instruction ≡ Rev → All (λ w. w ≡ 255) f.weights

-- the list is too long by its number of bytes, and the conjunctions are not too many
pub record IsTooLong (b : Block) (n : ℕ) : Type 0 where
  pub few_conjunctions : conjunction_count b.rules ≤ 512
  pub bytes : n ≡ list_size b
  pub over : 9984 < n

-- the fault is the block's; want of memory is no one's
abbrev pub IsFaultOf : Block → LayoutFault → Type 0
IsFaultOf b (TooManyRules n) = IsFirstTooMany b.rules n
IsFaultOf b (ListTooLong n) = IsTooLong b n
IsFaultOf b Memory = Unit {0}

-- a valid block's layout is one, also where it is over its limits
abbrev pub LayoutLaw : Type 0
LayoutLaw = (b : Block) → IsValid b → IsLaidOut (flat_of b)

-- a layout has the parts of a block's
pub record HasPartsOf (flat : Flat) (b : Block) : Type 0 where
  pub slots : flat.slots ≡ slots_of b
  pub conjunctions : flat.conjunctions ≡ conjunctions_of b
  pub weights : flat.weights ≡ weights_of b
  pub instruction : flat.instruction ≡ instruction_of b

-- the layout of a block does
abbrev pub FlatHasParts : Type 0
FlatHasParts = (flat : Flat) (b : Block) → flat ≡ flat_of b → HasPartsOf flat b
