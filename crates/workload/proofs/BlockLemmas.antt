-- How long the rule lists of blocks that are drawn are.
use Rattle.std.proofs.Common.{arith, ◌≡◌, ◌+◌, ◌*◌, ◌/◌, ◌%◌, ◌≤◌, ℕ, zero, suc, List, [], ◌∷◌, length, map, refl}
use Rattle.std.proofs.Common.{sym, ap, ◌∙◌, length-append}
use Rattle.std.proofs.lemmas.List.Concat.{length-flat_map}
use Rattle.std.specs.List.{range_with_len}
use Rattle.std.specs.Prelude.{false, flat_map}
use Rattle.fuzzy_meaning.specs.declared.block.Rule.{Rule}
use Rattle.rule_layout.specs.declared.{flat.Conjunction.Conjunction, flat.RuleInstruction.RuleInstruction, flat.Slot.Slot}
use Rattle.rule_layout.specs.declared.flat.RuleInstruction.TheVariants.{Rev, Revw}
use Rattle.rule_layout.specs.Layouts.{conjunction_count, conjunctions_of, element_width, instruction_of, list_size}
use Rattle.rule_layout.specs.Layouts.{conjunction_of, rule_conjunctions, rule_spread}
use Rattle.rule_layout.specs.{Lists.marked, Slots.slots_of, Spreading.literal}
use Rattle.workload.specs.{Blocks.drawn_block, Blocks.drawn_rule, Blocks.drawn_rules, Laws.DrawnBlocksAreWithinLimits}

-- n rules, from a number on
abbrev rules_from : ℕ → ℕ → ℕ → List Rule
rules_from shift from n = map (drawn_rule shift) (range_with_len from n)

-- each has one conjunction
spread_count : (shift from n : ℕ) → length (flat_map rule_spread (rules_from shift from n)) ≡ n
spread_count shift from zero = refl
spread_count shift from (suc n) = ap (λ (k : ℕ). suc k) (spread_count shift (from + 1) n)

count_is : (shift from n : ℕ) → conjunction_count (rules_from shift from n) ≡ n
count_is shift from n = sym (length-flat_map rule_spread (rules_from shift from n)) ∙ spread_count shift from n

-- how many numbers of the list a conjunction takes
marked_more : (s e : ℕ) (c : Conjunction) (cs : List Conjunction)
    → length (marked s e (c ∷ cs)) ≡ length c.literals + length c.conclusions + 2 + length (marked s e cs)
marked_more s e c [] = simp (length-append) (omega arith)
marked_more s e c (d ∷ cs) = simp (length-append) (omega arith)

list_length : (s e shift : ℕ) (slots : List Slot) (from n : ℕ)
    → length (marked s e (flat_map (rule_conjunctions slots) (rules_from shift from n))) ≤ 5 * n
list_length s e shift slots from zero = omega arith
list_length s e shift slots from (suc n) =
    let c = conjunction_of slots (drawn_rule shift from)
    (literal false 1 (from / 9 + 1) ∷ literal false 2 (from % 9 + 1) ∷ []) in
    let more = marked_more s e c (flat_map (rule_conjunctions slots) (rules_from shift (from + 1) n)) in
    let concluded : length c.conclusions ≡ 1 = refl in
    omega (arith, more, concluded, list_length s e shift slots (from + 1) n)

few_wide : (instruction : RuleInstruction) → element_width instruction ≤ 2
few_wide Rev = omega arith
few_wide Revw = omega arith

size_is_small : (shift : ℕ) → list_size (drawn_block shift) ≤ 9984
unfolding list_size conjunctions_of drawn_rules
size_is_small shift =
    let b = drawn_block shift in
    small (element_width (instruction_of b)) _ (few_wide (instruction_of b)) (list_length 0xFE 0xFF shift (slots_of b) 0 81)
  where
    small : (w n : ℕ) → w ≤ 2 → n ≤ 405 → w * n ≤ 9984
    small zero n few short = omega arith
    small (suc zero) n few short = omega (arith, short)
    small (suc (suc zero)) n few short = omega (arith, short)
    small (suc (suc (suc w))) n few short = absurd (omega (arith, few))

pub drawn_within_limits : DrawnBlocksAreWithinLimits
unfolding drawn_rules
drawn_within_limits shift =
    record { few_conjunctions = omega (arith, count_is shift 0 81); short_list = size_is_small shift }
