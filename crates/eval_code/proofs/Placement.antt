-- The parts of a block stand one above the other.
use Rattle.eval_code.proofs.Words.{[], ◌*◌, ◌++◌, ◌+◌, ◌∷◌, ◌≡◌, ◌≤◌, All, arith, at_address, Block}
use Rattle.eval_code.proofs.Words.{block_code, block_items, Byte, bytes_at, bytes_of_word, code_at, Conjunction}
use Rattle.eval_code.proofs.Words.{conjunction_count, conjunctions_of, element_count, element_width, entry_count}
use Rattle.eval_code.proofs.Words.{eval_code, flat_map, RuleInstruction, instruction_of, Instr, IsRisingFrom, IsValid, IsValidOutput}
use Rattle.eval_code.proofs.Words.{Item, length, length-append, length-map, List, list_size, list_words, map, marked}
use Rattle.eval_code.proofs.Words.{MemoryMap, Op, Output, refl, rule_bytes, rule_bytes_by, singleton_bytes}
use Rattle.eval_code.proofs.Words.{singleton_count, slots_of, subst, sum_by, sum_by-cons, sym, table_bytes}
use Rattle.eval_code.proofs.Words.{weight_bytes, weight_bytes_by, weights_of, Width, ℕ}
use Rattle.eval_code.proofs.Joins.{block_items-then, block_then, sum_by-term_count, sum_by-valid}
use Rattle.eval_code.proofs.Lists.{length-marked}
use Rattle.eval_code.proofs.Sizes.{code_size, code_size-append, length-le-code_size, code_size-eval, length-tables}
use Rattle.eval_code.proofs.Sizes.{length-singletons, length-rule_weights}
use Rattle.rule_layout.specs.declared.flat.RuleInstruction.TheVariants as instruction

-- what a block within the limits takes
pub record HasSizes (b : Block) : Type 0 where
  pub few_slots : length (slots_of b) ≤ 300
  pub few_conjunctions : conjunction_count b.rules ≤ 512
  pub short_list : list_size b ≤ 9984

-- each part behind the code ends below the next one
pub record IsSpaced (l : MemoryMap) : Type 0 where
  pub tables : l.tables + 480 ≤ l.singletons
  pub singletons : l.singletons + 60 ≤ l.weights
  pub weights : l.weights + 512 ≤ l.rules

rises_code : (at : ℕ) (code : List Instr) (items : List Item) → IsRisingFrom (at + code_size code) items
    → IsRisingFrom at (map Op code ++ items)
rises_code at [] items h = subst (λ (n : ℕ). IsRisingFrom n items) (omega arith) h
rises_code at (i ∷ is) items h = rises_code (at + _) is items (subst (λ (n : ℕ). IsRisingFrom n items) (omega arith) h)

rises_bytes : (at : ℕ) (bytes : List ℕ) (items : List Item) → IsRisingFrom (at + length bytes) items
    → IsRisingFrom at (map Byte bytes ++ items)
rises_bytes at [] items h = subst (λ (n : ℕ). IsRisingFrom n items) (omega arith) h
rises_bytes at (b ∷ bs) items h =
    rises_bytes (at + 1) bs items (subst (λ (n : ℕ). IsRisingFrom n items) (omega arith) h)

pub sum_by-singleton_count : (outputs : List Output) → length outputs ≤ 4 → All IsValidOutput outputs
    → sum_by singleton_count outputs ≤ 60
sum_by-singleton_count outputs few valid =
    omega (arith, sum_by-valid IsValidOutput singleton_count 15 (λ x v. v.few_terms) outputs valid)

length-weights : (f : RuleInstruction) (weights : List ℕ) → length (weight_bytes_by f weights) ≤ length weights
length-weights instruction.Rev weights = omega arith
length-weights instruction.Revw weights = omega arith

pub length-weights_of : (b : Block) → length (weights_of b) ≡ conjunction_count b.rules
unfolding weights_of
length-weights_of b = length-rule_weights b.rules

length-words : (words : List ℕ) → length (flat_map bytes_of_word words) ≡ 2 * length words
length-words [] = refl
length-words (w ∷ ws) = omega (arith, length-append (bytes_of_word w) (flat_map bytes_of_word ws), length-words ws)

entries-at_address : (base : ℕ) (cs : List Conjunction)
    → sum_by entry_count (map (at_address base) cs) ≡ sum_by entry_count cs
entries-at_address base [] = refl
entries-at_address base (c ∷ cs) =
    omega (
      arith,
      sum_by-cons entry_count (at_address base c) (map (at_address base) cs),
      sum_by-cons entry_count c cs,
      length-map c.literals (λ n. base + n),
      length-map c.conclusions (λ n. base + n),
      entries-at_address base cs,
    )

length-rule_bytes : (slots : ℕ) (f : RuleInstruction) (cs : List Conjunction)
    → length (rule_bytes_by slots f cs) ≡ element_width f * length (marked 0xFE 0xFF cs)
length-rule_bytes slots instruction.Rev cs = omega arith
length-rule_bytes slots instruction.Revw cs =
    omega (
      arith,
      length-words (list_words slots cs),
      length-marked 0xFFFE 0xFFFF (map (at_address slots) cs),
      length-marked 0xFE 0xFF cs,
      entries-at_address slots cs,
    )

pub length-rules : (slots : ℕ) (b : Block) → length (rule_bytes slots b) ≡ list_size b
unfolding list_size
length-rules slots b = length-rule_bytes slots (instruction_of b) (conjunctions_of b)

-- the elements of the list are no more than its bytes
pub element_count-le : (b : Block) → element_count b ≤ list_size b
unfolding list_size
element_count-le b =
    by_form (instruction_of b) (length (marked 0xFE 0xFF (conjunctions_of b))) (length-marked 0xFE 0xFF (conjunctions_of b))
  where
    by_form : (f : RuleInstruction) (n : ℕ) → n ≡ element_count b → element_count b ≤ element_width f * n
    by_form instruction.Rev n h = omega arith
    by_form instruction.Revw n h = omega arith

rises_part : (at p : ℕ) (bytes : List ℕ) (items : List Item) → at ≤ p → IsRisingFrom (p + length bytes) items
    → IsRisingFrom at (bytes_at p bytes ++ items)
rises_part at p bytes items low rest = (low, rises_bytes p bytes items rest)

-- the parts by their sizes
pub record HasPartSizes (l : MemoryMap) (b : Block) (w : Width) (before behind : List Instr) : Type 0 where
  pub code : code_size (block_code l b w before behind) ≤ code_size before + 2416 + code_size behind
  pub tables : length (table_bytes b) ≤ 480
  pub singletons : length (singleton_bytes b) ≤ 60
  pub weights : length (weight_bytes b) ≤ 512
  pub rules : length (rule_bytes l.slots b) ≤ 9984

pub part_sizes : (l : MemoryMap) (b : Block) (w : Width) (before behind : List Instr) → IsValid b → HasSizes b
    → HasPartSizes l b w before behind
part_sizes l b w before behind v h =
    let terms = sum_by-term_count b.inputs v.few_inputs v.inputs in
    record {
      code = omega (
        arith,
        code_size-append before (eval_code l b w ++ behind),
        code_size-append (eval_code l b w) behind,
        code_size-eval l w b.inputs b.outputs (slots_of b) (instruction_of b) v.few_inputs terms v.few_outputs h.few_slots,
      );
      tables = omega (arith, length-tables b.inputs, terms);
      singletons = omega (arith, length-singletons b.outputs, sum_by-singleton_count b.outputs v.few_outputs v.outputs);
      weights = omega (arith, length-weights (instruction_of b) (weights_of b), length-weights_of b, h.few_conjunctions);
      rules = omega (arith, length-rules l.slots b, h.short_list);
    }

-- a block's items never go back, where the code ends below the tables
pub block_rises : (at : ℕ) (l : MemoryMap) (b : Block) (w : Width) (before behind : List Instr) (rest : List Item)
    → IsSpaced l → HasPartSizes l b w before behind → at ≤ l.code
    → l.code + (code_size before + 2416 + code_size behind) ≤ l.tables
    → IsRisingFrom (l.rules + length (rule_bytes l.slots b)) rest
    → IsRisingFrom at (block_items l b w before behind ++ rest)
block_rises at l b w before behind rest s h low room behind_rules =
    let code = block_code l b w before behind in
    let rules = rises_part (l.weights + length (weight_bytes b)) l.rules (rule_bytes l.slots b) rest
    (omega (arith, s.weights, h.weights)) behind_rules in
    let weights = rises_part (l.singletons + length (singleton_bytes b)) l.weights (weight_bytes b) _
    (omega (arith, s.singletons, h.singletons)) rules in
    let singletons = rises_part (l.tables + length (table_bytes b)) l.singletons (singleton_bytes b) _
    (omega (arith, s.tables, h.tables)) weights in
    let tables = rises_part (l.code + code_size code) l.tables (table_bytes b) _
    (omega (arith, room, h.code)) singletons in
    let whole : IsRisingFrom at (block_then l b w before behind rest) = (low, rises_code l.code code _ tables) in
    subst (λ (xs : List Item). IsRisingFrom at xs) (sym (block_items-then l b w before behind rest)) whole

-- and are few
pub length-block_items : (l : MemoryMap) (b : Block) (w : Width) (before behind : List Instr)
    → HasPartSizes l b w before behind
    → length (block_items l b w before behind) ≤ code_size before + code_size behind + 13457
unfolding block_items
length-block_items l b w before behind h =
    let code = block_code l b w before behind in
    let t = table_bytes b in
    let s = singleton_bytes b in
    let ws = weight_bytes b in
    let r = rule_bytes l.slots b in
    omega (
      arith,
      length-append (code_at l.code code)
          (bytes_at l.tables t ++ (bytes_at l.singletons s ++ (bytes_at l.weights ws ++ bytes_at l.rules r))),
      length-append (bytes_at l.tables t) (bytes_at l.singletons s ++ (bytes_at l.weights ws ++ bytes_at l.rules r)),
      length-append (bytes_at l.singletons s) (bytes_at l.weights ws ++ bytes_at l.rules r),
      length-append (bytes_at l.weights ws) (bytes_at l.rules r),
      length-map code (λ i. Op i),
      length-le-code_size code,
      length-map t (λ x. Byte x),
      length-map s (λ x. Byte x),
      length-map ws (λ x. Byte x),
      length-map r (λ x. Byte x),
      h.code,
      h.tables,
      h.singletons,
      h.weights,
      h.rules,
    )
