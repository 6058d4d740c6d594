-- The layout of a valid block.
use Rattle.rule_layout.proofs.Words.{[], ◌*◌, ◌++◌, ◌+◌, ◌<◌, ◌∙◌, ◌∷◌, ◌≡◌, ◌≤◌, All, All-append, All-head, All-map}
use Rattle.rule_layout.proofs.Words.{All-nil, All-tail, ap, ap₂, arith, Block, Bool, complement_slot}
use Rattle.rule_layout.proofs.Words.{conclusion_number, Conjunction, conjunction_count, conjunction_of}
use Rattle.rule_layout.proofs.Words.{conjunctions_of, entry_count, filter, Flat, flat_map, flat_of, instruction_by, instruction_of}
use Rattle.rule_layout.proofs.Words.{get_or, input_terms, is_complemented, IsBelow, IsCountable, IsInTable}
use Rattle.rule_layout.proofs.Words.{IsNumbering, IsSizeOfRules, IsSpreadable, IsValid, length, length-append}
use Rattle.rule_layout.proofs.Words.{length-map, List, Literal, literal_number, map, marked, mul-le-mul_right, nat_le}
use Rattle.rule_layout.proofs.Words.{nat_tests, out_slot, output_terms, range_with_len, refl, Rev, Revw, Rule}
use Rattle.rule_layout.proofs.Words.{rule_conjunctions, rule_entries, rule_spread, rule_weights, singleton_count}
use Rattle.rule_layout.proofs.Words.{Size, Slot, slots_of, subst, sum_by, sum_by-append, sum_by-cons, sym}
use Rattle.rule_layout.proofs.Words.{table_conjunction, table_conjunctions, table_literal, table_number, term_count}
use Rattle.rule_layout.proofs.Words.{term_slot, terms_from, total_length, weights_of, ℕ}
use Rattle.rule_layout.specs.Layouts.{element_width, list_size, IsTooLong, IsWithinLimits}
use Rattle.std.specs.{Prelude.Ok, Prelude.true, Prelude.false}
use Rattle.std.proofs.{lemmas.List.Sums.length-filter, lemmas.List.Sums.count_by-le-length}
use Rattle.std.proofs.{lemmas.List.Sums.get_or-le-sum_by, lemmas.List.Elements.All-filter}
use Rattle.fuzzy_meaning.specs.{Blocks.rule_size}
use Rattle.rule_layout.specs.{declared.flat.RuleInstruction.RuleInstruction}
use Rattle.std.proofs.lemmas.List.FromFn.{length-range_with_len}
use Rattle.rule_layout.proofs.BlockLemmas.{input_terms_in_grid, output_terms_in_table, few_terms, few_singletons}
use Rattle.rule_layout.proofs.BlockLemmas.{rule_fits}
use Rattle.rule_layout.proofs.{ListLemmas.mark, ListLemmas.marked-cons, RuleLemmas.entry_count_le}
use Rattle.rule_layout.proofs.MemberLemmas.{RuleHasSlots, rules_have_slots}

pub slots_in_table : (b : Block) → IsValid b → All IsInTable (slots_of b)
unfolding slots_of
slots_in_table b v =
    let test : ℕ × ℕ → Bool = λ p. is_complemented b.rules p.0 p.1 in
    let terms = input_terms_in_grid b v in
    All-append IsInTable (map term_slot (input_terms b))
    (map complement_slot (filter test (input_terms b)) ++ map out_slot (output_terms b))
    (All-map IsInTable term_slot (input_terms b) terms)
    (All-append IsInTable (map complement_slot (filter test (input_terms b))) (map out_slot (output_terms b))
    (All-map IsInTable complement_slot (filter test (input_terms b))
    (All-filter test (λ p. IsInTable (complement_slot p)) (input_terms b) terms))
    (All-map IsInTable out_slot (output_terms b) (output_terms_in_table b v)))

length-terms_from : (i : ℕ) (ns : List ℕ) → All (λ n. n ≤ 15) ns → length (terms_from i ns) ≤ 15 * length ns
length-terms_from i [] h = omega arith
length-terms_from i (n ∷ ns) h =
    let here = All-head (λ m. m ≤ 15) n ns h in
    let later = length-terms_from (i + 1) ns (All-tail (λ m. m ≤ 15) n ns h) in
    let of_term : ℕ → ℕ × ℕ = λ t. (i, t) in
    omega (
      arith,
      here,
      later,
      length-append (map (λ t. (i, t)) (range_with_len 1 n)) (terms_from (i + 1) ns),
      length-map (range_with_len 1 n) of_term,
      length-range_with_len 1 n,
    )

pub few_slots : (b : Block) → IsValid b → length (slots_of b) ≤ 300
unfolding slots_of
few_slots b v =
    let test : ℕ × ℕ → Bool = λ p. is_complemented b.rules p.0 p.1 in
    let terms = length-terms_from 1 (map term_count b.inputs)
    (All-map (λ n. n ≤ 15) term_count b.inputs (few_terms b v)) in
    let outs = length-terms_from 1 (map singleton_count b.outputs)
    (All-map (λ n. n ≤ 15) singleton_count b.outputs (few_singletons b v)) in
    let a = length-append (map term_slot (input_terms b))
    (map complement_slot (filter test (input_terms b)) ++ map out_slot (output_terms b)) in
    let c = length-append (map complement_slot (filter test (input_terms b))) (map out_slot (output_terms b)) in
    omega (
      arith,
      terms,
      outs,
      a,
      c,
      length-map (input_terms b) term_slot,
      length-map (filter test (input_terms b)) complement_slot,
      length-map (output_terms b) out_slot,
      length-filter test (input_terms b),
      count_by-le-length test (input_terms b),
      length-map b.inputs term_count,
      length-map b.outputs singleton_count,
      v.few_inputs,
      v.few_outputs,
    )

-- how many elements of the list a conjunction gives
abbrev entries_in : Conjunction → ℕ
entries_in c = length c.literals + length c.conclusions + 2

length-marked : (s e : ℕ) (cs : List Conjunction) → length (marked s e cs) ≡ sum_by entries_in cs
length-marked s e [] = refl
length-marked s e (c ∷ cs) =
    let whole = ap (λ (w : List ℕ). length w) (marked-cons s e c cs) in
    let front = length-append c.literals (s ∷ (c.conclusions ++ mark s e cs ∷ marked s e cs)) in
    let back = length-append c.conclusions (mark s e cs ∷ marked s e cs) in
    omega (arith, whole, front, back, length-marked s e cs, sum_by-cons entries_in c cs)

sum_by-flat_map : {X A : Type 0} (g : A → ℕ) (f : X → List A) (xs : List X)
    → sum_by g (flat_map f xs) ≡ sum_by (λ x. sum_by g (f x)) xs
sum_by-flat_map g f [] = refl
sum_by-flat_map g f (x ∷ xs) =
    omega (arith, sum_by-append g (f x) (flat_map f xs), sum_by-flat_map g f xs, sum_by-cons (λ y. sum_by g (f y)) x xs)

entries_in_rule : (ss : List Slot) (r : Rule) (cs : List (List Literal))
    → sum_by entries_in (map (conjunction_of ss r) cs) ≡ total_length cs + length cs * (length r.concl + 2)
entries_in_rule ss r [] = omega arith
entries_in_rule ss r (c ∷ cs) =
    let here = sum_by-cons entries_in (conjunction_of ss r c) (map (conjunction_of ss r) cs) in
    let total = sum_by-cons (λ (w : List Literal). length w) c cs in
    omega (
      arith,
      here,
      total,
      entries_in_rule ss r cs,
      length-map c (literal_number ss),
      length-map r.concl (conclusion_number ss),
    )

sum_by_alike : {X : Type 0} (f g : X → ℕ) (xs : List X) → ((x : X) → f x ≡ g x) → sum_by f xs ≡ sum_by g xs
sum_by_alike f g [] h = refl
sum_by_alike f g (x ∷ xs) h = omega (arith, h x, sum_by_alike f g xs h, sum_by-cons f x xs, sum_by-cons g x xs)

-- what is counted before spreading is the length of the list
pub length-list : (b : Block) → length (marked 0xFE 0xFF (conjunctions_of b)) ≡ entry_count b.rules
unfolding conjunctions_of
length-list b =
    length-marked 0xFE 0xFF (flat_map (rule_conjunctions (slots_of b)) b.rules)
    ∙ (sum_by-flat_map entries_in (rule_conjunctions (slots_of b)) b.rules
    ∙ sum_by_alike (λ r. sum_by entries_in (rule_conjunctions (slots_of b) r)) rule_entries b.rules
    (λ r. entries_in_rule (slots_of b) r (rule_spread r)))

map_alike : {X Y : Type 0} (f g : X → Y) (xs : List X) → All (λ x. f x ≡ g x) xs → map f xs ≡ map g xs
map_alike f g [] h = refl
map_alike f g (x ∷ xs) h =
    ap₂ (λ y ys. y ∷ ys) (All-head (λ z. f z ≡ g z) x xs h) (map_alike f g xs (All-tail (λ z. f z ≡ g z) x xs h))

flat_map_alike : {X A : Type 0} (f g : X → List A) (xs : List X) → All (λ x. f x ≡ g x) xs
    → flat_map f xs ≡ flat_map g xs
flat_map_alike f g [] h = refl
flat_map_alike f g (x ∷ xs) h =
    ap₂ (λ y ys. y ++ ys) (All-head (λ z. f z ≡ g z) x xs h) (flat_map_alike f g xs (All-tail (λ z. f z ≡ g z) x xs h))

All-flat_map : {X A : Type 0} (P : A → Type 0) (f : X → List A) (xs : List X) → All (λ x. All P (f x)) xs
    → All P (flat_map f xs)
All-flat_map P f [] h = All-nil P
All-flat_map P f (x ∷ xs) h =
    All-append P (f x) (flat_map f xs) (All-head (λ y. All P (f y)) x xs h)
    (All-flat_map P f xs (All-tail (λ y. All P (f y)) x xs h))

module _ (b : Block) (table : List ℕ) (numbering : IsNumbering (slots_of b) table) where
  rule_by_table : (r : Rule) → RuleHasSlots b r → table_conjunctions table r ≡ rule_conjunctions (slots_of b) r
  rule_by_table r h =
      let conclusions = map_alike (λ p. table_number table (out_slot p)) (conclusion_number (slots_of b)) r.concl
      (λ k d lt. numbering.numbers _ (h.conclusions k d lt).known (h.conclusions k d lt).found) in
      map_alike (table_conjunction table r) (conjunction_of (slots_of b) r) (rule_spread r) (λ k d lt.
      let literals = map_alike (table_literal table) (literal_number (slots_of b)) (get_or (rule_spread r) k d)
      (λ j e here. numbering.numbers _ (h.literals k d lt j e here).known (h.literals k d lt j e here).found) in
      ap₂ (λ (v w : List ℕ). let made : Conjunction = record { literals = v; conclusions = w } in made) literals
      conclusions)

  pub conjunctions_by_table : IsValid b → flat_map (table_conjunctions table) b.rules ≡ conjunctions_of b
  unfolding conjunctions_of
  conjunctions_by_table v =
      flat_map_alike (table_conjunctions table) (rule_conjunctions (slots_of b)) b.rules
      (λ k d lt. rule_by_table _ (rules_have_slots b v k d lt))

-- the numbers of a layout are those of its slots
pub numbers_in_range : (b : Block) → IsValid b → All (IsBelow (length (slots_of b))) (conjunctions_of b)
unfolding conjunctions_of
numbers_in_range b v =
    All-flat_map (IsBelow (length (slots_of b))) (rule_conjunctions (slots_of b)) b.rules
    (λ k d lt. in_rule _ (rules_have_slots b v k d lt))
  where
    in_rule : (r : Rule) → RuleHasSlots b r → All (IsBelow (length (slots_of b))) (rule_conjunctions (slots_of b) r)
    in_rule r h = All-map (IsBelow (length (slots_of b))) (conjunction_of (slots_of b) r) (rule_spread r)
        (λ k d lt. record {
          literals = All-map (λ n. n < length (slots_of b)) (literal_number (slots_of b)) (get_or (rule_spread r) k d)
              (λ j e here. (h.literals k d lt j e here).found);
          conclusions = All-map (λ n. n < length (slots_of b)) (conclusion_number (slots_of b)) r.concl
              (λ j e here. (h.conclusions j e here).found);
        })

pub rules_countable : (b : Block) → IsValid b → All IsCountable b.rules
rules_countable b v = λ k d lt. record {
  fits = rule_fits b _ v (v.rules k d lt);
  few = omega (arith, v.size, get_or-le-sum_by rule_size b.rules k d lt);
}

pub rules_spreadable : (b : Block) → IsValid b → All IsSpreadable b.rules
rules_spreadable b v = λ k d lt. record {
  fits = rule_fits b _ v (v.rules k d lt);
  conclusions = λ j p here. ((rules_have_slots b v k d lt).conclusions j p here).known;
}

width_le : (f : RuleInstruction) → element_width f ≤ 2
width_le Rev = omega arith
width_le Revw = omega arith

entries_fit : (rules : List Rule) (s : Size) → All IsCountable rules → IsSizeOfRules rules (Ok s)
    → s.entries ≤ 1073741824
entries_fit rules s h k = omega (arith, k.0, k.1, k.2, entry_count_le rules h)

-- the bytes of a valid block's list can be counted
pub bytes_fit : {b : Block} {rules : List Rule} {s : Size} (f : RuleInstruction) (w : ℕ) → IsValid b → rules ≡ b.rules
    → IsSizeOfRules rules (Ok s) → w ≡ element_width f → w * s.entries ≤ 2147483648
bytes_fit {b} {rules} {s} f w v all size h =
    let small = entries_fit rules s (subst (All IsCountable) (sym all) (rules_countable b v)) size in
    let width = width_le f in
    let few : w ≤ 2 = omega arith in
    let wide : w * s.entries ≤ 2 * s.entries = mul-le-mul_right s.entries few in
    omega (arith, wide, small)

-- the instruction that is found by what is read of the slots and the rules
pub instruction_found : (b : Block) {f : RuleInstruction} {n : ℕ} {ss : List Slot} {rules : List Rule} → f ≡ instruction_by n rules
    → n ≡ length ss → ss ≡ slots_of b → rules ≡ b.rules → f ≡ instruction_of b
unfolding instruction_of
instruction_found b found size same all =
    found ∙ ap₂ (λ (m : ℕ) (w : List Rule). instruction_by m w) (size ∙ ap (λ (w : List Slot). length w) same) all

-- the size of the list that is found by that of the rules
pub record IsListSize (b : Block) (n : ℕ) : Type 0 where
  pub few_conjunctions : conjunction_count b.rules ≤ 512
  pub bytes : n ≡ list_size b

pub IsListSize-found : (b : Block) {f : RuleInstruction} {w : ℕ} {rules : List Rule} {s : Size} → rules ≡ b.rules
    → IsSizeOfRules rules (Ok s) → f ≡ instruction_of b → w ≡ element_width f → IsListSize b (w * s.entries)
unfolding list_size
IsListSize-found b {f} {w} {rules} {s} all size instruction width =
    let here = subst (λ (r : List Rule). IsSizeOfRules r (Ok s)) all size in
    record {
      few_conjunctions = here.0;
      bytes = ap₂ (λ (v n : ℕ). v * n) (width ∙ ap element_width instruction) (here.2 ∙ sym (length-list b));
    }

pub IsTooLong-found : {b : Block} {n : ℕ} → IsListSize b n → 9984 < n → IsTooLong b n
IsTooLong-found size over = record { few_conjunctions = size.few_conjunctions; bytes = size.bytes; over = over }

pub IsWithinLimits-found : {b : Block} {n : ℕ} → IsListSize b n → n ≤ 9984 → IsWithinLimits b
IsWithinLimits-found size short =
    record { few_conjunctions = size.few_conjunctions; short_list = rw (← size.bytes) short }

pub flat_made : (b : Block) (f : Flat) → f.slots ≡ slots_of b → f.conjunctions ≡ conjunctions_of b
    → f.weights ≡ weights_of b → f.instruction ≡ instruction_of b → f ≡ flat_of b
unfolding flat_of
flat_made b f slots conjunctions weights instruction =
    (joined f.slots f.conjunctions f.weights f.instruction slots conjunctions weights instruction)
  where
    joined : (ss : List Slot) (cs : List Conjunction) (ws : List ℕ) (g : RuleInstruction) → ss ≡ slots_of b
        → cs ≡ conjunctions_of b → ws ≡ weights_of b → g ≡ instruction_of b →
        ◌≡◌ {A = Flat} (record { slots = ss; conjunctions = cs; weights = ws; instruction = g })
        (record { slots = slots_of b; conjunctions = conjunctions_of b; weights = weights_of b; instruction = instruction_of b })
    joined ss cs ws g p q r s = cc

pub instruction_by_rev : (n : ℕ) (rules : List Rule) → instruction_by n rules ≡ Rev → n ≤ 254
instruction_by_rev n rules e = by_test (nat_le n 254) refl
  where
    by_test : (t : Bool) → nat_le n 254 ≡ t → n ≤ 254
    by_test true h = grind (arith, nat_tests)
    by_test false h = let never : Revw ≡ Rev = rw h at e in cc

pub weights_made : (b : Block) (rules : List Rule) → rules ≡ b.rules → flat_map rule_weights rules ≡ weights_of b
unfolding weights_of
weights_made b rules all = ap (λ (w : List Rule). flat_map rule_weights w) all
