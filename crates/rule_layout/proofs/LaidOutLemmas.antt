-- The layout of a valid block has what its lists need.
use Rattle.rule_layout.proofs.Words.{[], ◌*◌, ◌++◌, ◌+◌, ◌-◌, ◌<◌, ◌||◌, ◌∙◌, ◌∷◌, ◌≡◌, ◌≤◌, add-one, All, All-append}
use Rattle.rule_layout.proofs.Words.{All-cons, All-head, All-map, All-nil, All-tail, ap, arith, Block, Bool}
use Rattle.rule_layout.proofs.Words.{Complement, complement_slot, conjunction_of, conjunctions_of, false, false≢true}
use Rattle.rule_layout.proofs.Words.{filter, Flat, flat_map, flat_of, instruction_by, instruction_of, get_or, input_terms}
use Rattle.rule_layout.proofs.Words.{is_complemented, is_same_slot, IsValid, length, length-append, length-map, List}
use Rattle.rule_layout.proofs.Words.{list_any, Literal, map, map-append, nat_le, nat_tests, None, number_in, Option}
use Rattle.rule_layout.proofs.Words.{Out, out_slot, output_terms, place_of, range_with_len, refl, Rev, Revw, Rule}
use Rattle.rule_layout.proofs.Words.{rule_conjunctions, rule_spread, rule_weights, singleton_count, Slot, slots_of}
use Rattle.rule_layout.proofs.Words.{Some, subst, suc, sym, Term, term_count, term_slot, terms_from, true}
use Rattle.rule_layout.proofs.Words.{weight_byte_of, weights_of, zero, ℕ}
use Rattle.std.proofs.Common.{◌/◌, ℤ, pos, negsuc, ◌≤ℤ◌}
use Rattle.std.specs.{Prelude.IfSome, Prelude.int_lt, Prelude.unsigned_abs}
use Rattle.fuzzy_meaning.specs.{Blocks.IsWeight}
use Rattle.rule_layout.specs.{Layouts.is_below_one, Layouts.IsLaidOut, Layouts.LayoutLaw}
use Rattle.std.proofs.lemmas.Int.{ints}
use Rattle.fz_num.specs.declared.dec.Dec.{Dec}
use Rattle.rule_layout.specs.Layouts.{FlatHasParts}
use Rattle.rule_layout.proofs.{SpreadLemmas.some_conjunction, NumberLemmas.slot_from_same}
use Rattle.rule_layout.proofs.BlockLemmas.{rule_fits, few_terms, few_singletons}
use Rattle.rule_layout.proofs.LayoutLemmas.{few_slots, numbers_in_range, instruction_by_rev}

-- the slots' places in the tables rise, from m on and below n
abbrev Rise : ℕ → ℕ → List Slot → Type 0
Rise m n [] = m ≤ n
Rise m n (s ∷ ss) = (m ≤ place_of s) × (place_of s < n) × Rise (place_of s + 1) n ss

Rise-from : (m p n : ℕ) (ss : List Slot) → m ≤ p → Rise p n ss → Rise m n ss
Rise-from m p n [] le h = omega (arith, h)
Rise-from m p n (s ∷ ss) le h = (omega (arith, h.0), h.1, h.2)

Rise-bounds : (m n : ℕ) (ss : List Slot) → Rise m n ss → m ≤ n
Rise-bounds m n [] h = h
Rise-bounds m n (s ∷ ss) h = omega (arith, h.0, h.1)

Rise-to : (m n p : ℕ) (ss : List Slot) → n ≤ p → Rise m n ss → Rise m p ss
Rise-to m n p [] le h = omega (arith, h)
Rise-to m n p (s ∷ ss) le h = (h.0, omega (arith, h.1), Rise-to (place_of s + 1) n p ss le h.2)

Rise-append : (m n p : ℕ) (ss ts : List Slot) → Rise m n ss → Rise n p ts → Rise m p (ss ++ ts)
Rise-append m n p [] ts h k = Rise-from m n p ts h k
Rise-append m n p (s ∷ ss) ts h k =
    (h.0, omega (arith, h.1, Rise-bounds n p ts k), Rise-append (place_of s + 1) n p ss ts h.2 k)

Rise-filter : (m n : ℕ) (kind : ℕ × ℕ → Slot) (test : ℕ × ℕ → Bool) (ps : List (ℕ × ℕ)) → Rise m n (map kind ps)
    → Rise m n (map kind (filter test ps))
Rise-filter m n kind test [] h = h
Rise-filter m n kind test (p ∷ ps) h = by_test (test p) refl (Rise-filter (place_of (kind p) + 1) n kind test ps h.2)
  where
    by_test : (t : Bool) → test p ≡ t → Rise (place_of (kind p) + 1) n (map kind (filter test ps))
        → Rise m n (map kind (filter test (p ∷ ps)))
    by_test true e later = rw e (h.0, h.1, later)
    by_test false e later =
        rw e (Rise-from m (place_of (kind p) + 1) n (map kind (filter test ps)) (omega (arith, h.0)) later)

-- a kind of slots whose rows of 15 begin at r
module _ (kind : ℕ × ℕ → Slot) (r : ℕ)
    (rows : (i t : ℕ) → 1 ≤ i → 1 ≤ t → place_of (kind (i, t)) ≡ (r + (i - 1)) * 15 + (t - 1)) where
  Rise-range : (i s n : ℕ) → 1 ≤ i → 1 ≤ s → s + n ≤ 16
      → Rise ((r + (i - 1)) * 15 + (s - 1)) ((r + i) * 15) (map kind (map (λ t. (i, t)) (range_with_len s n)))
  Rise-range i s zero from first to = omega arith
  Rise-range i s (suc n) from first to =
      let here = rows i s from first in
      let later = Rise-range i (s + 1) n from (omega arith) (omega arith) in (
        omega (arith, here),
        omega (arith, here),
        Rise-from (place_of (kind (i, s)) + 1) ((r + (i - 1)) * 15 + ((s + 1) - 1)) ((r + i) * 15)
            (map kind (map (λ t. (i, t)) (range_with_len (s + 1) n))) (omega (arith, here)) later,
      )

  Rise-terms_from : (i : ℕ) (ns : List ℕ) → 1 ≤ i → All (λ n. n ≤ 15) ns
      → Rise ((r + (i - 1)) * 15) ((r + (i - 1) + length ns) * 15) (map kind (terms_from i ns))
  Rise-terms_from i [] from h = omega arith
  Rise-terms_from i (n ∷ ns) from h =
      let few = All-head (λ m. m ≤ 15) n ns h in
      let here = Rise-from ((r + (i - 1)) * 15) ((r + (i - 1)) * 15 + (1 - 1)) ((r + i) * 15)
      (map kind (map (λ t. (i, t)) (range_with_len 1 n))) (omega arith)
      (Rise-range i 1 n from (omega arith) (omega arith)) in
      let tail = Rise-terms_from (i + 1) ns (omega arith) (All-tail (λ m. m ≤ 15) n ns h) in
      let later = Rise-to ((r + i) * 15) ((r + i + length ns) * 15) ((r + (i - 1) + suc (length ns)) * 15)
      (map kind (terms_from (i + 1) ns)) (omega arith)
      (subst (λ (k : ℕ). Rise ((r + k) * 15) ((r + k + length ns) * 15) (map kind (terms_from (i + 1) ns)))
      (let same : (i + 1) - 1 ≡ i = omega arith in same) tail) in
      rw (map-append kind (map (λ t. (i, t)) (range_with_len 1 n)) (terms_from (i + 1) ns))
      (Rise-append ((r + (i - 1)) * 15) ((r + i) * 15) ((r + (i - 1) + suc (length ns)) * 15)
      (map kind (map (λ t. (i, t)) (range_with_len 1 n))) (map kind (terms_from (i + 1) ns)) here later)

slots_rise : (b : Block) → IsValid b → Rise 0 300 (slots_of b)
unfolding slots_of
slots_rise b v =
    let counts = map term_count b.inputs in
    let outs = map singleton_count b.outputs in
    let few = All-map (λ n. n ≤ 15) term_count b.inputs (few_terms b v) in
    let few_out = All-map (λ n. n ≤ 15) singleton_count b.outputs (few_singletons b v) in
    let size = length-map b.inputs term_count in
    let out_size = length-map b.outputs singleton_count in
    let terms = Rise-to (0 * 15) ((0 + (1 - 1) + length counts) * 15) 120 (map term_slot (input_terms b))
    (omega (arith, size, v.few_inputs))
    (Rise-terms_from term_slot 0 (λ i t p q. omega arith) 1 counts (omega arith) few) in
    let complements = Rise-to (8 * 15) ((8 + (1 - 1) + length counts) * 15) 240 (map complement_slot (input_terms b))
    (omega (arith, size, v.few_inputs))
    (Rise-terms_from complement_slot 8 (λ i t p q. omega arith) 1 counts (omega arith) few) in
    let kept = Rise-filter 120 240 complement_slot (λ p. is_complemented b.rules p.0 p.1) (input_terms b) complements in
    let last = Rise-to (16 * 15) ((16 + (1 - 1) + length outs) * 15) 300 (map out_slot (output_terms b))
    (omega (arith, out_size, v.few_outputs))
    (Rise-terms_from out_slot 16 (λ i t p q. omega arith) 1 outs (omega arith) few_out) in
    Rise-append 0 120 300 (map term_slot (input_terms b)) _ terms
    (Rise-append 120 240 300 (map complement_slot (filter (λ p. is_complemented b.rules p.0 p.1) (input_terms b)))
    (map out_slot (output_terms b)) kept last)

Rise-at : (m n k : ℕ) (ss : List Slot) (d : Slot) → Rise m n ss → k < length ss → m ≤ place_of (get_or ss k d)
Rise-at m n k [] d h lt = absurd (omega arith)
Rise-at m n zero (s ∷ ss) d h lt = h.0
Rise-at m n (suc k) (s ∷ ss) d h lt = omega (arith, h.0, Rise-at (place_of s + 1) n k ss d h.2 (omega arith))

same_slot : (s : Slot) → is_same_slot s s ≡ true
same_slot (Term i t) = grind (arith, nat_tests)
same_slot (Complement i t) = grind (arith, nat_tests)
same_slot (Out i t) = grind (arith, nat_tests)

-- where the places rise, the number of a slot is its place in the list
number_in-get_or : (m n k : ℕ) (ss : List Slot) (d : Slot) → Rise m n ss → k < length ss
    → number_in ss (get_or ss k d) ≡ k
number_in-get_or m n k [] d h lt = absurd (omega arith)
number_in-get_or m n zero (s ∷ ss) d h lt = rw (same_slot s) refl
number_in-get_or m n (suc k) (s ∷ ss) d h lt =
    let above = Rise-at (place_of s + 1) n k ss d h.2 (omega arith) in
    let later = number_in-get_or (place_of s + 1) n k ss d h.2 (omega arith) in
    by_test (is_same_slot (get_or ss k d) s) refl above later
  where
    by_test : (t : Bool) → is_same_slot (get_or ss k d) s ≡ t → place_of s + 1 ≤ place_of (get_or ss k d)
        → number_in ss (get_or ss k d) ≡ k → number_in (s ∷ ss) (get_or ss k d) ≡ suc k
    by_test true e above later = absurd (omega (arith, above, ap place_of (slot_from_same (get_or ss k d) s e)))
    by_test false e above later = rw (e, later) (add-one k)

flat_maps_alike : {X A B : Type 0} (f : X → List A) (g : X → List B) (xs : List X)
    → ((x : X) → length (f x) ≡ length (g x)) → length (flat_map f xs) ≡ length (flat_map g xs)
flat_maps_alike f g [] h = refl
flat_maps_alike f g (x ∷ xs) h =
    omega (
      arith,
      h x,
      flat_maps_alike f g xs h,
      length-append (f x) (flat_map f xs),
      length-append (g x) (flat_map g xs),
    )

flat_map_some : {X A : Type 0} (f : X → List A) (xs : List X) → 1 ≤ length xs → All (λ x. 1 ≤ length (f x)) xs
    → 1 ≤ length (flat_map f xs)
flat_map_some f [] lt h = absurd (omega arith)
flat_map_some f (x ∷ xs) lt h =
    omega (arith, All-head (λ y. 1 ≤ length (f y)) x xs h, length-append (f x) (flat_map f xs))

full_weight : (z : ℤ) → int_lt z (pos 10000) ≡ false → z ≤ℤ pos 10000 → (512 * unsigned_abs z + 10000) / 20000 - 1 ≡ 255
full_weight (pos n) e le =
    let from : 10000 ≤ n = grind (arith, nat_tests) in
    let to : n ≤ 10000 = omega (arith, ints) in
    omega arith
full_weight (negsuc n) e le = absurd (false≢true (sym e))

unscaled_weight : (w : Option Dec) → is_below_one w ≡ false → IfSome w IsWeight → weight_byte_of w ≡ 255
unscaled_weight None e h = refl
unscaled_weight (Some w) e h = full_weight w.0 e h.high

small_weight : (z : ℤ) → pos 0 ≤ℤ z → z ≤ℤ pos 10000 → (512 * unsigned_abs z + 10000) / 20000 - 1 ≤ 255
small_weight (pos n) from to =
    let most : n ≤ 10000 = omega (arith, ints) in
    omega arith
small_weight (negsuc n) from to = absurd (omega (arith, ints))

weight_byte_le : (w : Option Dec) → IfSome w IsWeight → weight_byte_of w ≤ 255
weight_byte_le None h = omega arith
weight_byte_le (Some w) h = small_weight w.0 h.low h.high

All-alike_le : (w : ℕ) (xs : List (List Literal)) → w ≤ 255 → All (λ k. k ≤ 255) (map (λ _. w) xs)
All-alike_le w [] le = All-nil (λ k. k ≤ 255)
All-alike_le w (x ∷ xs) le = All-cons (λ k. k ≤ 255) w (map (λ _. w) xs) le (All-alike_le w xs le)

weights_le : (rules : List Rule) → All (λ r. IfSome r.weight IsWeight) rules
    → All (λ w. w ≤ 255) (flat_map rule_weights rules)
weights_le [] h = All-nil (λ w. w ≤ 255)
weights_le (r ∷ rs) h =
    All-append (λ w. w ≤ 255) (rule_weights r) (flat_map rule_weights rs)
    (All-alike_le (weight_byte_of r.weight) (rule_spread r)
    (weight_byte_le r.weight (All-head (λ q. IfSome q.weight IsWeight) r rs h)))
    (weights_le rs (All-tail (λ q. IfSome q.weight IsWeight) r rs h))

All-alike : (w n : ℕ) (xs : List (List Literal)) → w ≡ n → All (λ k. k ≡ n) (map (λ _. w) xs)
All-alike w n [] e = All-nil (λ k. k ≡ n)
All-alike w n (x ∷ xs) e = All-cons (λ k. k ≡ n) w (map (λ _. w) xs) e (All-alike w n xs e)

or_false_left : (a c : Bool) → (a || c) ≡ false → a ≡ false
or_false_left true c e = absurd (false≢true (sym e))
or_false_left false c e = refl

or_false_right : (a c : Bool) → (a || c) ≡ false → c ≡ false
or_false_right true c e = absurd (false≢true (sym e))
or_false_right false c e = e

unscaled_rules : (rules : List Rule) → All (λ r. IfSome r.weight IsWeight) rules
    → list_any (λ r. is_below_one r.weight) rules ≡ false → All (λ w. w ≡ 255) (flat_map rule_weights rules)
unscaled_rules [] h e = All-nil (λ w. w ≡ 255)
unscaled_rules (r ∷ rs) h e =
    All-append (λ w. w ≡ 255) (rule_weights r) (flat_map rule_weights rs)
    (All-alike (weight_byte_of r.weight) 255 (rule_spread r)
    (unscaled_weight r.weight (or_false_left _ _ e) (All-head (λ q. IfSome q.weight IsWeight) r rs h)))
    (unscaled_rules rs (All-tail (λ q. IfSome q.weight IsWeight) r rs h) (or_false_right _ _ e))

instruction_by_unscaled : (n : ℕ) (rules : List Rule) → instruction_by n rules ≡ Rev
    → list_any (λ r. is_below_one r.weight) rules ≡ false
instruction_by_unscaled n rules e = by_tests (nat_le n 254) (list_any (λ r. is_below_one r.weight) rules) refl refl
  where
    by_tests : (s t : Bool) → nat_le n 254 ≡ s → list_any (λ r. is_below_one r.weight) rules ≡ t
        → list_any (λ r. is_below_one r.weight) rules ≡ false
    by_tests s false h k = k
    by_tests true true h k = let never : Revw ≡ Rev = rw (h, k) at e in cc
    by_tests false true h k = let never : Revw ≡ Rev = rw h at e in cc

pub laid_out_made : (b : Block) (f : Flat) → IsValid b → f ≡ flat_of b → IsLaidOut f
unfolding flat_of instruction_of weights_of conjunctions_of
laid_out_made b f v same =
    let weighed = flat_maps_alike rule_weights (rule_conjunctions (slots_of b)) b.rules
    (λ r. length-map (rule_spread r) (λ (_ : List Literal). weight_byte_of r.weight)
    ∙ sym (length-map (rule_spread r) (conjunction_of (slots_of b) r))) in
    let some = flat_map_some (rule_conjunctions (slots_of b)) b.rules v.some_rule
    (λ k d lt. omega (
      arith,
      some_conjunction false ((get_or b.rules k d).cond)
          (rule_fits b (get_or b.rules k d) v (v.rules k d lt)),
      length-map (rule_spread (get_or b.rules k d)) (conjunction_of (slots_of b) (get_or b.rules k d)),
    )) in
    let made : IsLaidOut (flat_of b) = record {
      few_slots = few_slots b v;
      few_for_rev = λ e. instruction_by_rev (length (slots_of b)) b.rules e;
      apart = λ k s lt. number_in-get_or 0 300 k (slots_of b) s (slots_rise b v) lt;
      in_range = numbers_in_range b v;
      some_conjunction = some;
      weighed = weighed;
      weight_bytes = weights_le b.rules (λ k d lt. (v.rules k d lt).weight);
      unscaled = λ e. unscaled_rules b.rules (λ k d lt. (v.rules k d lt).weight)
          (instruction_by_unscaled (length (slots_of b)) b.rules e);
    } in
    subst IsLaidOut (sym same) made

pub slots_apart : (b : Block) → IsValid b → (k : ℕ) (s : Slot) → k < length (slots_of b)
    → number_in (slots_of b) (get_or (slots_of b) k s) ≡ k
slots_apart b v k s lt = number_in-get_or 0 300 k (slots_of b) s (slots_rise b v) lt

pub layout_law_lem : LayoutLaw
layout_law_lem b v = laid_out_made b (flat_of b) v refl

-- the parts of a layout are the block's
pub flat_has_parts : FlatHasParts
unfolding flat_of
flat_has_parts flat b e = record {
  slots = ap (λ (f : Flat). f.slots) e;
  conjunctions = ap (λ (f : Flat). f.conjunctions) e;
  weights = ap (λ (f : Flat). f.weights) e;
  instruction = ap (λ (f : Flat). f.instruction) e;
}
