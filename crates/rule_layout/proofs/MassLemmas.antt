-- The rule list computes the masses of the output terms.
use Rattle.rule_layout.proofs.Words.{[], ◌&&◌, ◌++◌, ◌+◌, ◌-◌, ◌<◌, ◌==◌, ◌||◌, ◌∙◌, ◌∷◌, ◌≡◌, ◌≤◌, add-one, All}
use Rattle.rule_layout.proofs.Words.{All-head, All-tail, ap, ap₂, arith, Block, Bool, conclusion_number, Conjunction}
use Rattle.rule_layout.proofs.Words.{conjunction_of, conjunctions_of, false, flat_map, flat_of, get_or, get_or-map}
use Rattle.rule_layout.proofs.Words.{greatest_conjunction, HasSingleton, is_same_slot, IsValid, least_literal, length}
use Rattle.rule_layout.proofs.Words.{length-map, List, list_any, Literal, literal_number, literal_slot, map, max, min}
use Rattle.rule_layout.proofs.Words.{mul-le-mul_right, nat_le, nat_tests, None, number_in, Option, Out, out_slot}
use Rattle.rule_layout.proofs.Words.{refl, Rule, rule_conjunctions, rule_spread, rule_weights, slice_get, Slot}
use Rattle.rule_layout.proofs.Words.{slots_of, Some, sym, Term, true, weight_byte_of, weights_of, ℕ}
use Rattle.rule_layout.specs.Masses.{slot_bytes, scaled, left_in, MassLaw}
use Rattle.std.specs.{Prelude.if◌then◌else◌, Prelude.slice_index, Prelude.nat_lt}
use Rattle.fuzzy_meaning.specs.{Blocks.input_at}
use Rattle.rule_layout.specs.{Truths.literal_value, Truths.slot_value, Truths.slot_values}
use Rattle.std.specs.Option.{option_map_or}
use Rattle.fuzzy_meaning.specs.{Conditions.level, Meaning.concludes}
use Rattle.point_slope.specs.Tables.{row_of, grade_of, grade_under, side}
use Rattle.point_slope.specs.Bytes.{literal_grade, byte_strength, byte_mass_among}
use Rattle.rule_layout.specs.Truths.{least_value, greatest_value, RuleTruthLaw}
use Rattle.rule_layout.proofs.{NumberLemmas.slot_from_same, TruthLemmas.spreading_law_lem}
use Rattle.rule_layout.proofs.MemberLemmas.{HasSlot, LiteralHasSlot, RuleHasSlots, rules_have_slots, number_in-lt}
use Rattle.rule_layout.proofs.MemberLemmas.{out_in_slots}

-- the slot of a number is that slot
slot_at_number : (ss : List Slot) (s d : Slot) → number_in ss s < length ss → get_or ss (number_in ss s) d ≡ s
slot_at_number [] s d lt = absurd (omega arith)
slot_at_number (x ∷ xs) s d lt = by_test (is_same_slot s x) refl (slot_at_number xs s d)
  where
    by_test : (t : Bool) → is_same_slot s x ≡ t → (number_in xs s < length xs → get_or xs (number_in xs s) d ≡ s)
        → get_or (x ∷ xs) (number_in (x ∷ xs) s) d ≡ s
    by_test true e ind = rw e (sym (slot_from_same s x e))
    by_test false e ind =
        let later : number_in xs s < length xs = omega (arith, rw e at lt) in
        rw (e, add-one) (ind later)

value_at_number : (n : ℕ) (v : ℕ → ℕ → ℕ) (ss : List Slot) (s : Slot) → number_in ss s < length ss
    → get_or (slot_values n v ss) (number_in ss s) 0 ≡ slot_value n v s
value_at_number n v ss s lt = get_or-map (slot_value n v) ss (number_in ss s) (Term 0 0) 0 lt
    ∙ ap (slot_value n v) (slot_at_number ss s (Term 0 0) lt)

slot_value-literal : (n : ℕ) (v : ℕ → ℕ → ℕ) (l : Literal) → slot_value n v (literal_slot l) ≡ literal_value n v l
slot_value-literal n v l = by_sort l.complement refl
  where
    by_sort : (t : Bool) → l.complement ≡ t → slot_value n v (literal_slot l) ≡ literal_value n v l
    by_sort true e = rw e refl
    by_sort false e = rw e refl

module _ (b : Block) (n : ℕ) (v : ℕ → ℕ → ℕ) where
  abbrev values : List ℕ
  values = slot_values n v (slots_of b)

  least_value-literals : (ls : List Literal) → All (LiteralHasSlot b) ls
      → least_value n values (map (literal_number (slots_of b)) ls) ≡ least_literal n v ls
  least_value-literals [] h = refl
  least_value-literals (l ∷ ls) h =
      let here = value_at_number n v (slots_of b) (literal_slot l) (All-head (LiteralHasSlot b) l ls h).found
      ∙ slot_value-literal n v l in
      ap₂ (λ (a c : ℕ). min a c) here (least_value-literals ls (All-tail (LiteralHasSlot b) l ls h))

  greatest_value-spread : (r : Rule) (cs : List (List Literal)) → All (All (LiteralHasSlot b)) cs
      → greatest_value n values (map (conjunction_of (slots_of b) r) cs) ≡ greatest_conjunction n v cs
  greatest_value-spread r [] h = refl
  greatest_value-spread r (c ∷ cs) h =
      ap₂ (λ (a d : ℕ). max a d) (least_value-literals c (All-head (All (LiteralHasSlot b)) c cs h))
      (greatest_value-spread r cs (All-tail (All (LiteralHasSlot b)) c cs h))

  rule_truths : 1 ≤ n → ((i t : ℕ) → v i t ≤ n) → (rules : List Rule) → All (RuleHasSlots b) rules
      → map (λ r. greatest_value n values (rule_conjunctions (slots_of b) r)) rules ≡ map (λ r. level n v r.cond) rules
  rule_truths from within [] h = refl
  rule_truths from within (r ∷ rs) h =
      let here = All-head (RuleHasSlots b) r rs h in
      ap₂ (λ (a : ℕ) (d : List ℕ). a ∷ d)
      (greatest_value-spread r (rule_spread r) here.literals ∙ spreading_law_lem n v r.cond from within)
      (rule_truths from within rs (All-tail (RuleHasSlots b) r rs h))

pub rule_truth_law_lem : RuleTruthLaw
unfolding flat_of conjunctions_of
rule_truth_law_lem b n v valid from within =
    record { conjunctions = refl; truths = rule_truths b n v from within b.rules (rules_have_slots b valid) }

scaled_max : (w a c : ℕ) → scaled w (max a c) ≡ max (scaled w a) (scaled w c)
scaled_max w a c = by_order (nat_le a c) refl
  where
    by_order : (t : Bool) → nat_le a c ≡ t → scaled w (max a c) ≡ max (scaled w a) (scaled w c)
    by_order true e =
        let le : a ≤ c = grind (arith, nat_tests) in
        let top : max a c ≡ c = omega arith in
        let wide = mul-le-mul_right (w + 1) le in
        rw top (omega (arith, wide))
    by_order false e =
        let le : c ≤ a = grind (arith, nat_tests) in
        let top : max a c ≡ a = omega arith in
        let wide = mul-le-mul_right (w + 1) le in
        rw top (omega (arith, wide))

module _ (b : Block) (g : ℕ → ℕ → ℕ) where
  abbrev bytes : List ℕ
  bytes = slot_bytes g (slots_of b)

  -- a rule's conjunctions raise a slot to the rule's strength, if the rule concludes it
  left_in-rule : (w n : ℕ) (r : Rule) (raised : Bool) (cs : List (List Literal))
      → list_any (λ e. e == n) (map (conclusion_number (slots_of b)) r.concl) ≡ raised
      → All (All (LiteralHasSlot b)) cs →
      left_in bytes (map (λ _. w) cs) (map (conjunction_of (slots_of b) r) cs) n
      ≡ (if raised then scaled w (greatest_conjunction 255 g cs) else 0)
  left_in-rule w n r true [] e h = omega arith
  left_in-rule w n r false [] e h = refl
  left_in-rule w n r true (c ∷ cs) e h =
      let here = least_value-literals b 255 g c (All-head (All (LiteralHasSlot b)) c cs h) in
      let later = left_in-rule w n r true cs e (All-tail (All (LiteralHasSlot b)) c cs h) in
      rw (e, here, later) (sym (scaled_max w (least_literal 255 g c) (greatest_conjunction 255 g cs)))
  left_in-rule w n r false (c ∷ cs) e h =
      let later = left_in-rule w n r false cs e (All-tail (All (LiteralHasSlot b)) c cs h) in
      rw (e, later) refl

left_in-append : (bytes us ws : List ℕ) (cs ds : List Conjunction) (n : ℕ) → length us ≡ length cs
    → left_in bytes (us ++ ws) (cs ++ ds) n ≡ max (left_in bytes us cs n) (left_in bytes ws ds n)
left_in-append bytes [] ws [] ds n e = omega arith
left_in-append bytes [] ws (c ∷ cs) ds n e = absurd (omega arith)
left_in-append bytes (u ∷ us) ws [] ds n e = absurd (omega arith)
left_in-append bytes (u ∷ us) ws (c ∷ cs) ds n e = omega (arith, left_in-append bytes us ws cs ds n (omega arith))

grade_le : (row : List ℕ) (v : ℕ) → grade_of row v ≤ 255
grade_le row v = under (slice_index row 0) (slice_index row 1) (slice_index row 2) (slice_index row 3)
  where
    under : (p q r s : ℕ) → grade_under p q r s v ≤ 255
    under p q r s = by_test (nat_lt v p || nat_lt q v) (min (side (v - p) r) (side (q - v) s))
      where
        by_test : (t : Bool) (m : ℕ) → (if t then 0 else min 255 m) ≤ 255
        by_test true m = omega arith
        by_test false m = omega arith

map_or_le : {X : Type 0} (f : X → ℕ) (o : Option X) → ((x : X) → f x ≤ 255) → option_map_or f o 0 ≤ 255
map_or_le f None h = omega arith
map_or_le f (Some x) h = h x

literal_grade_le : (b : Block) (bytes : List ℕ) (i t : ℕ) → literal_grade b bytes i t ≤ 255
literal_grade_le b bytes i t =
    map_or_le _ (input_at b i)
    (λ x. map_or_le _ (slice_get x.terms (t - 1)) (λ term. grade_le (row_of x term) (slice_index bytes (i - 1))))

same_test : (a c : Bool) → (a ≡ true → c ≡ true) → (c ≡ true → a ≡ true) → a ≡ c
same_test true true f g = refl
same_test true false f g = sym (f refl)
same_test false true f g = g refl
same_test false false f g = refl

module _ (b : Block) (v : IsValid b) (o t : ℕ) (given : HasSingleton b o t) where
  abbrev place : ℕ
  place = number_in (slots_of b) (Out o t)

  place_found : number_in (slots_of b) (Out o t) < length (slots_of b)
  place_found = number_in-lt (slots_of b) (Out o t) (out_in_slots b v o t given)

  -- two conclusions have one number only where they are the same
  same_number : (p : ℕ × ℕ) → HasSlot b (out_slot p)
      → (conclusion_number (slots_of b) p == place) ≡ (p.0 == o && p.1 == t)
  same_number p h = same_test _ _
      (λ e.
      let numbers : conclusion_number (slots_of b) p ≡ place = grind (arith, nat_tests) in
      let slots : Out p.0 p.1 ≡ Out o t = sym (slot_at_number (slots_of b) (out_slot p) (Term 0 0) h.found)
      ∙ (ap (λ (n : ℕ). get_or (slots_of b) n (Term 0 0)) numbers
      ∙ slot_at_number (slots_of b) (Out o t) (Term 0 0) place_found) in
      let first : p.0 ≡ o = cc in
      let second : p.1 ≡ t = cc in
      grind (arith, nat_tests))
      (λ e.
      let first : p.0 ≡ o = grind (arith, nat_tests) in
      let second : p.1 ≡ t = grind (arith, nat_tests) in
      let numbers : conclusion_number (slots_of b) p ≡ place =
      ap₂ (λ (j u : ℕ). number_in (slots_of b) (Out j u)) first second in
      grind (arith, nat_tests))

  raised_as_concluded : (ps : List (ℕ × ℕ)) → All (λ p. HasSlot b (out_slot p)) ps →
      list_any (λ e. e == place) (map (conclusion_number (slots_of b)) ps) ≡ list_any (λ c. (c.0 == o) && (c.1 == t)) ps
  raised_as_concluded [] h = refl
  raised_as_concluded (p ∷ ps) h =
      ap₂ (λ (a c : Bool). a || c) (same_number p (All-head (λ q. HasSlot b (out_slot q)) p ps h))
      (raised_as_concluded ps (All-tail (λ q. HasSlot b (out_slot q)) p ps h))

  rules_left : (bytes : List ℕ) (rules : List Rule) → All (RuleHasSlots b) rules →
      left_in (slot_bytes (literal_grade b bytes) (slots_of b)) (flat_map rule_weights rules)
      (flat_map (rule_conjunctions (slots_of b)) rules) place ≡ byte_mass_among b bytes o t rules
  rules_left bytes [] h = refl
  rules_left bytes (r ∷ rs) h =
      let g = literal_grade b bytes in
      let here = All-head (RuleHasSlots b) r rs h in
      let whole = left_in-append (slot_bytes g (slots_of b)) (rule_weights r) (flat_map rule_weights rs)
      (rule_conjunctions (slots_of b) r) (flat_map (rule_conjunctions (slots_of b)) rs) place
      (length-map (rule_spread r) (λ (_ : List Literal). weight_byte_of r.weight)
      ∙ sym (length-map (rule_spread r) (conjunction_of (slots_of b) r))) in
      let rule = left_in-rule b g (weight_byte_of r.weight) place r (concludes r o t) (rule_spread r)
      (raised_as_concluded r.concl here.conclusions) here.literals in
      let truth = spreading_law_lem 255 g r.cond (omega arith) (literal_grade_le b bytes) in
      let later = rules_left bytes rs (All-tail (RuleHasSlots b) r rs h) in
      whole ∙ (ap₂ (λ (m n : ℕ). max m n)
      (rule ∙ ap (λ (m : ℕ). if concludes r o t then scaled (weight_byte_of r.weight) m else 0) truth) later
      ∙ by_test (concludes r o t) (byte_strength b bytes r) (byte_mass_among b bytes o t rs))
    where
      by_test : (c : Bool) (m n : ℕ) → max (if c then m else 0) n ≡ (if c then max m n else n)
      by_test true m n = refl
      by_test false m n = omega arith

pub mass_law_lem : MassLaw
unfolding flat_of weights_of conjunctions_of
mass_law_lem b bytes o t v given = rules_left b v o t given bytes b.rules (rules_have_slots b v)
