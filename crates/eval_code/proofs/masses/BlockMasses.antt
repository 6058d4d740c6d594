-- The masses of a block's output terms, by the law on its rule list.
use Rattle.eval_code.proofs.Words.{[], ◌++◌, ◌+◌, ◌-◌, ◌<◌, ◌==◌, ◌||◌, ◌∙◌, ◌∷◌, ◌≡◌, ◌≤◌, ap, append_assoc, ap₂}
use Rattle.eval_code.proofs.Words.{arith, Block, Bool, byte_mass, Complement, complement_slot, Conjunction}
use Rattle.eval_code.proofs.Words.{conjunctions_of, drop, false, flat_map, flat_of, get_or, if◌then◌else◌}
use Rattle.eval_code.proofs.Words.{input_slots, input_terms, IsValid, LayoutLaw, least_of, length, length-append}
use Rattle.eval_code.proofs.Words.{length-drop, length-map, List, map, map-append, max, min, number_in, Out, out_slot}
use Rattle.eval_code.proofs.Words.{output_terms, range_with_len, refl, Rule, rule_spread, RulesGiveMasses}
use Rattle.eval_code.proofs.Words.{singleton_count, slice_get, Slot, slot_before, slots_after, slots_before, slots_of}
use Rattle.eval_code.proofs.Words.{Some, subst, suc, sym, Term, term_slot, terms_from, true, weighted, weights_of}
use Rattle.eval_code.proofs.Words.{zero, ℕ}
use Rattle.std.proofs.{Common.get_or-drop, Common.ext_get_or, lemmas.List.get_or-map, lemmas.List.get_or-append-add}
use Rattle.std.specs.{Prelude.IsSomeAnd, List.list_any}
use Rattle.fuzzy_meaning.specs.{Blocks.HasSingleton}
use Rattle.rule_layout.specs.{Slots.is_same_slot, Slots.literal_slot, Layouts.conjunction_of}
use Rattle.rule_layout.specs.{Layouts.rule_conjunctions}
use Rattle.rule_layout.specs.{Masses.least_byte, Masses.left_in, Masses.MassLaw, Spreading.Literal}
use Rattle.rule_layout.specs.Slots.{literal_number, conclusion_number}
use Rattle.eval_code.proofs.phases.RuleMemory.{Below, AllBelow, length-fired}
use Rattle.eval_code.proofs.phases.RuleFacts.{BlockFacts, block_facts, all_below}
use Rattle.eval_code.proofs.phases.SlotValues.{complements_of, further_slots, slots_are, length-output_terms}
use Rattle.eval_code.proofs.phases.SlotValues.{slice_get_behind, push_front, length-push}
use Rattle.eval_code.proofs.masses.Masses.{hit, degree, Between, AllSplit, fired_at}

-- literals stand before the outputs' terms
abbrev IsLiteral : Slot → Type 0
IsLiteral (Term i t) = Unit {0}
IsLiteral (Complement i t) = Unit {0}
IsLiteral (Out o t) = ⊥

none_in_outs : (s : Slot) (os : List (ℕ × ℕ)) → IsLiteral s → number_in (map out_slot os) s ≡ length os
none_in_outs s [] h = refl
none_in_outs (Term i t) (o ∷ os) h = omega (arith, none_in_outs (Term i t) os h)
none_in_outs (Complement i t) (o ∷ os) h = omega (arith, none_in_outs (Complement i t) os h)
none_in_outs (Out i t) (o ∷ os) h = absurd h

literal_before : (xs : List Slot) (os : List (ℕ × ℕ)) (s : Slot) → IsLiteral s
    → number_in (xs ++ map out_slot os) s < length (xs ++ map out_slot os)
    → number_in (xs ++ map out_slot os) s < length xs
literal_before [] os s h lt = absurd (omega (arith, none_in_outs s os h, length-map os out_slot))
literal_before (x ∷ xs) os s h lt = by_test (is_same_slot s x) refl (literal_before xs os s h)
  where
    by_test : (t : Bool) → is_same_slot s x ≡ t
        → (number_in (xs ++ map out_slot os) s < length (xs ++ map out_slot os)
        → number_in (xs ++ map out_slot os) s < length xs)
        → number_in (x ∷ (xs ++ map out_slot os)) s < length (x ∷ xs)
    by_test true e go = let n : number_in (x ∷ (xs ++ map out_slot os)) s ≡ 0 =
        ap (λ (t : Bool). if t then 0 else number_in (xs ++ map out_slot os) s + 1) e in omega arith
    by_test false e go =
        let n : number_in (x ∷ (xs ++ map out_slot os)) s ≡ number_in (xs ++ map out_slot os) s + 1 =
        ap (λ (t : Bool). if t then 0 else number_in (xs ++ map out_slot os) s + 1) e in
        let r = go (omega arith) in
        omega arith

-- the outputs' terms stand behind the others
out_behind_terms : (o t : ℕ) (ps : List (ℕ × ℕ)) (rest : List Slot)
    → number_in (map term_slot ps ++ rest) (Out o t) ≡ length ps + number_in rest (Out o t)
out_behind_terms o t [] rest = omega arith
out_behind_terms o t (p ∷ ps) rest = omega (arith, out_behind_terms o t ps rest)

out_behind_complements : (o t : ℕ) (ps : List (ℕ × ℕ)) (rest : List Slot)
    → number_in (map complement_slot ps ++ rest) (Out o t) ≡ length ps + number_in rest (Out o t)
out_behind_complements o t [] rest = omega arith
out_behind_complements o t (p ∷ ps) rest = omega (arith, out_behind_complements o t ps rest)

abbrev front_of : Block → List Slot
front_of b = map term_slot (input_terms b) ++ map complement_slot (complements_of b)

slots_split : (b : Block) → slots_of b ≡ front_of b ++ map out_slot (output_terms b)
slots_split b = slots_are b
    ∙ sym (append_assoc (map term_slot (input_terms b)) (map complement_slot (complements_of b))
    (map out_slot (output_terms b)))

length-front : (b : Block) → length (front_of b) ≡ input_slots (slots_of b) b.outputs
length-front b =
    omega (
      arith,
      ap length (slots_split b),
      length-append (front_of b) (map out_slot (output_terms b)),
      length-map (output_terms b) out_slot,
      length-output_terms b,
    )

out_number : (b : Block) (o t : ℕ)
    → number_in (slots_of b) (Out o t) ≡ input_slots (slots_of b) b.outputs + number_in
    (map out_slot (output_terms b)) (Out o t)
out_number b o t =
    ap (λ ss. number_in ss (Out o t)) (slots_are b)
    ∙ out_behind_terms o t (input_terms b) (further_slots b)
    ∙ ap (λ n. length (input_terms b) + n)
    (out_behind_complements o t (complements_of b) (map out_slot (output_terms b)))
    ∙ omega (
      arith,
      length-front b,
      length-append (map term_slot (input_terms b)) (map complement_slot (complements_of b)),
      length-map (input_terms b) term_slot,
      length-map (complements_of b) complement_slot,
    )

literal_is : (c : Bool) (i t : ℕ) → IsLiteral (if c then Complement i t else Term i t)
literal_is true i t = tt
literal_is false i t = tt

literal_low : (b : Block) (l : Literal) → literal_number (slots_of b) l < length (slots_of b)
    → literal_number (slots_of b) l < input_slots (slots_of b) b.outputs
literal_low b l h =
    let e = slots_split b in
    let found : number_in (front_of b ++ map out_slot (output_terms b)) (literal_slot l) < length
    (front_of b ++ map out_slot (output_terms b)) =
    subst (λ ss. number_in ss (literal_slot l) < length ss) e h in
    let low = literal_before (front_of b) (output_terms b) (literal_slot l)
    (literal_is l.complement l.input l.term) found in
    let n : number_in (slots_of b) (literal_slot l) ≡ number_in (front_of b ++ map out_slot (output_terms b))
    (literal_slot l) =
    ap (λ ss. number_in ss (literal_slot l)) e in
    omega (arith, length-front b, low, n)

-- conjunctions read literals and raise outputs' terms
literals_below : (b : Block) (ls : List Literal) → Below (length (slots_of b)) (map (literal_number (slots_of b)) ls)
    → Below (input_slots (slots_of b) b.outputs) (map (literal_number (slots_of b)) ls)
literals_below b [] h = tt
literals_below b (l ∷ ls) h = (literal_low b l h.0, literals_below b ls h.1)

conclusions_between : (b : Block) (cs : List (ℕ × ℕ))
    → Below (length (slots_of b)) (map (conclusion_number (slots_of b)) cs)
    → Between (input_slots (slots_of b) b.outputs) (length (slots_of b)) (map (conclusion_number (slots_of b)) cs)
conclusions_between b [] h = tt
conclusions_between b (c ∷ cs) h = (omega (arith, out_number b c.0 c.1), h.0, conclusions_between b cs h.1)

split_rule : (b : Block) (r : Rule) (lss : List (List Literal)) (cs : List Conjunction)
    → AllBelow (length (slots_of b)) (map (conjunction_of (slots_of b) r) lss ++ cs)
    → (AllBelow (length (slots_of b)) cs → AllSplit (input_slots (slots_of b) b.outputs) (length (slots_of b)) cs)
    → AllSplit (input_slots (slots_of b) b.outputs) (length (slots_of b))
    (map (conjunction_of (slots_of b) r) lss ++ cs)
split_rule b r [] cs h go = go h
split_rule b r (ls ∷ lss) cs h go =
    (literals_below b ls h.0, conclusions_between b r.concl h.1, split_rule b r lss cs h.2 go)

split_rules : (b : Block) (rules : List Rule)
    → AllBelow (length (slots_of b)) (flat_map (rule_conjunctions (slots_of b)) rules)
    → AllSplit (input_slots (slots_of b) b.outputs) (length (slots_of b))
    (flat_map (rule_conjunctions (slots_of b)) rules)
split_rules b [] h = tt
split_rules b (r ∷ rs) h =
    split_rule b r (rule_spread r) (flat_map (rule_conjunctions (slots_of b)) rs) h (split_rules b rs)

split_of : (b : Block) → BlockFacts b
    → AllSplit (input_slots (slots_of b) b.outputs) (length (slots_of b)) (conjunctions_of b)
unfolding conjunctions_of
split_of b facts = split_rules b b.rules (all_below b facts)

-- what a conjunction raises, in the words of the rule list
least_from : (bytes : List ℕ) (t : ℕ) (ns : List ℕ) → t ≤ 255 → least_of bytes t ns ≡ min t (least_byte bytes ns)
least_from bytes t [] le = omega arith
least_from bytes t (n ∷ ns) le = least_from bytes (min t (get_or bytes n 0)) ns (omega arith) ∙ omega arith

least_le : (bytes ns : List ℕ) → least_byte bytes ns ≤ 255
least_le bytes [] = omega arith
least_le bytes (n ∷ ns) = let r = least_le bytes ns in omega arith

least_is : (bytes ns : List ℕ) → least_of bytes 255 ns ≡ least_byte bytes ns
least_is bytes ns = least_from bytes 255 ns (omega arith) ∙ omega (arith, least_le bytes ns)

-- t where a slot is concluded
or_choice : (x y : Bool) (s : ℕ) → max (if x then s else 0) (if y then s else 0) ≡ (if x || y then s else 0)
or_choice true true s = omega arith
or_choice true false s = omega arith
or_choice false true s = omega arith
or_choice false false s = omega arith

hit_raises : (k t : ℕ) (es : List ℕ) → hit k t es ≡ (if list_any (λ e. e == k) es then t else 0)
hit_raises k t [] = refl
hit_raises k t (e ∷ es) = ap (max (if e == k then t else 0)) (hit_raises k t es)
    ∙ or_choice (e == k) (list_any (λ e. e == k) es) t

degree_left : (bytes : List ℕ) (cs : List Conjunction) (ws : List ℕ) (k : ℕ)
    → degree bytes cs ws k ≡ left_in bytes ws cs k
degree_left bytes [] ws k = refl
degree_left bytes (c ∷ cs) [] k = refl
degree_left bytes (c ∷ cs) (w ∷ ws) k = ap₂ max
    (hit_raises k (weighted (least_of bytes 255 c.literals) w) c.conclusions
    ∙ ap (λ v. if list_any (λ e. e == k) c.conclusions then weighted v w else 0) (least_is bytes c.literals))
    (degree_left bytes cs ws k)

-- the terms of variables, which have so many each
record Has {X : Type 0} (count : X → ℕ) (all : List X) (p : ℕ × ℕ) : Type 0 where
  from : 1 ≤ p.0
  term : 1 ≤ p.1
  to : IsSomeAnd (slice_get all (p.0 - 1)) (λ x. p.1 ≤ count x)

AllHave : {X : Type 0} → (X → ℕ) → List X → List (ℕ × ℕ) → Type 0
AllHave count all [] = Unit {0}
AllHave count all (p ∷ ps) = Has count all p × AllHave count all ps

have_append : {X : Type 0} (count : X → ℕ) (all : List X) (ps qs : List (ℕ × ℕ)) → AllHave count all ps
    → AllHave count all qs → AllHave count all (ps ++ qs)
unfolding AllHave
have_append count all [] qs a b = b
have_append count all (p ∷ ps) qs a b = (a.0, have_append count all ps qs a.1 b)

have_range : {X : Type 0} (count : X → ℕ) (all : List X) (x : X) (i s n : ℕ) → 1 ≤ i → slice_get all (i - 1) ≡ Some x
    → s + n ≤ count x
    → AllHave count all (map (λ t. (i, t)) (range_with_len (s + 1) n))
unfolding AllHave
have_range count all x i s zero lo e le = tt
have_range count all x i s (suc n) lo e le = (
  record {
    from = lo;
    term = omega arith;
    to =
        subst (λ o. IsSomeAnd o (λ y. s + 1 ≤ count y)) (sym e) (let r : s + 1 ≤ count x = omega arith in r);
  },
  have_range count all x i (s + 1) n lo e (omega arith),
)

have_from : {X : Type 0} (count : X → ℕ) (all front xs : List X) (i : ℕ) → all ≡ front ++ xs → i ≡ length front + 1
    → AllHave count all (terms_from i (map count xs))
unfolding AllHave
have_from count all front [] i e en = tt
have_from count all front (x ∷ xs) i e en =
    let k : i - 1 ≡ length front = omega arith in
    let here : slice_get all (i - 1) ≡ Some x = ap₂ (λ (l : List _) (n : ℕ). slice_get l n) e k
    ∙ slice_get_behind front x xs in
    have_append count all (map (λ t. (i, t)) (range_with_len 1 (count x))) (terms_from (i + 1) (map count xs))
    (have_range count all x i 0 (count x) (omega arith) here (omega arith))
    (have_from count all (front ++ x ∷ []) xs (i + 1) (e ∙ sym (push_front front x xs))
    (omega (arith, length-push front x)))

have_at : {X : Type 0} (count : X → ℕ) (all : List X) (ps : List (ℕ × ℕ)) (j : ℕ) (d : ℕ × ℕ) → AllHave count all ps
    → j < length ps
    → Has count all (get_or ps j d)
unfolding AllHave
have_at count all [] j d h lt = absurd (omega arith)
have_at count all (p ∷ ps) zero d h lt = h.0
have_at count all (p ∷ ps) (suc j) d h lt = have_at count all ps j d h.1 (omega arith)

has_singleton : (b : Block) (j : ℕ) (d : ℕ × ℕ) → j < length (output_terms b)
    → HasSingleton b (get_or (output_terms b) j d).0 (get_or (output_terms b) j d).1
has_singleton b j d lt =
    let h = have_at singleton_count b.outputs (output_terms b) j d
    (have_from singleton_count b.outputs [] b.outputs 1 refl refl) lt in
    record { output_from = h.from; term_from = h.term; term_to = h.to }

-- before the rules the slots of outputs' terms are 0
zeros_of_outs : (b : Block) (bytes : List ℕ) (os : List (ℕ × ℕ)) (j : ℕ)
    → get_or (map (slot_before b bytes) (map out_slot os)) j 0 ≡ 0
zeros_of_outs b bytes [] j = refl
zeros_of_outs b bytes (o ∷ os) zero = refl
zeros_of_outs b bytes (o ∷ os) (suc j) = zeros_of_outs b bytes os j

before_zero : (b : Block) (bytes : List ℕ) (j : ℕ)
    → get_or (slots_before b bytes) (input_slots (slots_of b) b.outputs + j) 0 ≡ 0
before_zero b bytes j =
    let f = slot_before b bytes in
    let e : slots_before b bytes ≡ map f (front_of b) ++ map f (map out_slot (output_terms b)) =
    ap (map f) (slots_split b) ∙ map-append f (front_of b) (map out_slot (output_terms b)) in
    let n : input_slots (slots_of b) b.outputs ≡ length (map f (front_of b)) =
    sym (length-map (front_of b) f ∙ length-front b) in
    ap₂ (λ (l : List ℕ) (k : ℕ). get_or l (k + j) 0) e n
    ∙ get_or-append-add (map f (front_of b)) (map f (map out_slot (output_terms b))) j 0
    ∙ zeros_of_outs b bytes (output_terms b) j

-- an output's term has the number of its place
number_here : (b : Block) → BlockFacts b → (j : ℕ) (d : ℕ × ℕ) → j < length (output_terms b)
    → number_in (slots_of b) (out_slot (get_or (output_terms b) j d)) ≡ input_slots (slots_of b) b.outputs + j
number_here b facts j d lt =
    let l = input_slots (slots_of b) b.outputs in
    let e = slots_split b in
    let n : l ≡ length (front_of b) = sym (length-front b) in
    let there : get_or (slots_of b) (l + j) (out_slot d) ≡ out_slot (get_or (output_terms b) j d) =
    ap₂ (λ (ss : List Slot) (k : ℕ). get_or ss (k + j) (out_slot d)) e n
    ∙ get_or-append-add (front_of b) (map out_slot (output_terms b)) j (out_slot d)
    ∙ get_or-map out_slot (output_terms b) j d (out_slot d) lt in
    let total : length (slots_of b) ≡ l + length (output_terms b) =
    omega (
      arith,
      ap length e,
      length-append (front_of b) (map out_slot (output_terms b)),
      length-map (output_terms b) out_slot,
      length-front b,
    ) in
    ap (number_in (slots_of b)) (sym there) ∙ facts.apart (l + j) (out_slot d) (omega arith)

-- slot by slot
mass_law : MassLaw → (b : Block) (bytes : List ℕ) → IsValid b → (o t : ℕ) → HasSingleton b o t
    → degree (slots_before b bytes) (conjunctions_of b) (weights_of b) (conclusion_number (slots_of b) (o, t))
    ≡ byte_mass b bytes o t
unfolding flat_of
mass_law law b bytes v o t h =
    degree_left (slots_before b bytes) (conjunctions_of b) (weights_of b) (conclusion_number (slots_of b) (o, t))
    ∙ law b bytes o t v h

mass_at : MassLaw → (b : Block) (bytes : List ℕ) → IsValid b → BlockFacts b → (j : ℕ) → j < length (output_terms b)
    → get_or (drop (input_slots (slots_of b) b.outputs) (slots_after b bytes)) j 0 ≡ get_or
    (map (λ p. byte_mass b bytes p.0 p.1) (output_terms b)) j 0
mass_at law b bytes v facts j lt =
    let l = input_slots (slots_of b) b.outputs in
    let d : ℕ × ℕ = (0, 0) in
    let p = get_or (output_terms b) j d in
    let V = slots_before b bytes in
    let lv : length V ≡ length (slots_of b) = length-map (slots_of b) (slot_before b bytes) in
    let k : conclusion_number (slots_of b) (p.0, p.1) ≡ l + j = number_here b facts j d lt in
    let f =
    fired_at l V V (conjunctions_of b) (weights_of b) (l + j) facts.weighed (λ e le. refl)
    (subst (λ n. AllSplit l n (conjunctions_of b)) (sym lv) (split_of b facts)) in
    let z = before_zero b bytes j in
    let m : degree V (conjunctions_of b) (weights_of b) (l + j) ≡ byte_mass b bytes p.0 p.1 =
    ap (degree V (conjunctions_of b) (weights_of b)) (sym k)
    ∙ mass_law law b bytes v p.0 p.1 (has_singleton b j d lt) in
    get_or-drop l (slots_after b bytes) j 0 ∙ f
    ∙ omega (arith, z, m, get_or-map (λ (q : ℕ × ℕ). byte_mass b bytes q.0 q.1) (output_terms b) j d 0 lt)

pub rules_give_masses : LayoutLaw → MassLaw → RulesGiveMasses
rules_give_masses layout mass b bytes v input =
    let facts = block_facts layout b v in
    let l = input_slots (slots_of b) b.outputs in
    let total : length (slots_of b) ≡ l + length (output_terms b) =
    omega (
      arith,
      ap length (slots_split b),
      length-append (front_of b) (map out_slot (output_terms b)),
      length-map (output_terms b) out_slot,
      length-front b,
    ) in
    let len : length (drop l (slots_after b bytes)) ≡ length (output_terms b) =
    omega (
      arith,
      length-drop l (slots_after b bytes),
      length-fired (slots_before b bytes) (conjunctions_of b) (weights_of b),
      length-map (slots_of b) (slot_before b bytes),
    ) in
    ext_get_or 0 (drop l (slots_after b bytes)) (map (λ p. byte_mass b bytes p.0 p.1) (output_terms b))
    (len ∙ sym (length-map (output_terms b) (λ p. byte_mass b bytes p.0 p.1)))
    (λ j lt. mass_at mass b bytes v facts j (omega arith))
