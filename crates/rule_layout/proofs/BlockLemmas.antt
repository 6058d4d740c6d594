-- What the limits of a valid block give the tables.
use Rattle.rule_layout.proofs.Words.{[], ◌++◌, ◌+◌, ◌-◌, ◌<◌, ◌∙◌, ◌∷◌, ◌≡◌, ◌≤◌, All, All-append, All-cons, All-head}
use Rattle.rule_layout.proofs.Words.{All-map, All-nil, All-tail, ap, ap₂, AreUsed, arith, Block, Bool}
use Rattle.rule_layout.proofs.Words.{complement_slot, filter, FitsGrid, HasSingleton, HasTerm, input_terms}
use Rattle.rule_layout.proofs.Words.{is_complemented, is_marked, IsInGrid, IsInTable, IsSomeAnd, IsValid, length}
use Rattle.rule_layout.proofs.Words.{length-map, List, map, out_slot, output_terms, range_with_len, refl, Rule}
use Rattle.rule_layout.proofs.Words.{singleton_count, slice_get, Slot, slots_of, suc, term_count, term_slot}
use Rattle.rule_layout.proofs.Words.{terms_from, zero, ℕ}
use Rattle.std.proofs.{Common.cond, lemmas.List.append_assoc}
use Rattle.fuzzy_meaning.specs.{Blocks.IsValidInput, Blocks.IsValidOutput, Blocks.IsValidRule}
use Rattle.fuzzy_meaning.proofs.Algebra.{HasLiterals-map}

-- the element that a place has is among those of which P holds
at_place : {X : Type 0} (P Q : X → Type 0) (xs : List X) (k : ℕ) → All P xs → IsSomeAnd (slice_get xs k) Q
    → (x : X) × (k < length xs) × P x × Q x
at_place P Q [] k h q = absurd q
at_place P Q (x ∷ xs) zero h q = (x, omega arith, All-head P x xs h, q)
at_place P Q (x ∷ xs) (suc k) h q =
    let later = at_place P Q xs k (All-tail P x xs h) q in
    (later.0, omega (arith, later.1), later.2, later.3)

pub term_in_grid : (b : Block) (i t : ℕ) → IsValid b → HasTerm b i t → IsInGrid i t
term_in_grid b i t v h =
    let found = at_place IsValidInput (λ x. t ≤ length x.terms) b.inputs (i - 1) v.inputs h.term_to in
    record {
      input_from = h.input_from;
      input_to = omega (arith, found.1, v.few_inputs, h.input_from);
      term_from =
          h.term_from;
      term_to = omega (arith, found.3, found.2.few_terms);
    }

pub singleton_in_table : (b : Block) (o t : ℕ) → IsValid b → HasSingleton b o t → IsInTable (out_slot (o, t))
singleton_in_table b o t v h =
    let found = at_place IsValidOutput (λ x. t ≤ length x.singletons) b.outputs (o - 1) v.outputs h.term_to in (
      h.output_from,
      omega (arith, found.1, v.few_outputs, h.output_from),
      h.term_from,
      omega (arith, found.3, found.2.few_terms),
    )

pub rule_fits : (b : Block) (r : Rule) → IsValid b → IsValidRule b r → FitsGrid r.cond
rule_fits b r v h = HasLiterals-map (λ i t. term_in_grid b i t v) r.cond h.condition

-- a pair of a variable from i up to, not with, j, and one of at most 15 terms
pub record IsTermBetween (i j : ℕ) (p : ℕ × ℕ) : Type 0 where
  pub variable_from : i ≤ p.0
  pub variable_to : p.0 < j
  pub term_from : 1 ≤ p.1
  pub term_to : p.1 ≤ 15

range_between : (i j s n : ℕ) → i < j → 1 ≤ s → s + n ≤ 16
    → All (IsTermBetween i j) (map (λ t. (i, t)) (range_with_len s n))
range_between i j s zero lt from to = All-nil (IsTermBetween i j)
range_between i j s (suc n) lt from to =
    All-cons (IsTermBetween i j) (i, s) (map (λ t. (i, t)) (range_with_len (s + 1) n))
    (record { variable_from = omega arith; variable_to = lt; term_from = from; term_to = omega arith })
    (range_between i j (s + 1) n lt (omega arith) (omega arith))

All-imp : {X : Type 0} (P Q : X → Type 0) (xs : List X) → ((x : X) → P x → Q x) → All P xs → All Q xs
All-imp P Q xs f h = λ k d lt. f _ (h k d lt)

terms_between : (i : ℕ) (ns : List ℕ) → All (λ n. n ≤ 15) ns → All (IsTermBetween i (i + length ns)) (terms_from i ns)
terms_between i [] h = All-nil (IsTermBetween i (i + 0))
terms_between i (n ∷ ns) h =
    let here = range_between i (i + suc (length ns)) 1 n (omega arith) (omega arith)
    (omega (arith, All-head (λ m. m ≤ 15) n ns h)) in
    let later = All-imp (IsTermBetween (i + 1) ((i + 1) + length ns)) (IsTermBetween i (i + suc (length ns)))
    (terms_from (i + 1) ns)
    (λ p q. record {
      variable_from = omega (arith, q.variable_from);
      variable_to =
          omega (arith, q.variable_to);
      term_from = q.term_from;
      term_to = q.term_to;
    })
    (terms_between (i + 1) ns (All-tail (λ m. m ≤ 15) n ns h)) in
    All-append (IsTermBetween i (i + suc (length ns))) (map (λ t. (i, t)) (range_with_len 1 n))
    (terms_from (i + 1) ns) here later

pub few_terms : (b : Block) → IsValid b → All (λ x. length x.terms ≤ 15) b.inputs
few_terms b v = All-imp IsValidInput (λ x. length x.terms ≤ 15) b.inputs (λ x h. h.few_terms) v.inputs

pub few_singletons : (b : Block) → IsValid b → All (λ x. length x.singletons ≤ 15) b.outputs
few_singletons b v = All-imp IsValidOutput (λ x. length x.singletons ≤ 15) b.outputs (λ x h. h.few_terms) v.outputs

pub input_terms_in_grid : (b : Block) → IsValid b → All (λ p. IsInGrid p.0 p.1) (input_terms b)
input_terms_in_grid b v =
    let counts = map term_count b.inputs in
    All-imp (IsTermBetween 1 (1 + length counts)) (λ p. IsInGrid p.0 p.1) (input_terms b)
    (λ p q. record {
      input_from = q.variable_from;
      input_to =
          omega (arith, q.variable_to, length-map b.inputs term_count, v.few_inputs);
      term_from = q.term_from;
      term_to =
          q.term_to;
    })
    (terms_between 1 counts (All-map (λ n. n ≤ 15) term_count b.inputs (few_terms b v)))

pub output_terms_in_table : (b : Block) → IsValid b → All (λ p. IsInTable (out_slot p)) (output_terms b)
output_terms_in_table b v =
    let counts = map singleton_count b.outputs in
    All-imp (IsTermBetween 1 (1 + length counts)) (λ p. IsInTable (out_slot p)) (output_terms b)
    (λ p q. (
      q.variable_from,
      omega (arith, q.variable_to, length-map b.outputs singleton_count, v.few_outputs),
      q.term_from,
      q.term_to,
    ))
    (terms_between 1 counts (All-map (λ n. n ≤ 15) singleton_count b.outputs (few_singletons b v)))

pub filter_alike : {X : Type 0} (p q : X → Bool) (xs : List X) → All (λ x. p x ≡ q x) xs → filter p xs ≡ filter q xs
filter_alike p q [] h = refl
filter_alike p q (x ∷ xs) h =
    ap₂ (λ (b : Bool) (w : List _). cond b (x ∷ w) w) (All-head (λ y. p y ≡ q y) x xs h)
    (filter_alike p q xs (All-tail (λ y. p y ≡ q y) x xs h))

-- the slots from their three parts
pub slots_made : (b : Block) (v : IsValid b) (table : List Bool) (ts us os : List (ℕ × ℕ)) (s0 s1 s2 s3 : List Slot)
    → AreUsed b.rules table → ts ≡ input_terms b → us ≡ input_terms b → os ≡ output_terms b →
    s0 ≡ [] → s1 ≡ s0 ++ map term_slot ts → s2 ≡ s1 ++ map complement_slot (filter (λ p. is_marked table p.0 p.1) us)
    → s3 ≡ s2 ++ map out_slot os → s3 ≡ slots_of b
unfolding slots_of
slots_made b v table ts us os s0 s1 s2 s3 used et eu eo e0 e1 e2 e3 =
    let first : s1 ≡ map term_slot (input_terms b) =
    e1 ∙ ap₂ (λ (w : List Slot) (x : List (ℕ × ℕ)). w ++ map term_slot x) e0 et in
    let alike = filter_alike (λ p. is_marked table p.0 p.1) (λ p. is_complemented b.rules p.0 p.1) (input_terms b)
    (λ k d lt. used.marks _ _ (input_terms_in_grid b v k d lt)) in
    let second : s2 ≡ map term_slot (input_terms b)
    ++ map complement_slot (filter (λ p. is_complemented b.rules p.0 p.1) (input_terms b)) =
    e2 ∙ (ap₂ (λ (w : List Slot) (x : List (ℕ × ℕ)). w ++ map complement_slot (filter (λ p. is_marked table p.0 p.1) x))
    first eu ∙ ap (λ (x : List (ℕ × ℕ)). map term_slot (input_terms b) ++ map complement_slot x) alike) in
    e3 ∙ (ap₂ (λ (w : List Slot) (x : List (ℕ × ℕ)). w ++ map out_slot x) second eo
    ∙ append_assoc (map term_slot (input_terms b))
    (map complement_slot (filter (λ p. is_complemented b.rules p.0 p.1) (input_terms b)))
    (map out_slot (output_terms b)))
