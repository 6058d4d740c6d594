-- Where the slots of a term stand.
use Rattle.rule_layout.proofs.Words.{[], ◌++◌, ◌+◌, ◌-◌, ◌<◌, ◌∙◌, ◌∷◌, ◌≡◌, ◌≤◌, ap, arith, Block, complement_slot}
use Rattle.rule_layout.proofs.Words.{filter, get_or, get_or-map, input_terms, is_complemented, IsSomeAnd, IsValid}
use Rattle.rule_layout.proofs.Words.{length, length-append, length-map, List, map, number_in, Out, out_slot}
use Rattle.rule_layout.proofs.Words.{output_terms, range_with_len, singleton_count, slice_get, Slot, slots_of, suc}
use Rattle.rule_layout.proofs.Words.{sum_by, sum_by-cons, sym, take, Term, term_count, term_slot, terms_from, zero, ℕ}
use Rattle.std.proofs.{lemmas.List.get_or_append_left, lemmas.List.get_or-append-add}
use Rattle.std.proofs.lemmas.List.FromFn.{length-map-range_with_len, get_or-map-range_with_len}
use Rattle.rule_layout.specs.Numbers.{complemented_terms, TermNumberLaw, OutNumberLaw}
use Rattle.rule_layout.proofs.LaidOutLemmas.{slots_apart}

abbrev pair : ℕ → ℕ → ℕ × ℕ
pair j u = (j, u)

-- the terms of one variable
abbrev row : ℕ → ℕ → List (ℕ × ℕ)
row j n = map (pair j) (range_with_len 1 n)

length-row : (j n : ℕ) → length (row j n) ≡ n
length-row j n = length-map-range_with_len (pair j) 1 n

-- the place of a term among those of all variables
pub term_place_lt : {X : Type 0} (count : X → ℕ) (xs : List X) (j k t : ℕ) → 1 ≤ t
    → IsSomeAnd (slice_get xs k) (λ x. t ≤ count x) →
    sum_by count (take k xs) + (t - 1) < length (terms_from j (map count xs))
term_place_lt count [] j k t from h = absurd h
term_place_lt count (x ∷ xs) j zero t from h =
    omega (arith, h, length-append (row j (count x)) (terms_from (j + 1) (map count xs)), length-row j (count x))
term_place_lt count (x ∷ xs) j (suc k) t from h =
    omega (
      arith,
      term_place_lt count xs (j + 1) k t from h,
      sum_by-cons count x (take k xs),
      length-append (row j (count x)) (terms_from (j + 1) (map count xs)),
      length-row j (count x),
    )

pub term_at_place : {X : Type 0} (count : X → ℕ) (xs : List X) (j k t : ℕ) (d : ℕ × ℕ) → 1 ≤ t
    → IsSomeAnd (slice_get xs k) (λ x. t ≤ count x) →
    get_or (terms_from j (map count xs)) (sum_by count (take k xs) + (t - 1)) d ≡ (j + k, t)
term_at_place count [] j k t d from h = absurd h
term_at_place count (x ∷ xs) j zero t d from h =
    let index : 0 + (t - 1) ≡ t - 1 = omega arith in
    let size = length-row j (count x) in
    let inside : t - 1 < length (row j (count x)) = omega (arith, h, size) in
    rw index (get_or_append_left (row j (count x)) (terms_from (j + 1) (map count xs)) d (t - 1) inside
    ∙ (get_or-map-range_with_len (pair j) 1 (count x) (t - 1) t d (omega (arith, h)) (omega arith)
    ∙ ap (λ (i : ℕ). pair i t) (let same : j ≡ j + 0 = omega arith in same)))
term_at_place count (x ∷ xs) j (suc k) t d from h =
    let size = length-row j (count x) in
    let index : sum_by count (x ∷ take k xs) + (t - 1) ≡ length
    (row j (count x)) + (sum_by count (take k xs) + (t - 1)) =
    omega (arith, size, sum_by-cons count x (take k xs)) in
    rw index (get_or-append-add (row j (count x)) (terms_from (j + 1) (map count xs))
    (sum_by count (take k xs) + (t - 1)) d
    ∙ (term_at_place count xs (j + 1) k t d from h
    ∙ ap (λ (i : ℕ). pair i t) (let same : (j + 1) + k ≡ j + suc k = omega arith in same)))

-- a slot that stands at a place has that number
number_by_place : (b : Block) → IsValid b → (k : ℕ) (s : Slot) → k < length (slots_of b)
    → get_or (slots_of b) k (Term 0 0) ≡ s → number_in (slots_of b) s ≡ k
number_by_place b v k s lt here = ap (number_in (slots_of b)) (sym here) ∙ slots_apart b v k (Term 0 0) lt

pub term_number_lem : TermNumberLaw
unfolding slots_of
term_number_lem b i t v h =
    let k = sum_by term_count (take (i - 1) b.inputs) + (t - 1) in
    let lt = term_place_lt term_count b.inputs 1 (i - 1) t h.term_from h.term_to in
    let others = map complement_slot (filter (λ p. is_complemented b.rules p.0 p.1) (input_terms b))
    ++ map out_slot (output_terms b) in
    let inside : k < length (map term_slot (input_terms b)) = omega (arith, lt, length-map (input_terms b) term_slot) in
    let index : 1 + (i - 1) ≡ i = omega (arith, h.input_from) in
    let term = term_at_place term_count b.inputs 1 (i - 1) t (0, 0) h.term_from h.term_to
    ∙ ap (λ (j : ℕ). pair j t) index in
    let here = get_or_append_left (map term_slot (input_terms b)) others (Term 0 0) k inside
    ∙ (get_or-map term_slot (input_terms b) k (0, 0) (Term 0 0) lt ∙ ap term_slot term) in
    number_by_place b v k (Term i t) (omega (arith, inside, length-append (map term_slot (input_terms b)) others)) here

pub out_number_lem : OutNumberLaw
unfolding slots_of
out_number_lem b o t v h =
    let k = sum_by singleton_count (take (o - 1) b.outputs) + (t - 1) in
    let lt = term_place_lt singleton_count b.outputs 1 (o - 1) t h.term_from h.term_to in
    let terms = map term_slot (input_terms b) in
    let complements = map complement_slot (complemented_terms b) in
    let outs = map out_slot (output_terms b) in
    let terms_size = length-map (input_terms b) term_slot in
    let complements_size = length-map (complemented_terms b) complement_slot in
    let outs_size = length-map (output_terms b) out_slot in
    let index : 1 + (o - 1) ≡ o = omega (arith, h.output_from) in
    let term = term_at_place singleton_count b.outputs 1 (o - 1) t (0, 0) h.term_from h.term_to
    ∙ ap (λ (j : ℕ). pair j t) index in
    let place : length (input_terms b) + length (complemented_terms b) + k ≡ length terms + (length complements + k) =
    omega (arith, terms_size, complements_size) in
    let here = ap (λ (n : ℕ). get_or (terms ++ (complements ++ outs)) n (Term 0 0)) place
    ∙ (get_or-append-add terms (complements ++ outs) (length complements + k) (Term 0 0)
    ∙ (get_or-append-add complements outs k (Term 0 0)
    ∙ (get_or-map out_slot (output_terms b) k (0, 0) (Term 0 0) lt ∙ ap out_slot term))) in
    number_by_place b v (length (input_terms b) + length (complemented_terms b) + k) (Out o t)
    (omega (arith, lt, place, outs_size, length-append terms (complements ++ outs), length-append complements outs))
    here
