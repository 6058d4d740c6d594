-- What the slots hold before the rules, slot by slot.
use Rattle.eval_code.proofs.Words.{[], ◌*◌, ◌++◌, ◌+◌, ◌-◌, ◌<◌, ◌∙◌, ◌∷◌, ◌≡◌, ap, append_assoc, ap₂, arith, Block}
use Rattle.eval_code.proofs.Words.{Bool, complement_count, complement_slot, false, get_or, grade_of, if◌then◌else◌}
use Rattle.eval_code.proofs.Words.{Input, input_term_count, input_terms, length, length-append, length-map}
use Rattle.eval_code.proofs.Words.{length-range_with_len, List, literal_grade, map, map-append, Option, option_map_or}
use Rattle.eval_code.proofs.Words.{out_slot, output_term_count, output_terms, range_with_len, refl, row_of}
use Rattle.eval_code.proofs.Words.{singleton_count, slice_get, Slot, slot_before, slots_before, slots_of, Some, subst}
use Rattle.eval_code.proofs.Words.{suc, sum_by, sum_by-cons, sym, take, take_at, term_count, term_slot, terms_before}
use Rattle.eval_code.proofs.Words.{terms_from, Trapezoid, true, zero, ℕ}
use Rattle.std.proofs.{Common.filter, lemmas.List.Sums.sum_by-append}
use Rattle.rule_layout.specs.{Slots.is_complemented}
use Rattle.eval_code.proofs.{phases.Fuzzify.grades, phases.Filling.AllCanFill, phases.Filling.fill_count}

-- the element behind a list's front
pub slice_get_behind : {X : Type 0} (front : List X) (x : X) (rest : List X)
    → slice_get (front ++ x ∷ rest) (length front) ≡ Some x
slice_get_behind [] x rest = refl
slice_get_behind (y ∷ front) x rest = slice_get_behind front x rest

index_behind : (front : List ℕ) (x : ℕ) (rest : List ℕ) → get_or (front ++ x ∷ rest) (length front) 0 ≡ x
index_behind [] x rest = refl
index_behind (y ∷ front) x rest = index_behind front x rest

pub push_front : {X : Type 0} (front : List X) (x : X) (rest : List X) → (front ++ x ∷ []) ++ rest ≡ front ++ x ∷ rest
push_front front x rest = append_assoc front (x ∷ []) rest

pub length-push : {X : Type 0} (front : List X) (x : X) → length (front ++ x ∷ []) ≡ length front + 1
length-push front x = omega (arith, length-append front (x ∷ []))

-- a function over a list's elements, by their numbers from 1
by_number : (g : Trapezoid → ℕ) (front ts all : List Trapezoid) (j : ℕ) → all ≡ front ++ ts → length front ≡ j
    → map g ts ≡ map (λ t. option_map_or g (slice_get all (t - 1)) 0) (range_with_len (j + 1) (length ts))
by_number g front [] all j e l = refl
by_number g front (t ∷ ts) all j e l =
    let k : j + 1 - 1 ≡ length front = omega arith in
    let here : g t ≡ option_map_or g (slice_get all (j + 1 - 1)) 0 =
    sym (ap₂ (λ (xs : List Trapezoid) (i : ℕ). option_map_or g (slice_get xs i) 0) e k
    ∙ ap (λ (o : Option Trapezoid). option_map_or g o 0) (slice_get_behind front t ts)) in
    ap₂ (λ (v : ℕ) (vs : List ℕ). v ∷ vs) here
    (by_number g (front ++ t ∷ []) ts all (j + 1) (e ∙ sym (push_front front t ts))
    (omega (arith, length-push front t)))

map_map : {X Y : Type 0} (f : Y → ℕ) (h : X → Y) (xs : List X) → map f (map h xs) ≡ map (λ x. f (h x)) xs
map_map f h [] = refl
map_map f h (x ∷ xs) = ap (λ vs. f (h x) ∷ vs) (map_map f h xs)

-- the grade of an input's term where its byte is known
abbrev term_value : Block → List ℕ → ℕ × ℕ → ℕ
term_value b bytes p = literal_grade b bytes p.0 p.1

input_values : (b : Block) (bytes vfront vs : List ℕ) (front : List Input) (x : Input) (xs : List Input) (v : ℕ) (i : ℕ)
    → b.inputs ≡ front ++ x ∷ xs
    → bytes ≡ vfront ++ v ∷ vs → length vfront ≡ length front → i ≡ length front + 1
    → map (λ t. grade_of (row_of x t) v) x.terms ≡ map (term_value b bytes)
    (map (λ t. (i, t)) (range_with_len 1 (length x.terms)))
input_values b bytes vfront vs front x xs v i ei ev el en =
    let k : i - 1 ≡ length front = omega arith in
    let j : i - 1 ≡ length vfront = omega arith in
    let gx : slice_get b.inputs (i - 1) ≡ Some x = ap₂ (λ (l : List Input) (n : ℕ). slice_get l n) ei k
    ∙ slice_get_behind front x xs in
    let gv : get_or bytes (i - 1) 0 ≡ v = ap₂ (λ (l : List ℕ) (n : ℕ). get_or l n 0) ev j ∙ index_behind vfront v vs in
    let of_term : ℕ → ℕ × ℕ = λ t. (i, t) in
    by_number (λ t. grade_of (row_of x t) v) [] x.terms x.terms 0 refl refl
    ∙ sym
    (ap₂ (λ (o : Option Input) (w : ℕ). map
    (λ t. option_map_or (λ (y : Input). option_map_or (λ (term : Trapezoid). grade_of (row_of y term) w)
    (slice_get y.terms (t - 1)) 0) o 0) (range_with_len 1 (length x.terms))) gx gv)
    ∙ sym (map_map (term_value b bytes) of_term (range_with_len 1 (length x.terms)))

grades_from : (b : Block) (bytes vfront vs : List ℕ) (front xs : List Input) (i : ℕ) → b.inputs ≡ front ++ xs
    → bytes ≡ vfront ++ vs
    → length vfront ≡ length front → i ≡ length front + 1 → length vs ≡ length xs
    → grades vs xs ≡ map (term_value b bytes) (terms_from i (map term_count xs))
grades_from b bytes vfront vs front [] i ei ev el en em = refl
grades_from b bytes vfront [] front (x ∷ xs) i ei ev el en em = absurd (omega arith)
grades_from b bytes vfront (v ∷ vs) front (x ∷ xs) i ei ev el en em =
    let here = input_values b bytes vfront vs front x xs v i ei ev el en in
    let later =
    grades_from b bytes (vfront ++ v ∷ []) vs (front ++ x ∷ []) xs (i + 1) (ei ∙ sym (push_front front x xs))
    (ev ∙ sym (push_front vfront v vs)) (omega (arith, length-push vfront v, length-push front x))
    (omega (arith, length-push front x)) (omega arith) in
    ap₂ (λ (p q : List ℕ). p ++ q) here later
    ∙ sym (map-append (term_value b bytes) (map (λ t. (i, t)) (range_with_len 1 (length x.terms)))
    (terms_from (i + 1) (map term_count xs)))

-- the grades are the values of the input terms
pub grades_are : (b : Block) (bytes : List ℕ) → length bytes ≡ length b.inputs
    → grades bytes b.inputs ≡ map (term_value b bytes) (input_terms b)
grades_are b bytes h = grades_from b bytes [] bytes [] b.inputs 1 refl refl refl refl h

-- the place of a term among those of variables that have so many each
abbrev pub place_in : {X : Type 0} → (X → ℕ) → List X → ℕ × ℕ → ℕ
place_in count xs p = sum_by count (take (p.0 - 1) xs) + (p.1 - 1)

-- terms whose places count up from one
abbrev pub Counted : (ℕ × ℕ → ℕ) → ℕ → List (ℕ × ℕ) → Type 0
Counted place at [] = Unit {0}
Counted place at (p ∷ ps) = (place p ≡ at) × Counted place (at + 1) ps

counted_append : (place : ℕ × ℕ → ℕ) (at : ℕ) (ps qs : List (ℕ × ℕ)) → Counted place at ps
    → Counted place (at + length ps) qs → Counted place at (ps ++ qs)
counted_append place at [] qs a b = let e : at + 0 ≡ at = omega arith in subst (λ k. Counted place k qs) e b
counted_append place at (p ∷ ps) qs a b = let e : at + suc (length ps) ≡ at + 1 + length ps = omega arith in
    (a.0, counted_append place (at + 1) ps qs a.1 (subst (λ k. Counted place k qs) e b))

counted_range : {X : Type 0} (count : X → ℕ) (xs : List X) (i s n at : ℕ) → sum_by count (take (i - 1) xs) + s ≡ at
    → Counted (place_in count xs) at (map (λ t. (i, t)) (range_with_len (s + 1) n))
counted_range count xs i s zero at e = tt
counted_range count xs i s (suc n) at e = (omega arith, counted_range count xs i (s + 1) n (at + 1) (omega arith))

pub counted_from : {X : Type 0} (count : X → ℕ) (all front xs : List X) (i at : ℕ) → all ≡ front ++ xs
    → i ≡ length front + 1 → at ≡ sum_by count front
    → Counted (place_in count all) at (terms_from i (map count xs))
counted_from count all front [] i at e en ea = tt
counted_from count all front (x ∷ xs) i at e en ea =
    let k : i - 1 ≡ length front = omega arith in
    let cut : take (i - 1) all ≡ front = ap₂ (λ (n : ℕ) (l : List _). take n l) k e
    ∙ take_at front (x ∷ xs) (length front) refl in
    let before : sum_by count (take (i - 1) all) ≡ sum_by count front = ap (sum_by count) cut in
    let here = counted_range count all i 0 (count x) at (omega arith) in
    let of_term : ℕ → ℕ × ℕ = λ t. (i, t) in
    let sums : sum_by count (front ++ x ∷ []) ≡ sum_by count front + count x = sum_by-append count front (x ∷ [])
    ∙ omega (arith, sum_by-cons count x []) in
    counted_append (place_in count all) at (map (λ t. (i, t)) (range_with_len 1 (count x)))
    (terms_from (i + 1) (map count xs)) here
    (counted_from count all (front ++ x ∷ []) xs (i + 1) _ (e ∙ sym (push_front front x xs))
    (omega (arith, length-push front x))
    (omega (arith, sums, ea, length-map (range_with_len 1 (count x)) of_term, length-range_with_len 1 (count x))))

-- terms whose values stand among the grades
abbrev AllKnown : Block → List ℕ → List Input → List ℕ → List (ℕ × ℕ) → Type 0
AllKnown b bytes inputs gs [] = Unit {0}
AllKnown b bytes inputs gs (p ∷ ps) =
    ((terms_before inputs p.0 + (p.1 - 1) < length gs)
    × (get_or gs (terms_before inputs p.0 + (p.1 - 1)) 0 ≡ literal_grade b bytes p.0 p.1))
    × AllKnown b bytes inputs gs ps

known_from : (b : Block) (bytes : List ℕ) (inputs : List Input) (gs front : List ℕ) (at : ℕ) (ps : List (ℕ × ℕ))
    → gs ≡ front ++ map (term_value b bytes) ps
    → length front ≡ at → Counted (place_in term_count inputs) at ps → AllKnown b bytes inputs gs ps
known_from b bytes inputs gs front at [] e l h = tt
known_from b bytes inputs gs front at (p ∷ ps) e l h =
    let v = term_value b bytes p in
    let rest = map (term_value b bytes) ps in
    let k : terms_before inputs p.0 + (p.1 - 1) ≡ length front = omega (arith, h.0) in
    let le : length gs ≡ length front + suc (length rest) = ap length e ∙ length-append front (v ∷ rest) in
    let g : get_or gs (terms_before inputs p.0 + (p.1 - 1)) 0 ≡ v = ap₂ (λ (xs : List ℕ) (n : ℕ). get_or xs n 0) e k
    ∙ index_behind front v rest in (
      (omega arith, g),
      known_from b bytes inputs gs (front ++ v ∷ []) (at + 1) ps (e ∙ sym (push_front front v rest))
          (omega (arith, length-push front v)) h.1,
    )

known_filter : (b : Block) (bytes : List ℕ) (inputs : List Input) (gs : List ℕ) (test : ℕ × ℕ → Bool)
    (ps : List (ℕ × ℕ)) → AllKnown b bytes inputs gs ps
    → AllKnown b bytes inputs gs (filter test ps)
known_filter b bytes inputs gs test [] h = tt
known_filter b bytes inputs gs test (p ∷ ps) h = chosen (test p) (known_filter b bytes inputs gs test ps h.1)
  where
    chosen : (t : Bool) → AllKnown b bytes inputs gs (filter test ps)
        → AllKnown b bytes inputs gs (if t then p ∷ filter test ps else filter test ps)
    chosen true k = (h.0, k)
    chosen false k = k

-- the slots that are no terms of inputs: complements, and terms of outputs
abbrev pub complements_of : Block → List (ℕ × ℕ)
complements_of b = filter (λ p. is_complemented b.rules p.0 p.1) (input_terms b)

abbrev pub further_slots : Block → List Slot
further_slots b = map complement_slot (complements_of b) ++ map out_slot (output_terms b)

pub slots_are : (b : Block) → slots_of b ≡ map term_slot (input_terms b) ++ further_slots b
unfolding slots_of
slots_are b = refl

fill_outs : (b : Block) (bytes : List ℕ) (inputs : List Input) (gs : List ℕ) (os : List (ℕ × ℕ))
    → AllCanFill b bytes inputs gs (map out_slot os)
fill_outs b bytes inputs gs [] = tt
fill_outs b bytes inputs gs (o ∷ os) = (tt, fill_outs b bytes inputs gs os)

fill_slots : (b : Block) (bytes : List ℕ) (inputs : List Input) (gs : List ℕ) (ps os : List (ℕ × ℕ))
    → AllKnown b bytes inputs gs ps
    → AllCanFill b bytes inputs gs (map complement_slot ps ++ map out_slot os)
fill_slots b bytes inputs gs [] os h = fill_outs b bytes inputs gs os
fill_slots b bytes inputs gs (p ∷ ps) os h = (h.0, fill_slots b bytes inputs gs ps os h.1)

pub further_fill : (b : Block) (bytes : List ℕ) → length bytes ≡ length b.inputs
    → AllCanFill b bytes b.inputs (grades bytes b.inputs) (further_slots b)
further_fill b bytes h =
    let known =
    known_from b bytes b.inputs (grades bytes b.inputs) [] 0 (input_terms b) (grades_are b bytes h) refl
    (counted_from term_count b.inputs [] b.inputs 1 0 refl refl refl) in
    fill_slots b bytes b.inputs (grades bytes b.inputs) (complements_of b) (output_terms b)
    (known_filter b bytes b.inputs (grades bytes b.inputs) (λ p. is_complemented b.rules p.0 p.1)
    (input_terms b) known)

-- all values are the grades and then those of the further slots
pub before_are : (b : Block) (bytes : List ℕ) → length bytes ≡ length b.inputs
    → slots_before b bytes ≡ grades bytes b.inputs ++ map (slot_before b bytes) (further_slots b)
before_are b bytes h =
    ap (map (slot_before b bytes)) (slots_are b)
    ∙ map-append (slot_before b bytes) (map term_slot (input_terms b)) (further_slots b)
    ∙ ap (λ l. l ++ map (slot_before b bytes) (further_slots b))
    (map_map (slot_before b bytes) term_slot (input_terms b) ∙ sym (grades_are b bytes h))

-- counts
length-terms : (i : ℕ) (ns : List ℕ) → length (terms_from i ns) ≡ sum_by (λ n. n) ns
length-terms i [] = refl
length-terms i (n ∷ ns) =
    let of_term : ℕ → ℕ × ℕ = λ t. (i, t) in
    omega (
      arith,
      length-append (map (λ t. (i, t)) (range_with_len 1 n)) (terms_from (i + 1) ns),
      length-map (range_with_len 1 n) of_term,
      length-range_with_len 1 n,
      length-terms (i + 1) ns,
      sum_by-cons (λ k. k) n ns,
    )

sum_by-map : {X : Type 0} (f : X → ℕ) (xs : List X) → sum_by (λ n. n) (map f xs) ≡ sum_by f xs
sum_by-map f [] = refl
sum_by-map f (x ∷ xs) = omega (arith, sum_by-cons (λ k. k) (f x) (map f xs), sum_by-cons f x xs, sum_by-map f xs)

pub length-input_terms : (b : Block) → length (input_terms b) ≡ input_term_count b
length-input_terms b = length-terms 1 (map term_count b.inputs) ∙ sum_by-map term_count b.inputs

pub length-output_terms : (b : Block) → length (output_terms b) ≡ output_term_count b
length-output_terms b = length-terms 1 (map singleton_count b.outputs) ∙ sum_by-map singleton_count b.outputs

pub length-slots : (b : Block)
    → length (slots_of b) ≡ input_term_count b + length (complements_of b) + output_term_count b
length-slots b =
    ap length (slots_are b)
    ∙ omega (
      arith,
      length-append (map term_slot (input_terms b)) (further_slots b),
      length-append (map complement_slot (complements_of b)) (map out_slot (output_terms b)),
      length-map (input_terms b) term_slot,
      length-map (complements_of b) complement_slot,
      length-map (output_terms b) out_slot,
      length-input_terms b,
      length-output_terms b,
    )

count_outs : (os : List (ℕ × ℕ)) → fill_count (map out_slot os) ≡ length os
count_outs [] = refl
count_outs (o ∷ os) = omega (arith, count_outs os)

count_slots : (ps os : List (ℕ × ℕ))
    → fill_count (map complement_slot ps ++ map out_slot os) ≡ 3 * length ps + length os
count_slots [] os = omega (arith, count_outs os)
count_slots (p ∷ ps) os = omega (arith, count_slots ps os)

pub count_further : (b : Block) → fill_count (further_slots b) ≡ 3 * complement_count b + output_term_count b
count_further b = omega (arith, count_slots (complements_of b) (output_terms b), length-slots b, length-output_terms b)
