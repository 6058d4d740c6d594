-- What a table has of literals and rules, and the rows of its terms.
use Rattle.std.proofs.Common.{◌≡◌, ℕ, ◌+◌, ◌-◌, ◌*◌, ◌/◌, ◌<◌, ◌≤◌, List, length, get_or, Some}
use Rattle.std.proofs.Common.{refl, [], None, sym, ap, ◌∙◌, subst, arith, ⊎_elim, zero, suc, ◌∷◌, ap₂}
use Rattle.std.proofs.{lemmas.Option.get_or_from_slice_get, lemmas.Option.slice_get_within}
use Rattle.std.proofs.lemmas.Bool.{cases_eq, cases_lt}
use Rattle.std.proofs.lemmas.List.{get_or-replicate, get_or_past, length-replicate}
use Rattle.std.proofs.Common.{replicate, false}
use Rattle.std.specs.Prelude.{slice_get, pos, slice_set, Option, IfSome}
use Rattle.std.specs.Global.{Vec}
use Rattle.fz_num.specs.Fractions.{Fraction, times}
use Rattle.fuzzy_meaning.specs.{declared.block.Trapezoid.Trapezoid, declared.block.Block.Block, Conditions.Condition}
use Rattle.fuzzy_meaning.specs.{declared.block.Input.Input, declared.block.Rule.Rule, Blocks.HasTerm, Blocks.input_at}
use Rattle.fuzzy_meaning.specs.Meaning.{weight_of}
use Rattle.byte_scaling.specs.Weights.{weight_byte_of}
use Rattle.fz_list.proofs.Algebra.{IsSomeAnd-some, IsSomeAnd-within, some_at, slice_get-set_same}
use Rattle.error_bound.specs.Reaches.{AreTermCells, AreInputCells, AreRows, IsReachOfTerm, IsReachOfLiteral}
use Rattle.error_bound.specs.Boxes.{literal_span, literal_byte_span, rule_span, rule_byte_span}
use Rattle.error_bound.specs.Reaches.{IsEndOfCondition, IsEndOfRule, AreInputReaches, AreRuleLiterals, AreLiteralsOf}
use Rattle.error_bound.specs.declared.reaches.Literal.{Literal}
use Rattle.error_bound.specs.{Flattening.IsSame, Flattening.AreSame, Flattening.ReachesAlike, declared.ends.End.End}
use Rattle.error_bound.specs.{declared.tables.InputCells.InputCells, declared.cells.TermCells.TermCells}
use Rattle.error_bound.specs.{Spans.Span, Spans.span, Spans.byte_span, Spans.end_of, declared.ends.Side.Side}
use Rattle.error_bound.specs.declared.ends.Side.TheVariants.{Low, High}
use Rattle.error_bound.specs.{declared.boxes.Interval.Interval, declared.reaches.Reach.Reach, declared.tables.Row.Row}
use Rattle.error_bound.specs.Ratios.{value_of, IsStrengthRatio}
use Rattle.error_bound.proofs.{FlatteningLemmas.span_to_itself, RuleLemmas.times_same}

abbrev pub no_term : Trapezoid
no_term = record { a = None; b = record { 0 = pos 0 }; c = record { 0 = pos 0 }; d = None }

abbrev pub no_cells : TermCells
no_cells = record { grades = []; rises = []; falls = [] }

-- what the cells of an input have of a term
pub term_cells_at : (x : Input) (v : Interval) (cells : InputCells) (t : ℕ) (term : Trapezoid) (otherwise : TermCells)
    → AreInputCells x v cells → slice_get x.terms t ≡ Some term
    → AreTermCells x term v (get_or cells.terms t otherwise)
term_cells_at x v cells t term otherwise each e =
    let q = each t term e in
    subst (AreTermCells x term v) (sym (get_or_from_slice_get cells.terms t q.0 otherwise q.1)) q.2

as_literal : (b : Block) (box : List Interval) (i t : ℕ) (x : Input) (term : Trapezoid) (v : Interval) (r : Reach)
    → input_at b i ≡ Some x → slice_get x.terms (t - 1) ≡ Some term → slice_get box (i - 1) ≡ Some v
    → IsReachOfTerm x term v r → IsReachOfLiteral b box i t r
as_literal b box i t x term v r ex et ev h =
    record {
      value = rw (ex, et, ev) h.value;
      bytes = rw (ex, et, ev) h.bytes;
      deviation = rw (ex, et, ev) h.deviation;
      small = h.small;
      masses = h.masses;
    }

pub literal_reach : (b : Block) (box : List Interval) (rows : List Row) (i t : ℕ) (row : Row) (reach : Reach)
    → HasTerm b i t → length box ≡ length b.inputs → AreRows b box rows
    → (r : Reach) × (get_or (get_or rows (i - 1) row).reaches (t - 1) reach ≡ r) × IsReachOfLiteral b box i t r
literal_reach b box rows i t row reach has count each =
    let x = some_at b.inputs (i - 1) (IsSomeAnd-within (λ x. t ≤ length x.terms) b.inputs (i - 1) has.term_to) in
    let few = IsSomeAnd-some (λ x. t ≤ length x.terms) (input_at b i) x.0 x.1 has.term_to in
    let from = has.term_from in
    let in_inputs : i - 1 < length b.inputs = IsSomeAnd-within (λ x. t ≤ length x.terms) b.inputs (i - 1) has.term_to in
    let term = some_at x.0.terms (t - 1) (omega arith) in
    let v = some_at box (i - 1) (omega arith) in
    let found = each (i - 1) x.0 x.1 in
    let here = found.2 v.0 v.1 (t - 1) term.0 term.1 in (
      here.0,
      ap (λ (w : Row). get_or w.reaches (t - 1) reach) (get_or_from_slice_get rows (i - 1) found.0 row found.1)
          ∙ get_or_from_slice_get found.0.reaches (t - 1) here.0 reach here.1,
      as_literal b box i t x.0 term.0 v.0 here.0 x.1 term.1 v.1 here.2,
    )

-- ---- what is kept of rules

-- the literals that are read at a rule's place
pub kept_literals : (b : Block) (r : Rule) (lists : List (Option (Vec Literal))) (k : ℕ) (o : Option (Vec Literal))
    (v : Vec Literal) → AreRuleLiterals b lists → slice_get b.rules k ≡ Some r → o ≡ get_or lists k o → o ≡ Some v
    → AreLiteralsOf b r v.items
kept_literals b r lists k o v each found read is =
    let q = each k r found in
    let same : q.0 ≡ Some v = sym (get_or_from_slice_get lists k q.0 o q.1) ∙ sym read ∙ is in
    subst (λ p. IfSome p (λ w. AreLiteralsOf b r w.items)) same q.2

-- of a rule by a condition that reaches as far as its own
same_ends : (side : Side) (s r : Span Fraction) → AreSame IsSame s r → IsSame (end_of side s) (end_of side r)
same_ends High s r h = h.high
same_ends Low s r h = h.low

end_of_rule_span : (b : Block) (box : List Interval) (r : Rule) (side : Side)
    → end_of side (rule_span b box r) ≡ times (end_of side (span (literal_span b box) r.cond))
    (weight_of r.weight)
end_of_rule_span b box r High = refl
end_of_rule_span b box r Low = refl

end_of_rule_bytes : (b : Block) (box : List Interval) (r : Rule) (side : Side)
    → end_of side (rule_byte_span b box r) ≡ end_of side
    (byte_span (literal_byte_span b box) r.cond) * (weight_byte_of r.weight + 1) / 256
end_of_rule_bytes b box r High = refl
end_of_rule_bytes b box r Low = refl

pub end_weighted : (b : Block) (box : List Interval) (r : Rule) (side : Side) (d : Condition) (e f : End) (w : ℕ)
    → ReachesAlike b r.cond d
    → IsEndOfCondition b box d side e → w ≡ weight_of r.weight → value_of f.truth ≡ times (value_of e.truth) w
    → f.byte ≡ e.byte * (weight_byte_of r.weight + 1) / 256 → IsStrengthRatio f.truth
    → IsEndOfRule b box r side f
end_weighted b box r side d e f w alike h weight value byte small =
    let s = span (literal_span b box) r.cond in
    let s' = span (literal_span b box) d in
    let same : IsSame (value_of e.truth) (end_of side s) =
    subst (λ x. IsSame x (end_of side s)) (sym h.value) (same_ends side s' s (alike.spans box)) in
    let scaled : IsSame (times (value_of e.truth) w) (times (end_of side s) (weight_of r.weight)) =
    subst (λ v. IsSame (times (value_of e.truth) v) (times (end_of side s) (weight_of r.weight))) (sym weight)
    (times_same (value_of e.truth) (end_of side s) (weight_of r.weight) same) in
    record {
      value = subst (λ x. IsSame x (end_of side (rule_span b box r))) (sym value)
          (subst (λ x. IsSame (times (value_of e.truth) w) x) (sym (end_of_rule_span b box r side)) scaled);
      byte = byte ∙ ap (λ n. n * (weight_byte_of r.weight + 1) / 256)
          (h.byte ∙ ap (end_of side) (alike.byte_spans box)) ∙ sym (end_of_rule_bytes b box r side);
      small = small;
    }

pub reaches_alike_itself : (b : Block) (c : Condition) → ReachesAlike b c c
reaches_alike_itself b c = record {
  valid = λ v. v;
  spans = λ box. span_to_itself b box c;
  byte_spans = λ box. refl;
  errors = λ e. refl;
}

-- ---- the rows of a box's terms, as one interval after the other is exchanged

-- ---- lists by their places

slice_get-set_apart : {X : Type 0} (xs : List X) (i j : ℕ) (x : X) → (j ≡ i → ⊥)
    → slice_get (slice_set xs i x) j ≡ slice_get xs j
slice_get-set_apart [] i j x apart = refl
slice_get-set_apart (y ∷ xs) zero zero x apart = absurd (apart refl)
slice_get-set_apart (y ∷ xs) zero (suc j) x apart = refl
slice_get-set_apart (y ∷ xs) (suc i) zero x apart = refl
slice_get-set_apart (y ∷ xs) (suc i) (suc j) x apart = slice_get-set_apart xs i j x (λ e. apart (ap suc e))

-- two lists have the same at their first n places
abbrev pub AreAlikeBefore : {X : Type 0} → List X → List X → ℕ → Type 0
AreAlikeBefore xs ys n = (j : ℕ) → j < n → slice_get xs j ≡ slice_get ys j

pub AreAlikeBefore-next : {X : Type 0} (xs ys : List X) (n : ℕ) → AreAlikeBefore xs ys n
    → slice_get xs n ≡ slice_get ys n → AreAlikeBefore xs ys (n + 1)
AreAlikeBefore-next xs ys n before here j lt = ⊎_elim
    (λ (l : j < n). before j l)
    (λ (l : n ≤ j). let same : n ≡ j = omega arith in subst (λ k. slice_get xs k ≡ slice_get ys k) same here)
    (cases_lt j n)

pub AreAlikeBefore-set : {X : Type 0} (xs ys : List X) (n : ℕ) (x : X) → AreAlikeBefore xs ys n
    → AreAlikeBefore (slice_set xs n x) ys n
AreAlikeBefore-set xs ys n x before j lt =
    slice_get-set_apart xs n j x (λ e. absurd (omega arith)) ∙ before j lt

pub alike_all : {X : Type 0} (xs ys : List X) → length xs ≡ length ys → AreAlikeBefore xs ys (length xs) → xs ≡ ys
alike_all [] [] count alike = refl
alike_all [] (y ∷ ys) count alike = absurd (omega arith)
alike_all (x ∷ xs) [] count alike = absurd (omega arith)
alike_all (x ∷ xs) (y ∷ ys) count alike =
    let first : Some x ≡ Some y = alike 0 (omega arith) in
    let same : x ≡ y = cc in
    ap₂ (λ z zs. z ∷ zs) same (alike_all xs ys (omega arith) (λ j lt. alike (suc j) (omega arith)))

-- ---- rows

module _ (b : Block) (box new_box : List Interval) (rows new_rows : List Row) (i : ℕ) (x : Input) (v : Interval)
    (row : Row) (count : length box ≡ length b.inputs) (before : AreRows b box rows)
    (input : slice_get b.inputs i ≡ Some x) (made : AreInputReaches x v row.reaches)
    (bytes_are : new_box ≡ slice_set box i v) (rows_are : new_rows ≡ slice_set rows i row) where
  abbrev HasRow : ℕ → Input → Type 0
  HasRow k y = (r : Row) × (slice_get new_rows k ≡ Some r)
      × ((u : Interval) → slice_get new_box k ≡ Some u → AreInputReaches y u r.reaches)

  here : HasRow i x
  here =
      let q = before i x input in
      let inside = slice_get_within b.inputs i x input in
      let there : slice_get new_box i ≡ Some v = ap (λ vs. slice_get vs i) bytes_are
      ∙ slice_get-set_same box i v (omega arith) in (
        row,
        ap (λ rs. slice_get rs i) rows_are ∙ slice_get-set_same rows i row (slice_get_within rows i q.0 q.1),
        λ u e. let same : v ≡ u = cc in subst (λ w. AreInputReaches x w row.reaches) same made,
      )

  elsewhere : (k : ℕ) (y : Input) → slice_get b.inputs k ≡ Some y → (k ≡ i → ⊥) → HasRow k y
  elsewhere k y e apart =
      let q = before k y e in (
        q.0,
        ap (λ rs. slice_get rs k) rows_are ∙ slice_get-set_apart rows i k row apart ∙ q.1,
        λ u eu. q.2 u (sym (slice_get-set_apart box i k v apart)
            ∙ ap (λ vs. slice_get vs k) (sym bytes_are) ∙ eu),
      )

  pub AreRows-moved : AreRows b new_box new_rows
  AreRows-moved k y e = ⊎_elim
      (λ (same : k ≡ i). let input_same : x ≡ y = cc in
      subst (λ z. HasRow k z) input_same (subst (λ j. HasRow j x) (sym same) here))
      (λ (apart : k ≡ i → ⊥). elsewhere k y e apart)
      (cases_eq k i)

-- no rule is marked in what is false throughout
pub unmarked : (k n : ℕ) → get_or (replicate k false) n false ≡ false
unmarked k n =
    ⊎_elim
    (λ (few : n < k). get_or-replicate k n false false few)
    (λ (past : k ≤ n). get_or_past (replicate k false) n false (let l = length-replicate k false in omega arith))
    (cases_lt n k)
