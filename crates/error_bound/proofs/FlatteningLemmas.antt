-- A flat condition reaches as far as the one that it is made of, and so do its parts, from the last on.
use Rattle.std.proofs.Common.{◌≡◌, ℕ, zero, suc, ◌+◌, ◌-◌, ◌<◌, ◌≤◌, Bool, true, false, List, [], ◌∷◌, ◌++◌, drop}
use Rattle.std.proofs.Common.{length, get_or, Option, Some, None, refl, sym, ap, ap₂, ◌∙◌, arith, subst}
use Rattle.std.proofs.{lemmas.List.at_drop_more, lemmas.List.at_drop_all, lemmas.List.drop_all}
use mathlib.Core.Bool.{beq}
use Rattle.std.specs.{Prelude.not, Prelude.◌==◌, Prelude.slice_get, Option.option_map_or}
use Rattle.fz_num.specs.Fractions.{IsProper, AtMost, one, none, one_minus}
use Rattle.fz_num.specs.Decimals.{distance}
use Rattle.fz_num.proofs.Algebra.{by_lesser}
use Rattle.fuzzy_meaning.specs.Conditions.{Condition, is, negation, all, any, Conditions, end, also, conditions, group}
use Rattle.fuzzy_meaning.specs.Conditions.{under, HasLiterals, SomeHaveLiterals, AllHaveLiterals, Joins, evaluate}
use Rattle.fuzzy_meaning.specs.{declared.block.Trapezoid.Trapezoid, Places.points_of, Places.rise_at, Places.fall_at}
use Rattle.fuzzy_meaning.specs.{Conditions.evaluate_parts, Conditions.levels, declared.block.Block.Block}
use Rattle.fuzzy_meaning.specs.{declared.block.Input.Input, Blocks.input_at, Blocks.HasTerm, Meaning.truths}
use Rattle.fuzzy_meaning.proofs.Algebra.{AllHaveLiterals-some, AreJoinsRelated, evaluate_pushed-related, IsDeMorgan}
use Rattle.fuzzy_meaning.proofs.Algebra.{turned, evaluate-good, evaluate_parts-good, evaluate_pushed-same}
use Rattle.byte_scaling.specs.Cells.{cell_start, cell_end}
use Rattle.point_slope.specs.Tables.{row_of, grade_of}
use Rattle.error_bound.specs.Boxes.{least_from, greatest_from, degrees_over, grades_over, at_literal, literal_span}
use Rattle.error_bound.specs.Flattening.{followed, parts, flats, flat_under, flat_parts, flat, IsSame, AreSame}
use Rattle.error_bound.specs.Spans.{Span, only, span, end_of, reversed, spans}
use Rattle.error_bound.specs.{Flattening.FlatteningKeepsReaches, declared.boxes.Interval.Interval, Places.rise_end}
use Rattle.error_bound.specs.{Ratios.value_of, Ratios.IsDegreeRatio, Reaches.IsEndOfCondition, Boxes.literal_byte_span}
use Rattle.error_bound.specs.declared.{ends.End.End, ends.Side.Side}
use Rattle.error_bound.specs.declared.ends.Side.TheVariants.{Low, High}
use Rattle.error_bound.proofs.SpanLemmas.{IsGrouping, AreGood, IsDegree, nothing_degree, spans_de_morgan}
use Rattle.error_bound.proofs.SpanLemmas.{spans_grouping, truths_de_morgan, truths_grouping, levels_de_morgan}
use Rattle.error_bound.proofs.SpanLemmas.{levels_grouping, errors_de_morgan, errors_grouping}
use Rattle.error_bound.proofs.{CellErrors.low_proper, CellErrors.high_proper, ListLemmas.drop_back, Literals.grade-le}
use Rattle.error_bound.proofs.Sides.{rise_all, fall_all, end_all}

-- ---- the code's lists

followed-end : (cs : Conditions) → followed cs end ≡ cs
followed-end end = refl
followed-end (also c cs) = ap (also c) (followed-end cs)

followed-followed : (bs cs ds : Conditions) → followed (followed bs cs) ds ≡ followed bs (followed cs ds)
followed-followed end cs ds = refl
followed-followed (also b bs) cs ds = ap (also b) (followed-followed bs cs ds)

-- a part behind others
pub pushed : (old new : List Condition) (l c : Condition) → new ≡ old ++ l ∷ [] → l ≡ c
    → conditions new ≡ followed (conditions old) (also c end)
pushed old new l c made named = ap conditions made ∙ behind old ∙ ap (λ x. followed (conditions old) (also x end)) named
  where
    behind : (cs : List Condition) → conditions (cs ++ l ∷ []) ≡ followed (conditions cs) (also l end)
    behind [] = refl
    behind (d ∷ cs) = ap (also d) (behind cs)

parts-group : (or : Bool) (cs : Conditions) → parts or (group or cs) ≡ cs
parts-group true cs = refl
parts-group false cs = refl

-- a group of the other kind is one part
parts-other : (or kind : Bool) (cs : Conditions) → beq kind or ≡ false
    → parts or (group kind cs) ≡ also (group kind cs) end
parts-other true true cs h = absurd (let z : ⊥ = cc in z)
parts-other true false cs h = refl
parts-other false true cs h = refl
parts-other false false cs h = absurd (let z : ⊥ = cc in z)

group-parts : (odd or : Bool) (cs : Conditions) → group or (parts or (flat_parts odd or cs)) ≡ flat_parts odd or cs
group-parts odd or end = ap (group or) (parts-group or end)
group-parts odd or (also c cs) = ap (group or) (parts-group or _)

pub pushed_group : (or kind odd : Bool) (cs : Conditions) (old new inner : List Condition) (g : Condition)
    → beq kind or ≡ false → new ≡ old ++ g ∷ [] → g ≡ group kind (conditions inner)
    → conditions inner ≡ parts kind (flat_parts odd kind cs)
    → conditions new ≡ followed (conditions old) (parts or (flat_parts odd kind cs))
pushed_group or kind odd cs old new inner g apart made named come =
    let whole = group-parts odd kind cs in
    pushed old new g (flat_parts odd kind cs) made (named ∙ ap (group kind) come ∙ whole)
    ∙ ap (followed (conditions old))
    (ap (λ c. also c end) (sym whole) ∙ sym (parts-other or kind (parts kind (flat_parts odd kind cs)) apart)
    ∙ ap (parts or) whole)

pub pushed_literal : (or odd : Bool) (old new : List Condition) (l cond : Condition) (i t : ℕ) → new ≡ old ++ l ∷ []
    → l ≡ under odd (is i t) → cond ≡ is i t
    → conditions new ≡ followed (conditions old) (parts or (flat_under odd cond))
pushed_literal or odd old new l cond i t made named at =
    pushed old new l (under odd (is i t)) made named
    ∙ ap (followed (conditions old)) (one odd ∙ ap (λ c. parts or (flat_under odd c)) (sym at))
  where
    one : (odd : Bool) → also (under odd (is i t)) end ≡ parts or (under odd (is i t))
    one true = refl
    one false = refl

-- the parts that those from a place on come to
abbrev pub come_from : Bool → Bool → List Condition → ℕ → Conditions
come_from or odd ps k = parts or (flat_parts odd or (conditions (drop k ps)))

pub come_from_more : (or odd : Bool) (ps : List Condition) (k : ℕ) (p : Condition) (now new whole : Conditions)
    → k < length ps → p ≡ get_or ps k p → followed now (come_from or odd ps k) ≡ whole
    → new ≡ followed now (parts or (flat_under odd p)) → followed new (come_from or odd ps (k + 1)) ≡ whole
come_from_more or odd ps k p now new whole lt at before made =
    let rest = come_from or odd ps (k + 1) in
    let here : come_from or odd ps k ≡ followed (parts or (flat_under odd p)) rest =
    at_drop_more (λ l. parts or (flat_parts odd or (conditions l))) ps k p lt ∙ parts-group or _
    ∙ ap (λ c. followed (parts or (flat_under odd c)) rest) (sym at) in
    ap (λ x. followed x rest) made ∙ followed-followed now _ rest ∙ ap (followed now) (sym here) ∙ before

pub come_from_all : (or odd : Bool) (ps : List Condition) (k : ℕ) (now whole : Conditions) → length ps ≤ k
    → followed now (come_from or odd ps k) ≡ whole → now ≡ whole
come_from_all or odd ps k now whole le before =
    sym (ap (followed now)
    (at_drop_all (λ l. parts or (flat_parts odd or (conditions l))) ps k le ∙ parts-group or end)
    ∙ followed-end now) ∙ before

-- ---- terms

module _ (P : ℕ → ℕ → Type 0) where
  all_followed : (cs ds : Conditions) → AllHaveLiterals P cs → AllHaveLiterals P ds → AllHaveLiterals P (followed cs ds)
  all_followed end ds h k = k
  all_followed (also c cs) ds h k = (h.0, all_followed cs ds h.1 k)

  some_followed : (cs ds : Conditions) → SomeHaveLiterals P cs → AllHaveLiterals P ds
      → SomeHaveLiterals P (followed cs ds)
  some_followed end ds h k = absurd h
  some_followed (also c cs) ds h k = (h.0, all_followed cs ds h.1 k)

  in_parts : (or : Bool) (c : Condition) → HasLiterals P c → SomeHaveLiterals P (parts or c)
  in_parts or (is i t) h = (h, tt)
  in_parts or (negation c) h = (h, tt)
  in_parts true (all cs) h = (h, tt)
  in_parts false (all cs) h = h
  in_parts true (any cs) h = h
  in_parts false (any cs) h = (h, tt)

  in_join : (or : Bool) (c d : Condition) → HasLiterals P c → AllHaveLiterals P (parts or d)
      → HasLiterals P (flats.join or c d)
  in_join true c d h k = some_followed _ _ (in_parts true c h) k
  in_join false c d h k = some_followed _ _ (in_parts false c h) k

  no_parts : (or : Bool) → AllHaveLiterals P (parts or (group or end))
  no_parts true = tt
  no_parts false = tt

  mutual
    in_flat : (odd : Bool) (c : Condition) → HasLiterals P c → HasLiterals P (flat_under odd c)
    in_flat true (is i t) h = h
    in_flat false (is i t) h = h
    in_flat odd (negation c) h = in_flat (not odd) c h
    in_flat odd (all cs) h = some_in_flat odd odd cs h
    in_flat odd (any cs) h = some_in_flat odd (not odd) cs h

    some_in_flat : (odd or : Bool) (cs : Conditions) → SomeHaveLiterals P cs → HasLiterals P (flat_parts odd or cs)
    some_in_flat odd or end h = absurd h
    some_in_flat odd or (also c cs) h =
        in_join or _ _ (in_flat odd c h.0) (all_in_flat odd or cs h.1)

    all_in_flat : (odd or : Bool) (cs : Conditions) → AllHaveLiterals P cs
        → AllHaveLiterals P (parts or (flat_parts odd or cs))
    all_in_flat odd or end h = no_parts or
    all_in_flat odd or (also c cs) h = AllHaveLiterals-some P _
        (in_parts or _ (in_join or _ _ (in_flat odd c h.0) (all_in_flat odd or cs h.1)))

-- ---- values

module _ {A : Type 0} {Good : A → Type 0} {Same : A → A → Type 0} {minus : A → A} {j : Joins A}
    (m : IsDeMorgan Good Same minus j) (g : IsGrouping Good Same j) {v : ℕ → ℕ → A} (literal : (i t : ℕ) → Good (v i t))
  where
    abbrev value : Condition → A
    value = evaluate minus j v

    abbrev values : Bool → Conditions → A
    values = evaluate_parts minus j v

    good : (c : Condition) → Good (value c)
    good = evaluate-good m literal

    all_good : (or : Bool) (cs : Conditions) → Good (values or cs)
    all_good = evaluate_parts-good m literal

    one_same : (or : Bool) (c : Condition) → Same (values or (also c end)) (value c)
    one_same or c = g.join_none or _ (good c)

    parts_same : (or : Bool) (c : Condition) → Same (values or (parts or c)) (value c)
    parts_same or (is i t) = one_same or (is i t)
    parts_same or (negation c) = one_same or (negation c)
    parts_same true (all cs) = one_same true (all cs)
    parts_same false (all cs) = m.alike _ (all_good false cs)
    parts_same true (any cs) = m.alike _ (all_good true cs)
    parts_same false (any cs) = one_same false (any cs)

    followed_same : (or : Bool) (cs ds : Conditions)
        → Same (values or (followed cs ds)) (j.join or (values or cs) (values or ds))
    followed_same or end ds = g.none_join or _ (all_good or ds)
    followed_same or (also c cs) ds =
        m.trans _ _ _ (m.join_same or _ _ _ _ (m.alike _ (good c)) (followed_same or cs ds))
        (g.join_join or _ _ _ (good c) (all_good or cs) (all_good or ds))

    group_same : (or : Bool) (cs : Conditions) (a : A) → Same (values or cs) a → Same (value (group or cs)) a
    group_same true cs a h = h
    group_same false cs a h = h

    flats_related : AreJoinsRelated (λ c a. Same (value c) a) flats j
    flats_related = record {
      none = λ or. group_same or end _ (m.alike _ (m.good_none or));
      join = λ or c d a b h k. group_same or (followed (parts or c) (parts or d)) _
          (m.trans _ _ _ (followed_same or (parts or c) (parts or d))
          (m.join_same or _ _ _ _ (m.trans _ _ _ (parts_same or c) h) (m.trans _ _ _ (parts_same or d) k)));
    }

    under_same : (odd : Bool) (i t : ℕ) → Same (value (under odd (is i t))) (turned minus odd (v i t))
    under_same true i t = m.alike _ (m.good_minus _ (literal i t))
    under_same false i t = m.alike _ (literal i t)

    flat_same : (c : Condition) → Same (value (flat c)) (value c)
    flat_same c = m.trans _ _ _ (parts_same false (flat_under false c))
        (m.trans _ _ _ (evaluate_pushed-related (λ d a. Same (value d) a) flats_related under_same false c)
        (evaluate_pushed-same m literal false c))

-- ---- the literals of a box

degrees_good : (x : Input) (t : Trapezoid) (v : Interval) → AreGood IsDegree (degrees_over x t v)
degrees_good x t v =
    let k = points_of x t in
    let w = distance x.lo x.hi in
    let s = cell_start w v.from in
    let e = cell_end w v.to in
    let c = v.to == 255 in
    let ps : IsProper s = record { pos = omega arith } in
    let pe : IsProper e = record { pos = omega arith } in
    record {
      low = record {
        proper = low_proper k s e ps pe;
        to_one = by_lesser (λ h. AtMost h one) (rise_at k.a k.b s) (fall_at k.c k.d e) (λ _. rise_all k.a k.b s)
            (λ _. fall_all k.c k.d e);
      };
      high = record {
        proper = high_proper k s e c ps pe;
        to_one = by_lesser (λ h. AtMost h one) (rise_end c k.a k.b e) (fall_at k.c k.d s) (λ _. end_all c k.a k.b e)
            (λ _. fall_all k.c k.d s);
      };
    }

least_small : (g : ℕ → ℕ) (p n : ℕ) → ((k : ℕ) → g k ≤ 255) → least_from g p n ≤ 255
least_small g p zero h = h p
least_small g p (suc n) h = let l = least_small g p n h in omega arith

greatest_small : (g : ℕ → ℕ) (p n : ℕ) → ((k : ℕ) → g k ≤ 255) → greatest_from g p n ≤ 255
greatest_small g p zero h = h p
greatest_small g p (suc n) h = let l = greatest_small g p n h in let k = h (p + suc n) in omega arith

grades_good : (x : Input) (t : Trapezoid) (v : Interval) → AreGood (λ n. n ≤ 255) (grades_over x t v)
grades_good x t v =
    let row = row_of x t in
    record {
      low = least_small (grade_of row) v.from (v.to - v.from) (grade-le row);
      high = greatest_small (grade_of row) v.from (v.to - v.from) (grade-le row);
    }

module _ (b : Block) (box : List Interval) where
  mapped : {A B : Type 0} (P : B → Type 0) (f : A → B) (z : B) → P z → ((x : A) → P (f x)) → (o : Option A)
      → P (option_map_or f o z)
  mapped P f z hz hf None = hz
  mapped P f z hz hf (Some x) = hf x

  -- what holds for each term over each interval
  pub at_literal-holds : {A : Type 0} (P : A → Type 0) (f : Input → Trapezoid → Interval → A) (z : A) → P z
      → ((x : Input) (term : Trapezoid) (v : Interval) → P (f x term v)) → (i t : ℕ) → P (at_literal f z b box i t)
  at_literal-holds P f z hz hf i t =
      mapped P _ z hz (λ x. mapped P _ z hz (λ term. mapped P _ z hz (hf x term) (slice_get box (i - 1)))
      (slice_get x.terms (t - 1))) (input_at b i)

  literal_good : (i t : ℕ) → AreGood IsDegree (literal_span b box i t)
  literal_good =
      let d = nothing_degree true in
      at_literal-holds (AreGood IsDegree) degrees_over (only none) (record { low = d; high = d }) degrees_good

  literal_to_255 : (i t : ℕ) → AreGood (λ n. n ≤ 255) (literal_byte_span b box i t)
  literal_to_255 = at_literal-holds (AreGood (λ n. n ≤ 255)) grades_over (only 0)
      (record { low = omega arith; high = omega arith }) grades_good

  pub span_good : (c : Condition) → AreGood IsDegree (span (literal_span b box) c)
  span_good = evaluate-good (spans_de_morgan truths_de_morgan) literal_good

  pub span_to_itself : (c : Condition) → AreSame IsSame (span (literal_span b box) c) (span (literal_span b box) c)
  span_to_itself c = let m = spans_de_morgan truths_de_morgan in m.alike _ (span_good c)

spans_are : {s r : Span ℕ} → AreSame (λ m n. m ≡ n) s r → s ≡ r
spans_are h = ap₂ (λ m n. let s : Span ℕ = record { low = m; high = n } in s) h.low h.high

pub reaches_kept : FlatteningKeepsReaches
reaches_kept b c = record {
  valid = λ h. in_parts (HasTerm b) false (flat_under false c) (in_flat (HasTerm b) false c h);
  spans = λ box. flat_same (spans_de_morgan truths_de_morgan) (spans_grouping truths_grouping) (literal_good b box) c;
  byte_spans = λ box. spans_are (flat_same (spans_de_morgan levels_de_morgan) (spans_grouping levels_grouping)
      (literal_to_255 b box) c);
  errors = λ e. spans_are (flat_same (spans_de_morgan errors_de_morgan) (spans_grouping errors_grouping)
      (λ i t. record { low = tt; high = tt }) c);
}

-- ---- the ends of the reaches of the parts of an AND or OR, from the last on

-- ---- ends of spans

module _ {A : Type 0} (minus : A → A) (j : Joins A) (s : ℕ → ℕ → Span A) where
  abbrev reach : Side → Condition → A
  reach side c = end_of side (evaluate (reversed minus) (spans j) s c)

  pub reach-also : (side : Side) (or : Bool) (c : Condition) (cs : Conditions)
      → reach side (group or (also c cs)) ≡ j.join or (reach side c) (reach side (group or cs))
  reach-also High true c cs = refl
  reach-also High false c cs = refl
  reach-also Low true c cs = refl
  reach-also Low false c cs = refl

  pub reach-end : (side : Side) (or : Bool) → reach side (group or end) ≡ j.none or
  reach-end High true = refl
  reach-end High false = refl
  reach-end Low true = refl
  reach-end Low false = refl

-- ---- of conditions

-- the conditions from a place on: that of the place, and those behind
pub from_place : (parts : List Condition) (k : ℕ) (part : Condition) → 1 ≤ k → k ≤ length parts
    → part ≡ get_or parts (k - 1) part → conditions (drop (k - 1) parts) ≡ also part (conditions (drop k parts))
from_place parts k part from to here_is = ap conditions (drop_back parts k part part from to here_is)

pub end_from : {b : Block} {box : List Interval} (or : Bool) {side : Side} (parts : List Condition) {k : ℕ}
    {part : Condition} {p r s : End} → 1 ≤ k → k ≤ length parts → part ≡ get_or parts (k - 1) part
    → IsEndOfCondition b box part side p
    → IsEndOfCondition b box (group or (conditions (drop k parts))) side r
    → value_of s.truth ≡ truths.join or (value_of p.truth) (value_of r.truth)
    → s.byte ≡ (levels 255).join or p.byte r.byte → IsDegreeRatio s.truth
    → IsEndOfCondition b box (group or (conditions (drop (k - 1) parts))) side s
end_from {b} {box} or {side} parts {k} {part} {p} {r} {s} from to here_is hp hr value byte small =
    let cs = conditions (drop k parts) in
    subst (λ ds. IsEndOfCondition b box (group or ds) side s) (sym (from_place parts k part from to here_is)) (record {
      value = value ∙ ap₂ (truths.join or) hp.value hr.value
          ∙ sym (reach-also one_minus truths (literal_span b box) side or part cs);
      byte = byte ∙ ap₂ ((levels 255).join or) hp.byte hr.byte
          ∙ sym (reach-also (λ n. 255 - n) (levels 255) (literal_byte_span b box) side or part cs);
      small = small;
    })

pub end_from_none : {b : Block} {box : List Interval} (or : Bool) {side : Side} (parts : List Condition) {r : End}
    → value_of r.truth ≡ truths.none or → r.byte ≡ (levels 255).none or → IsDegreeRatio r.truth
    → IsEndOfCondition b box (group or (conditions (drop (length parts) parts))) side r
end_from_none {b} {box} or {side} parts {r} value byte small =
    subst (λ ps. IsEndOfCondition b box (group or (conditions ps)) side r)
    (sym (drop_all (length parts) parts (omega arith))) (record {
      value = value ∙ sym (reach-end one_minus truths (literal_span b box) side or);
      byte = byte ∙ sym (reach-end (λ n. 255 - n) (levels 255) (literal_byte_span b box) side or);
      small = small;
    })
