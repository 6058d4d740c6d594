-- The block of a tree without load faults is valid, where it is not too deep and not too large: as it is
-- where a text spells the tree.
use Rattle.fcl_check.proofs.Words.{[], ◌&&◌, ◌-◌, ◌<ℤ◌, ◌||◌, ◌∙◌, ◌∷◌, ◌≡◌, ◌≤ℤ◌, ◌≤◌, abscissa_of, abscissas}
use Rattle.fcl_check.proofs.Words.{All-from_recursion, AllByRecursion, AllZip, ap, arith, as_defuzzify, as_fuzzify}
use Rattle.fcl_check.proofs.Words.{at_each, at_if, at_some, bad_fuzzy_range, Block, block_text, Bool}
use Rattle.fcl_check.proofs.Words.{bytes_eq-Decides, cases_Bool, Conclusion, conclusion_of, conclusions_of}
use Rattle.fcl_check.proofs.Words.{cons_option, Dec, declared_as, declared_in, default_line, default_number}
use Rattle.fcl_check.proofs.Words.{default_of, Defuzzify, defuzzy_range, DefuzzyLine, Direction, direction}
use Rattle.fcl_check.proofs.Words.{drop_while, empty_range, Ends, ends_of, fallback_number, FallbackValue, falling_in}
use Rattle.fcl_check.proofs.Words.{false, filter, filter_map, first, first_fault, flat_map, FunctionBlock, Fuzzify}
use Rattle.fcl_check.proofs.Words.{fuzzy_range, given_or, has_one, has_shape, has_zero, HasTerm, hull_of, incomplete}
use Rattle.fcl_check.proofs.Words.{inl, inr, int_lt, ints, is_declared_as, is_empty_range, is_none, is_whole}
use Rattle.fcl_check.proofs.Words.{IsBlockOf, IsClean, IsInputNamed, IsInputOf, IsInScale, IsKnown, IsOutputNamed}
use Rattle.fcl_check.proofs.Words.{IsOutputOf, IsRuleOf, IsTermOf, IsVariableNamed, IsWellFormedRule, last, length}
use Rattle.fcl_check.proofs.Words.{length-map, letters, lies_in, List, list_all, literal_of, map, Name, None, not}
use Rattle.fcl_check.proofs.Words.{number_in, number_line, number_of, offsets, OffsetsAscend, Option, option_and_then}
use Rattle.fcl_check.proofs.Words.{option_map, or_zero, output_hull, output_numbers, outside_in, Pair, Part, Point}
use Rattle.fcl_check.proofs.Words.{points_of, pos, Range, refl, Rule, rule_size, RuleNode, section_of, SignedNumber}
use Rattle.fcl_check.proofs.Words.{Singleton, singleton_names, singleton_of, singletons_of, Some}
use Rattle.fcl_check.proofs.Words.{SpelledBlocksAreValid, str_to_ascii_lowercase, subst, suc, sum_by, Sym, sym}
use Rattle.fcl_check.proofs.Words.{take_while, take_while-cons, Term, term_names, term_number, terms_of}
use Rattle.fcl_check.proofs.Words.{terms_over_limit, Trapezoid, true, value, variable_number, view, Weight, widened}
use Rattle.fcl_check.proofs.Words.{without_section, x_of, ℕ, ℤ}
use Rattle.fuzzy_meaning.specs.Blocks.{IsValidTerm, IsValidInput, IsValidOutput, IsWithin, HasSingleton, IsValidRule}
use Rattle.fuzzy_meaning.specs.Blocks.{IsWeight, IsValid}
use Rattle.std.proofs.{lemmas.Slice.Zip.AllZip-long}
use Rattle.std.specs.{Prelude.IfSome, Prelude.IsSomeAnd}
use Rattle.fuzzy_meaning.specs.{declared.block.Input.Input, declared.block.Output.Output}
use Rattle.fcl_syntax.specs.{declared.tree.Fallback.Fallback, Text.IsSpelled}
use Rattle.fcl_check.specs.{Sections.outside, Faults.has_direction}
use Rattle.std.proofs.Math.Logic.{∥∥₁_elim}
use Rattle.std.specs.List.{slice_get}
use Rattle.std.specs.Coded.{Coded-set, Unit-prop, coded_option, le_prop, ×_prop}
use Rattle.fcl_syntax.specs.declared.tree.Direction.TheVariants as side
use Rattle.fcl_syntax.specs.declared.tree.Part.TheVariants as part
use Rattle.fcl_syntax.specs.declared.tree.DefuzzyLine.TheVariants as defuzzy
use Rattle.fcl_syntax.specs.declared.tree.FallbackValue.TheVariants as fallback
use Rattle.fcl_syntax.specs.contracts.fault.Kind as kind
use Rattle.fcl_check.proofs.CourseSteps.{no-ones, Ascends, ascends, last-over, tail-zero}
use Rattle.fcl_check.proofs.Ranges.{AllIn, In, all_inside, hull-over, not_empty, input_range-in, hull-ordered}
use Rattle.fcl_check.proofs.Ranges.{widened-ordered, widened-over, AreInScale, IsWide, IsWide-widened}
use Rattle.fcl_check.proofs.Ranges.{IsInScale-between, ends_of-in, output_hull-in}
use Rattle.fcl_check.proofs.Faultless.{few_items, some_item, IsWellFormedPart, known_side, neither_test, no_items}
use Rattle.fcl_check.proofs.Faultless.{no_place, nowhere, shaped, few_names, over, some_at_all, some_names, IsFaultless}
use Rattle.fcl_check.proofs.Faultless.{faultless, well_formed_input, well_formed_output, well_formed_rules}
use Rattle.fcl_check.proofs.Elements.{all_related, all_unmapped, all_weaker, parts_of, all_mapped, rest_of, all_both}
use Rattle.fcl_check.proofs.Elements.{all_images}
use Rattle.fcl_check.proofs.RuleSizes.{HasCleanCondition, shallow_rule, valid_or, few_within, clean_rules}
use Rattle.fcl_check.proofs.RuleSizes.{count-rules, rule_sizes}
use Rattle.fcl_check.proofs.Naming.{declared_any, number_within, numbered}

-- ---- The trapezoid of a term whose points ascend within a range is valid within it.

if_number : (P : ℤ → Type 0) (o : Option Dec) (n : ℤ) → number_of o ≡ Some n → P n → IfSome o (λ d. P d.0)
if_number P None n e h = tt
if_number P (Some d) n e h = let same : d.0 ≡ n = cc in rw same h

if_none : (P : Dec → Type 0) (o : Option Dec) → number_of o ≡ None → IfSome o P
if_none P None e = tt
if_none P (Some d) e = absurd cc

module _ (lo hi : Dec) (z : Trapezoid) where
  -- from the first one on
  record IsTopped (low : ℤ) : Type 0 where
    peak : low ≤ℤ z.c.0
    c_in : z.c.0 ≤ℤ hi.0
    d_in : IfSome z.d (λ d. (z.c.0 ≤ℤ d.0) × (d.0 ≤ℤ hi.0))

  topped : (p : Point) (points : List Point) → Some z.c.0 ≡ abscissa_of (last (p ∷ filter has_one points))
      → number_of z.d ≡ abscissa_of (first (filter has_zero points))
      → list_all has_zero (drop_while has_one points) ≡ true → Ascends (p ∷ points)
      → AllIn (lo.0, hi.0) (p ∷ points) → IsTopped (x_of p)
  topped p [] c d shape up all =
      let same : z.c.0 ≡ x_of p = cc in
      record {
        peak = omega (arith, ints, same);
        c_in = omega (arith, ints, same, all.0.1);
        d_in =
            if_none (λ d. (z.c.0 ≤ℤ d.0) × (d.0 ≤ℤ hi.0)) z.d d;
      }
  topped p (q ∷ points) c d shape up all =
      elim (cases_Bool (has_one q)) [
        | inl f ↦
            let cs : Some z.c.0 ≡ abscissa_of (last (q ∷ filter has_one points)) =
            rw (f, last-over p q (filter has_one points)) at c in
            let rest = topped q points cs (rw f at d) (rw f at shape) up.1 all.1 in
            record { peak = omega (arith, ints, up.0.0, rest.peak); c_in = rest.c_in; d_in = rest.d_in }
        | inr f ↦
            let zeros : list_all has_zero (q ∷ points) ≡ true = rw f at shape in
            let cs : Some z.c.0 ≡ Some (x_of p) = rw (f, no-ones points (tail-zero q points zeros)) at c in
            let same : z.c.0 ≡ x_of p = cc in
            let ds : number_of z.d ≡ Some (x_of q) = rw f at d in
            record {
              peak = omega (arith, ints, same);
              c_in = omega (arith, ints, same, all.0.1);
              d_in = if_number (λ n. (z.c.0 ≤ℤ n) × (n ≤ℤ hi.0)) z.d (x_of q) ds
                  (omega (arith, ints, same, up.0.0), all.1.0.1);
            }
      ]

  -- from a first point that is one
  from_one : (p : Point) (points : List Point) → has_one p ≡ true → IfSome z.a (λ a. (lo.0 ≤ℤ a.0) × (a.0 ≤ℤ z.b.0))
      → Some z.b.0 ≡ abscissa_of (first (filter has_one (p ∷ points)))
      → Some z.c.0 ≡ abscissa_of (last (filter has_one (p ∷ points)))
      → number_of z.d ≡ abscissa_of (first (filter has_zero (drop_while has_zero (p ∷ points))))
      → has_shape (p ∷ points) ≡ true → Ascends (p ∷ points)
      → AllIn (lo.0, hi.0) (p ∷ points) → IsValidTerm lo hi z
  from_one p points f a b c d shape up all =
      let bs : Some z.b.0 ≡ Some (x_of p) = rw f at b in
      let same : z.b.0 ≡ x_of p = cc in
      let top = topped p points (rw f at c) (rw f at (rw f at d)) (rw f at (rw f at shape)) up all in
      record {
        a_in = a;
        b_in = omega (arith, ints, same, all.0.0);
        peak = omega (arith, ints, same, top.peak);
        c_in =
            top.c_in;
        d_in = top.d_in;
      }

  -- from a point that is zero
  from_zero : (p : Point) (points : List Point) → has_one p ≡ false
      → number_of z.a ≡ abscissa_of (last (p ∷ take_while has_zero points))
      → Some z.b.0 ≡ abscissa_of (first (filter has_one points))
      → Some z.c.0 ≡ abscissa_of (last (filter has_one points))
      → number_of z.d ≡ abscissa_of (first (filter has_zero (drop_while has_zero points))) → has_shape points ≡ true
      → Ascends (p ∷ points)
      → AllIn (lo.0, hi.0) (p ∷ points) → IsValidTerm lo hi z
  from_zero p [] f a b c d shape up all = absurd cc
  from_zero p (q ∷ points) f a b c d shape up all =
      elim (cases_Bool (has_one q)) [
        | inl g ↦
            let foot : number_of z.a ≡ Some (x_of p) = rw (take_while-cons has_zero q points, g) at a in
            let bs : Some z.b.0 ≡ Some (x_of q) = rw g at b in
            let same : z.b.0 ≡ x_of q = cc in
            from_one q points g (if_number (λ n. (lo.0 ≤ℤ n) × (n ≤ℤ z.b.0)) z.a (x_of p) foot
            (all.0.0, omega (arith, ints, same, up.0.0))) b c d shape up.1 all.1
        | inr g ↦
            let feet : number_of z.a ≡ abscissa_of (last (q ∷ take_while has_zero points)) =
            rw (take_while-cons has_zero q points, g, last-over p q (take_while has_zero points)) at a in
            from_zero q points g feet (rw g at b) (rw g at c) (rw g at d) (rw g at shape) up.1 all.1
      ]

  pub valid_term : (t : Term) → IsTermOf t z → falling_in t ≡ [] → has_shape (points_of t) ≡ true
      → AllIn (lo.0, hi.0) (points_of t) → IsValidTerm lo hi z
  valid_term t of falls shape all =
      let p = t.first in
      let points = t.more in
      let up = ascends t falls in
      elim (cases_Bool (has_one p)) [
        | inl f ↦
            let footless : number_of z.a ≡ None = rw (take_while-cons has_zero p points, f) at of.a in
            from_one p points f (if_none (λ a. (lo.0 ≤ℤ a.0) × (a.0 ≤ℤ z.b.0)) z.a footless) of.b of.c of.d shape up all
        | inr f ↦
            let feet : number_of z.a ≡ abscissa_of (last (p ∷ take_while has_zero points)) =
            rw (take_while-cons has_zero p points, f) at of.a in
            from_zero p points f feet (rw f at of.b) (rw f at of.c) (rw f at of.d) (rw f at shape) up all
      ]

-- ---- The input of a section without faults is valid.

-- ---- the range

-- each term's points lie in the range
abbrev AllTermsIn : Ends → List Term → Type 0
AllTermsIn e ts = AllByRecursion (λ (t : Term). AllIn e (points_of t)) ts

by_terms : (e : Ends) (ts : List Term) → AllIn e (flat_map points_of ts) → AllTermsIn e ts
by_terms e [] h = tt
by_terms e (t ∷ ts) h =
    let both = parts_of (λ (p : Point). In e (x_of p)) (points_of t) (flat_map points_of ts) h in
    (both.0, by_terms e ts both.1)

input_range_of : (s : Fuzzify) (o : Option Range) (e : Ends) → Some e ≡ given_or (hull_of (abscissas s)) o
    → outside (λ e. flat_map (outside_in e) (terms_of s)) o ≡ [] → bad_fuzzy_range true s o ≡ []
    → (e.0 <ℤ e.1) × AllTermsIn e (terms_of s)
input_range_of s None e is inside range =
    let hull : hull_of (abscissas s) ≡ Some e = sym is in
    let proper : at_if (true && is_empty_range e) s.name.at ≡ [] = rw hull at range in (
      not_empty e (no_place (is_empty_range e) s.name.at proper),
      by_terms e (terms_of s)
          (all_unmapped (In e) x_of (flat_map points_of (terms_of s)) (hull-over (abscissas s) e is)),
    )
input_range_of s (Some r) e is inside range =
    let same : e ≡ ends_of r = cc in
    subst (λ (f : Ends). (f.0 <ℤ f.1) × AllTermsIn f (terms_of s)) (sym same) (
      not_empty (ends_of r) (no_place (is_empty_range (ends_of r)) r.at range),
      all_weaker (λ (t : Term). outside_in (ends_of r) t ≡ []) (λ (t : Term). AllIn (ends_of r) (points_of t))
          (λ (t : Term) h. all_inside (ends_of r) x_of (λ (p : Point). p.open_at) (points_of t) h) (terms_of s)
          (nowhere (outside_in (ends_of r)) (terms_of s) inside),
    )

-- ---- the input

-- what is known of each term of a section without faults
record IsWellFormedTerm (e : Ends) (t : Term) : Type 0 where
  falls : falling_in t ≡ []
  shape : has_shape (points_of t) ≡ true
  inside : AllIn e (points_of t)

abbrev unshaped : Term → List ℕ
unshaped t = at_if (not (has_shape (points_of t))) t.at

well_formed_terms : (e : Ends) (ts : List Term) → flat_map falling_in ts ≡ [] → flat_map unshaped ts ≡ []
    → AllTermsIn e ts
    → AllByRecursion (IsWellFormedTerm e) ts
well_formed_terms e [] falls shapes inside = tt
well_formed_terms e (t ∷ ts) falls shapes inside =
    let fall = no_items (falling_in t) _ falls in
    let shape = no_items (unshaped t) _ shapes in (
      record { falls = fall.0; shape = shaped (has_shape (points_of t)) t.at shape.0; inside = inside.0 },
      well_formed_terms e ts fall.1 shape.1 inside.1,
    )

valid_one : (lo hi : Dec) (t : Term) (z : Trapezoid) → IsWellFormedTerm (lo.0, hi.0) t → IsTermOf t z
    → IsValidTerm lo hi z
valid_one lo hi t z well_formed of = valid_term lo hi z t of well_formed.falls well_formed.shape well_formed.inside

module _ (text : List ℕ) (b : FunctionBlock) where
  pub valid_input : (s : Fuzzify) (x : Input) → IsWellFormedPart text b (part.Fuzzify s) → IsInputOf s x
      → IsValidInput x
  valid_input s x well_formed of =
      let e : Ends = (x.lo.0, x.hi.0) in
      let terms = terms_of s in
      let declared : is_declared_as text b side.Input s.name ≡ true =
      known_side side.Input (direction text b s.name) s.name.at well_formed.known well_formed.sided in
      let proper : bad_fuzzy_range true s (fuzzy_range s) ≡ [] = rw declared at well_formed.range in
      let range = input_range_of s (fuzzy_range s) e of.range well_formed.inside proper in
      let scale = input_range-in s e of.range in
      let all = well_formed_terms e terms well_formed.ascending well_formed.shaped range.1 in
      let long = AllZip-long IsTermOf terms x.terms of.terms in
      record {
        lo_in = scale.lo;
        hi_in = scale.hi;
        range = range.0;
        some_term = omega (arith, long, some_item terms s.end well_formed.some);
        few_terms = omega (arith, long, few_items 15 (λ (t : Term). t.name.at) terms well_formed.few);
        terms = All-from_recursion (IsValidTerm x.lo x.hi) x.terms
            (all_related (IsWellFormedTerm e) IsTermOf (IsValidTerm x.lo x.hi)
            (valid_one x.lo x.hi) terms x.terms all of.terms);
      }

-- ---- The output of a section without faults is valid.

-- ---- the numbers of lines

module _ (P : ℤ → Type 0) where
  abbrev AllNumbers : List DefuzzyLine → Type 0
  AllNumbers lines = AllByRecursion (λ (n : ℤ × ℕ). P n.0) (filter_map number_line lines)

  fallback_of : (v : FallbackValue) (n : SignedNumber) (at : ℕ) (rest : List (ℤ × ℕ)) → fallback_number v ≡ Some n
      → AllByRecursion (λ (n : ℤ × ℕ). P n.0)
      (cons_option (option_map (λ (n : SignedNumber). (value n, at)) (fallback_number v)) rest) → P (value n)
  fallback_of (fallback.Number m) n at rest is all = let same : m ≡ n = cc in rw (← same) all.0
  fallback_of (fallback.Nc x) n at rest is all = absurd cc

  behind : (v : FallbackValue) (at : ℕ) (rest : List (ℤ × ℕ)) → AllByRecursion (λ (n : ℤ × ℕ). P n.0)
      (cons_option (option_map (λ (n : SignedNumber). (value n, at)) (fallback_number v)) rest)
      → AllByRecursion (λ (n : ℤ × ℕ). P n.0) rest
  behind v at rest all =
      rest_of (λ (n : ℤ × ℕ). P n.0) (option_map (λ (n : SignedNumber). (value n, at)) (fallback_number v)) rest all

  all_singletons : (lines : List DefuzzyLine) → AllNumbers lines
      → AllByRecursion (λ (t : Singleton). P (value t.value)) (filter_map singleton_of lines)
  all_singletons [] all = tt
  all_singletons (defuzzy.Singleton t ∷ lines) all = (all.0, all_singletons lines all.1)
  all_singletons (defuzzy.Default d ∷ lines) all =
      all_singletons lines (behind d.value d.at (filter_map number_line lines) all)
  all_singletons (_ ∷ lines) all = all_singletons lines all

  at_default : (lines : List DefuzzyLine) (d : Fallback) (n : SignedNumber) → AllNumbers lines
      → first (filter_map default_line lines) ≡ Some d
      → fallback_number d.value ≡ Some n → P (value n)
  at_default [] d n all found is = absurd cc
  at_default (defuzzy.Singleton t ∷ lines) d n all found is = at_default lines d n all.1 found is
  at_default (defuzzy.Default c ∷ lines) d n all found is =
      let same : c ≡ d = cc in
      fallback_of c.value n c.at (filter_map number_line lines) (rw same is) all
  at_default (_ ∷ lines) d n all found is = at_default lines d n all found is

  fallback_in : (o : Option SignedNumber) (n : ℤ) → option_map value o ≡ Some n
      → ((m : SignedNumber) → o ≡ Some m → P (value m)) → P n
  fallback_in None n is all = absurd cc
  fallback_in (Some m) n is all = let same : value m ≡ n = cc in rw (← same) (all m refl)

  -- the number of DEFAULT, where it has one
  default_in : (o : Option Fallback) (y : Option Dec) → Some (number_of y) ≡ option_map default_number o
      → ((d : Fallback) (n : SignedNumber) → o ≡ Some d → fallback_number d.value ≡ Some n → P (value n))
      → IfSome y (λ d. P d.0)
  default_in o None is all = tt
  default_in None (Some y) is all = absurd cc
  default_in (Some d) (Some y) is all =
      let same : option_map value (fallback_number d.value) ≡ Some y.0 = cc in
      fallback_in (fallback_number d.value) y.0 same (λ m found. all d m refl found)

-- ---- the range

widened_from : (o : Option Ends) (e : Ends) → Some e ≡ option_map widened o
    → (span : Ends) × (Some span ≡ o) × (e ≡ widened span)
widened_from None e is = absurd cc
widened_from (Some span) e is = (span, refl, cc)

-- what holds of the range of an output without faults
record GoodRange (s : Defuzzify) (e : Ends) : Type 0 where
  wide : IsWide e
  ordered : e.0 <ℤ e.1
  numbers : AllByRecursion (λ (n : ℤ × ℕ). In e n.0 × IsInScale n.0) (output_numbers s)

-- numbers in a span in the scale are so
in_both : (s : Defuzzify) (span e : Ends) → AreInScale span → ((x : ℤ) → In span x → In e x)
    → AllByRecursion (λ (n : ℤ × ℕ). In span n.0) (output_numbers s)
    → AllByRecursion (λ (n : ℤ × ℕ). In e n.0 × IsInScale n.0) (output_numbers s)
in_both s span e ends over all = all_weaker (λ (n : ℤ × ℕ). In span n.0) (λ (n : ℤ × ℕ). In e n.0 × IsInScale n.0)
    (λ (n : ℤ × ℕ) h. (over n.0 h, IsInScale-between span n.0 ends h)) (output_numbers s) all

output_range_of : (s : Defuzzify) (o : Option Range) (e : Ends)
    → Some e ≡ given_or (option_map widened (output_hull s)) o
    → outside (λ e. flat_map (λ (n : ℤ × ℕ). at_if (not (lies_in e n.0)) n.1) (output_numbers s)) o ≡ []
    → at_some empty_range o ≡ [] → GoodRange s e
output_range_of s None e is inside range =
    let numbers = map (λ (n : ℤ × ℕ). n.0) (output_numbers s) in
    let from = widened_from (output_hull s) e is in
    let span = from.0 in
    let ends = output_hull-in s span from.1 in
    let all = all_unmapped (In span) (λ (n : ℤ × ℕ). n.0) (output_numbers s) (hull-over numbers span from.1) in
    subst (GoodRange s) (sym from.2) (record {
      wide = IsWide-widened span ends;
      ordered = widened-ordered span (hull-ordered numbers span from.1);
      numbers = in_both s span (widened span) ends (widened-over span) all;
    })
output_range_of s (Some r) e is inside range =
    let same : e ≡ ends_of r = cc in
    let proper = not_empty (ends_of r) (no_place (is_empty_range (ends_of r)) r.at range) in
    let ends = ends_of-in r in
    let all = all_inside (ends_of r) (λ (n : ℤ × ℕ). n.0) (λ (n : ℤ × ℕ). n.1) (output_numbers s) inside in
    subst (GoodRange s) (sym same) (record {
      wide = record { lo = ends.lo; hi = (let high = ends.hi.high in omega (arith, ints, high)) };
      ordered = proper;
      numbers = in_both s (ends_of r) (ends_of r) ends (λ x h. h) all;
    })

-- ---- the output

module _ (text : List ℕ) (b : FunctionBlock) where
  pub valid_output : (s : Defuzzify) (y : Output) → IsWellFormedPart text b (part.Defuzzify s) → IsOutputOf s y
      → IsValidOutput y
  valid_output s y well_formed of =
      let e : Ends = (y.lo.0, y.hi.0) in
      let singles = singletons_of s in
      let range = output_range_of s (defuzzy_range s) e of.range well_formed.numbers well_formed.range in
      let all : AllByRecursion (λ (n : ℤ × ℕ). Here n.0) (output_numbers s) = range.numbers in
      let values : AllByRecursion Here (map (λ (d : Dec). d.0) y.singletons) =
      rw (of.singletons) (all_mapped Here (λ (t : Singleton). value t.value) singles
      (all_singletons Here s.lines all)) in
      let long : length y.singletons ≡ length singles =
      sym (length-map y.singletons (λ (d : Dec). d.0)) ∙ ap length of.singletons
      ∙ length-map singles (λ (t : Singleton). value t.value) in
      let found = all_unmapped Here (λ (d : Dec). d.0) y.singletons values in
      let default : IfSome y.default (λ (d : Dec). Here d.0) =
      default_in Here (default_of s) y.default of.default
      (λ d n found is. at_default Here s.lines d n all found is) in
      record {
        lo_in = range.wide.lo;
        hi_in = range.wide.hi;
        range = range.ordered;
        some_term = omega (arith, long, some_item singles s.end well_formed.some);
        few_terms = omega (arith, long, few_items 15 (λ (t : Singleton). t.name.at) singles well_formed.few);
        singletons = All-from_recursion (IsWithin y.lo y.hi) y.singletons
            (all_weaker (λ (d : Dec). Here d.0) (IsWithin y.lo y.hi)
            (λ (d : Dec) h. record { low = h.0.0; high = h.0.1 }) y.singletons found);
        singletons_in_scale = All-from_recursion (λ (d : Dec). IsInScale d.0) y.singletons
            (all_weaker (λ (d : Dec). Here d.0) (λ (d : Dec). IsInScale d.0) (λ (d : Dec) h. h.1) y.singletons found);
        default_in = within y.default default;
        default_in_scale = in_scale y.default default;
      }
    where
      Here : ℤ → Type 0
      Here n = In (y.lo.0, y.hi.0) n × IsInScale n

      within : (o : Option Dec) → IfSome o (λ (d : Dec). Here d.0) → IfSome o (IsWithin y.lo y.hi)
      within None h = tt
      within (Some d) h = record { low = h.0.0; high = h.0.1 }

      in_scale : (o : Option Dec) → IfSome o (λ (d : Dec). Here d.0) → IfSome o (λ (d : Dec). IsInScale d.0)
      in_scale None h = tt
      in_scale (Some d) h = h.1

-- ---- The rule of a rule without faults is valid over the inputs and outputs of its tree.

-- ---- what names stand for

-- the number of a variable that there is, and of a term that it has
record HasNumbers {X : Type 0} (size : X → ℕ) (xs : List X) (i t : ℕ) : Type 0 where
  variable_from : 1 ≤ i
  term_from : 1 ≤ t
  term_to : IsSomeAnd (slice_get xs (i - 1)) (λ x. t ≤ size x)

numbers_at : {X : Type 0} (size : X → ℕ) (xs : List X) (i t index : ℕ) (x : X) → i ≡ suc index
    → slice_get xs index ≡ Some x → 1 ≤ t → t ≤ size x
    → HasNumbers size xs i t
numbers_at size xs i t index x numbered_so here from to =
    let before : i - 1 ≡ index = omega (arith, numbered_so) in
    let there : IsSomeAnd (slice_get xs (i - 1)) (λ x. t ≤ size x) = rw (before, here) to in
    record { variable_from = omega (arith, numbered_so); term_from = from; term_to = there }

-- of a variable whose section names as many terms as it has
module _ {S X : Type 0} (as_section : Part → Option S) (IsOf : S → X → Type 0) (names : S → List Name) (size : X → ℕ)
    (long : (s : S) (x : X) → IsOf s x → size x ≡ length (names s)) (text : List ℕ) (b : FunctionBlock) where
  has_numbers : (side : Direction) (xs : List X)
      → AllZip (IsVariableNamed as_section IsOf text b) (declared_as side b) xs → (v t : Name) (k : ℕ)
      → is_declared_as text b side v ≡ true
      → option_and_then (λ (s : S). number_in text (names s) (letters text t))
      (option_and_then as_section (section_of text b (letters text v))) ≡ Some k
      → HasNumbers size xs (or_zero (variable_number text b side (letters text v)))
      (or_zero (option_and_then (λ (s : S). number_in text (names s) (letters text t))
      (option_and_then as_section (section_of text b (letters text v)))))
  has_numbers side xs all v t k declared number =
      let ls = letters text v in
      let at = numbered text ls (IsVariableNamed as_section IsOf text b) (declared_as side b) xs all
      (declared_any text ls side (declared_in b) declared) in
      let s : S = at.related.0 in
      let same : ls ≡ letters text at.name = (bytes_eq-Decides ls (letters text at.name)).0 at.named in
      let section : option_and_then as_section (section_of text b ls) ≡ Some s =
      subst (λ (ms : List ℕ). option_and_then as_section (section_of text b ms) ≡ Some s) (sym same) at.related.1 in
      let here : number_in text (names s) (letters text t) ≡ Some k = rw section at number in
      let within = number_within text (names s) (letters text t) k here in
      rw number (numbers_at size xs (or_zero (variable_number text b side ls)) k at.index at.item
      (ap or_zero at.number) at.here within.0 (omega (arith, within.1, long s at.item at.related.2)))

many_terms : (s : Fuzzify) (x : Input) → IsInputOf s x → length x.terms ≡ length (term_names s)
many_terms s x of = omega
    (arith, AllZip-long IsTermOf (terms_of s) x.terms of.terms, length-map (terms_of s) (λ (t : Term). t.name))

many_singletons : (s : Defuzzify) (y : Output) → IsOutputOf s y → length y.singletons ≡ length (singleton_names s)
many_singletons s y of =
    let ts = singletons_of s in
    omega (
      arith,
      length-map ts (λ (t : Singleton). t.name),
      length-map y.singletons (λ (d : Dec). d.0),
      length-map ts (λ (t : Singleton). value t.value),
      ap length of.singletons,
    )

-- ---- weights

weighed : (w : ℤ) → (int_lt w (pos 0) || int_lt (pos 10000) w) ≡ false → (pos 0 ≤ℤ w) × (w ≤ℤ pos 10000)
weighed w h = let both = neither_test (int_lt w (pos 0)) _ h in
    (let low = both.0 in grind (arith, ints), let high = both.1 in grind (arith, ints))

abbrev beyond : Weight → List ℕ
beyond w = at_if (int_lt (value w.value) (pos 0) || int_lt (pos 10000) (value w.value)) w.at

valid_weight : (o : Option Weight) (d : Option Dec) → at_some beyond o ≡ []
    → number_of d ≡ option_map (λ (w : Weight). value w.value) o → IfSome d IsWeight
valid_weight o None none e = tt
valid_weight None (Some d) none e = absurd cc
valid_weight (Some w) (Some d) none e =
    let same : d.0 ≡ value w.value = cc in
    let both = weighed (value w.value)
    (no_place (int_lt (value w.value) (pos 0) || int_lt (pos 10000) (value w.value)) w.at none) in
    record { low = rw same both.0; high = rw same both.1 }

-- ---- rules

module _ (text : List ℕ) (b : FunctionBlock) (block : Block) (of : IsBlockOf text b block) where
  has_term : (v t : Name) → IsKnown text b side.Input v t
      → HasTerm block (or_zero (variable_number text b side.Input (letters text v)))
      (or_zero (term_number text b side.Input (letters text v) (letters text t)))
  has_term v t known =
      let has = has_numbers as_fuzzify IsInputOf term_names (λ (x : Input). length x.terms) many_terms text b side.Input
      block.inputs of.inputs v t known.number known.declared known.numbered in
      record { input_from = has.variable_from; term_from = has.term_from; term_to = has.term_to }

  has_singleton : (v t : Name) → IsKnown text b side.Output v t
      → HasSingleton block (or_zero (variable_number text b side.Output (letters text v)))
      (or_zero (term_number text b side.Output (letters text v) (letters text t)))
  has_singleton v t known =
      let has = has_numbers as_defuzzify IsOutputOf singleton_names (λ (y : Output). length y.singletons)
      many_singletons text b side.Output block.outputs of.outputs v t known.number known.declared known.numbered in
      record { output_from = has.variable_from; term_from = has.term_from; term_to = has.term_to }

  pub valid_rule : (r : RuleNode) (q : Rule) → IsWellFormedRule text b r × HasCleanCondition r → IsRuleOf text b r q
      → IsValidRule block q
  valid_rule r q both rule =
      let well_formed = both.0 in
      let known = valid_or block (literal_of text b) (λ (p : Pair). IsKnown text b side.Input p.variable p.term)
      (λ v t h. has_term v t h) r.condition 64 both.1
      well_formed.condition in
      let ends : AllByRecursion (λ (c : ℕ × ℕ). HasSingleton block c.0 c.1)
      (map (conclusion_of text b) (conclusions_of r)) = all_mapped
      (λ (c : ℕ × ℕ). HasSingleton block c.0 c.1) (conclusion_of text b) (conclusions_of r)
      (all_weaker (λ (c : Conclusion). IsKnown text b side.Output c.variable c.term)
      (λ (c : Conclusion). HasSingleton block (conclusion_of text b c).0 (conclusion_of text b c).1)
      (λ c h. has_singleton c.variable c.term h)
      (conclusions_of r) well_formed.conclusions) in
      record {
        condition = rw (rule.condition) known;
        deep = shallow_rule text b r q both.1 rule;
        weight = valid_weight r.weight q.weight well_formed.weight rule.weight;
        some_conclusion = rw (rule.conclusions) (omega arith);
        conclusions = All-from_recursion (λ (c : ℕ × ℕ). HasSingleton block c.0 c.1) q.concl
            (rw (rule.conclusions) ends);
      }

all_three : (p q r : Bool) → not (p && q && not r) ≡ false → (p ≡ true) × ((q ≡ true) × (r ≡ false))
all_three true true false h = (refl, (refl, refl))
all_three _ _ _ h = absurd cc

-- ---- the block

module _ (text : List ℕ) (b : FunctionBlock) (block : Block) (well_formed : IsFaultless text b)
    (of : IsBlockOf text b block) where
  named_input : (n : Name) (x : Input) → IsInputNamed text b n x → IsValidInput x
  named_input n x named =
      let s : Fuzzify = named.0 in
      valid_input text b s x (well_formed_input text b well_formed (letters text n) s named.1) named.2

  named_output : (n : Name) (y : Output) → IsOutputNamed text b n y → IsValidOutput y
  named_output n y named =
      let s : Defuzzify = named.0 in
      valid_output text b s y (well_formed_output text b well_formed (letters text n) s named.1) named.2

  sized_block : IsClean (block_text (view b)) → sum_by rule_size block.rules ≤ 1048576 → IsValid block
  sized_block clean small =
      let rules = b.rules.rules in
      let ins = declared_as side.Input b in
      let outs = declared_as side.Output b in
      let missing = no_items (flat_map (without_section text b) (declared_in b)) _ well_formed.missing in
      let whole = all_three (has_direction text b side.Input) (has_direction text b side.Output)
      (is_none (slice_get rules 0))
      (no_place (not (is_whole text b)) b.end (no_items (flat_map incomplete b.parts) _ missing.1).1) in
      let many = no_items (at_each over [] (declared_in b)) _ well_formed.counts in
      let long_ins = AllZip-long (IsInputNamed text b) ins block.inputs of.inputs in
      let long_outs = AllZip-long (IsOutputNamed text b) outs block.outputs of.outputs in
      let long_rules = AllZip-long (IsRuleOf text b) rules block.rules of.rules in
      let few = no_items (flat_map terms_over_limit b.parts) _ many.1 in
      let fit = all_both (IsWellFormedRule text b) HasCleanCondition rules (well_formed_rules text b well_formed)
      (clean_rules b clean) in
      record {
        some_input = omega (arith, long_ins, some_names side.Input (declared_in b) whole.0);
        few_inputs = omega (arith, long_ins, few_names side.Input [] (declared_in b) (omega arith) many.0);
        some_output = omega (arith, long_outs, some_names side.Output (declared_in b) whole.1.0);
        few_outputs = omega (arith, long_outs, few_names side.Output [] (declared_in b) (omega arith) many.0);
        some_rule = omega (arith, long_rules, some_at_all rules whole.1.1);
        few_rules = omega (arith, long_rules, few_items 256 (λ (r : RuleNode). r.at) rules few.1);
        inputs = All-from_recursion IsValidInput block.inputs
            (all_images (IsInputNamed text b) IsValidInput named_input ins block.inputs of.inputs);
        outputs = All-from_recursion IsValidOutput block.outputs
            (all_images (IsOutputNamed text b) IsValidOutput named_output outs block.outputs of.outputs);
        rules = All-from_recursion (IsValidRule block) block.rules
            (all_related (λ r. IsWellFormedRule text b r × HasCleanCondition r) (IsRuleOf text b) (IsValidRule block)
            (valid_rule text b block of) rules block.rules fit of.rules);
        size = small;
      }

pub valid_block : (text : List ℕ) (b : FunctionBlock) (block : Block) → first_fault text b ≡ None
    → IsBlockOf text b block → IsClean (block_text (view b))
    → sum_by rule_size block.rules ≤ 1048576 → IsValid block
valid_block text b block well_formed of = sized_block text b block (faultless text b well_formed) of

pub spelled_blocks : OffsetsAscend → SpelledBlocksAreValid
spelled_blocks offsets_ascend text b block small spelled well_formed of =
    let letters = str_to_ascii_lowercase text in
    let few = few_within 0 (length text) (offsets (block_text (view b))) (offsets_ascend text (view b) spelled) in
    let sizes = rule_sizes letters b b.rules.rules block.rules of.rules in
    valid_block letters b block well_formed of spelled.spells.clean (omega (arith, sizes, count-rules b, few, small))

clean_prop : (symbols : List Sym) → IsProp (IsClean symbols)
clean_prop [] = Unit-prop
clean_prop (s ∷ symbols) = ×_prop (Coded-set (coded_option kind.the_row.coded) s.annotation None) (clean_prop symbols)

-- a tree that is kept has a text, and its blocks keep what the law gives to the blocks of that text
pub kept_block : SpelledBlocksAreValid → (letters : List ℕ) (b : FunctionBlock) (block : Block)
    → ∥ IsSpelled letters b ∥₁ → first_fault letters b ≡ None
    → IsBlockOf letters b block → IsValid block
kept_block valid letters b block kept well_formed of =
    let limits : IsClean (block_text (view b)) × (sum_by rule_size block.rules ≤ 1048576) =
    ∥∥₁_elim kept (×_prop (clean_prop (block_text (view b))) le_prop) (λ (s : IsSpelled letters b).
    let whole : IsValid block =
    valid s.text b block s.small s.spelled (subst (λ (l : List ℕ). first_fault l b ≡ None) s.letters_are well_formed)
    (subst (λ (l : List ℕ). IsBlockOf l b block) s.letters_are of) in
    (s.spelled.spells.clean, whole.size)) in
    valid_block letters b block well_formed of limits.0 limits.1
