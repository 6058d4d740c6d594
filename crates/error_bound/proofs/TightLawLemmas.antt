-- Laws of tight Bounds, and the masses as the code finds them.
use Rattle.std.proofs.Common.{◌≡◌, ℕ, suc, ◌+◌, ◌-◌, ◌*◌, ◌/◌, ◌<◌, ◌≤◌, max, min, Bool, true, false, List, [], ◌∷◌}
use Rattle.std.proofs.Common.{length, get_or, Option, Some, None, refl, sym, ap, ◌∙◌, arith, mul-le-mul_right}
use Rattle.std.proofs.Common.{le_of_mul-le-mul_right, mul-pos, drop, ap₂, subst}
use Rattle.std.proofs.{lemmas.Bool.Decides.nat_tests, lemmas.Nat.mul-le, lemmas.Nat.le-div}
use Rattle.std.specs.Prelude.{All, IsTrue, ◌==◌, ◌&&◌, ◌<ℤ◌, slice_index, IfSome, IfNone, if◌then◌else◌}
use Rattle.std.specs.Option.{option_map_or}
use Rattle.fz_list.proofs.Algebra.{All-slice_get, All-none, All-cons}
use Rattle.fz_num.specs.Fractions.{Fraction, IsProper, AtMost, up_div, over}
use Rattle.fz_num.specs.{declared.dec.Dec.Dec, Decimals.distance}
use Rattle.fuzzy_meaning.specs.Blocks.{IsValid, IsValidOutput, IsWithin, output_at}
use Rattle.fuzzy_meaning.specs.{declared.block.Output.Output, declared.block.Block.Block, declared.block.Rule.Rule}
use Rattle.fuzzy_meaning.specs.Meaning.{concludes}
use Rattle.cell_error.specs.declared.{ranges.MassRange.MassRange, ranges.Deviation.Deviation, means.Scale.Scale}
use Rattle.cell_error.specs.Means.{pull, IsMeanError, MeansHaveErrors, IsByteRange, IsSmallDeviation}
use Rattle.cell_error.specs.Errors.{AreBetween, total, weighted}
use Rattle.error_bound.specs.Tight.{greatest_of, sum_over, low_part, is_still, if_moving, low_of, byte_low_of, rise_of}
use Rattle.error_bound.specs.Tight.{byte_high_of, fall_of, if_live, live_offset, sure_sum, sure_bytes, ranges_at}
use Rattle.error_bound.specs.Tight.{deviations_at, byte_ranges, deviations, scale, IsSureBound, IsSure, IsTightBound}
use Rattle.error_bound.specs.Tight.{IsTightCount, of_bound, of_none, greatest_over, high_part}
use Rattle.error_bound.specs.Tight.{silent as tight_silent, sure}
use Rattle.error_bound.specs.TightLaws.{TightBoundsAreLeast, TightBoundsFallInside, TightBoundsAreOne}
use Rattle.error_bound.specs.declared.tight.Deviations.{Deviations}
use Rattle.error_bound.specs.Masses.{AreGreatest, AreMasses, AreDeviations, sum_at, if_some, offset_at}
use Rattle.error_bound.specs.Masses.{byte_ranges_at, deviations_of, scale_at, IsBoundAt}
use Rattle.error_bound.specs.Bounds.{offset, silent_bound, errors_from}
use Rattle.error_bound.specs.{TightLaws.TightBoundsHoldInside, TightLaws.TightBoundsFallWithParts, Reaches.IsEndOfRule}
use Rattle.error_bound.specs.declared.ends.Side.TheVariants.{Low, High}
use Rattle.error_bound.specs.{Leaves.Holds, Leaves.strong, Leaves.silent, Leaves.concludes_some, declared.ends.End.End}
use Rattle.error_bound.specs.{Boxes.rule_span, Boxes.rule_byte_span, Boxes.IsBox, declared.boxes.Interval.Interval}
use Rattle.error_bound.specs.Errors.{billion, AreTermErrors, rule_rise, rule_fall}
use Rattle.error_bound.specs.{CellErrors.term_errors, Flattening.IsSame, Best.silent_leaf}
use Rattle.error_bound.specs.declared.tight.Masses.{Masses}
use Rattle.error_bound.specs.{Ratios.value_of, Laws.IsInside, Spans.Span}
use Rattle.error_bound.proofs.Nested.{moved, bound_strong, bound_silent, rule_narrow, IsNarrow, less_rise, less_fall}
use Rattle.error_bound.proofs.Nested.{leaves_hold_inside, inside_itself}
use Rattle.error_bound.proofs.TightLemmas.{bytes_ordered_at, greatest_of-mono, sum_over-mono, greatest_over-mono}
use Rattle.error_bound.proofs.TightLemmas.{strong_sure, sure_has}
use Rattle.error_bound.proofs.RuleLemmas.{bytes_ordered, none_below, IsStill-test, none_same}
use Rattle.error_bound.proofs.{TightLemmas.strong_least, AnswerLemmas.quiet_rules, Literals.term_errors-are}
use Rattle.error_bound.proofs.{LeafLemmas.any-some, ListLemmas.drop_back, Shares.within_width}
use Rattle.fz_num.proofs.Algebra.{le-up_div, up_div-le}

-- ---- at most those of leaves

pub tight_least : MeansHaveErrors → TightBoundsAreLeast
tight_least have b box o x h leaf m valid ex hh (strong r from k_from k_to er s) bd =
    let e = bd.errors in
    let sum = errors_from b e o 1 x.singletons in
    let vx : IsValidOutput x = All-slice_get IsValidOutput b.outputs (o - 1) x valid.outputs ex in
    let is_sure = strong_sure b box e o x valid ex (leaf.rule - 1) r leaf.k er k_from s in
    let n = sure_has have b box e o x vx.range h hh is_sure in (
      n.0,
      sure e bd.are_errors is_sure n.1,
      moved refl (bd.is ∙ bound_strong x h leaf.k sum k_from)
          (strong_least b box e o x valid ex (leaf.rule - 1) r leaf.k er k_from s h n.0 hh n.1),
    )
tight_least have b box o x h leaf m valid ex hh (silent z k every) bd = (
  silent_bound x,
  tight_silent (silent refl refl every) refl,
  moved refl (bd.is ∙ bound_silent x h leaf.k (errors_from b bd.errors o 1 x.singletons) k) (omega arith),
)

-- ---- a box is not both silent and sure

none_of : (f : Rule → ℕ) (o t : ℕ) (rs : List Rule) → All (λ r. IsTrue (concludes r o t) → f r ≡ 0) rs
    → greatest_of f o t rs ≡ 0
none_of f o t [] h = refl
none_of f o t (r ∷ rs) h =
    by_bool (concludes r o t) (h 0 r (omega arith)) (none_of f o t rs (λ k d l. h (suc k) d (omega arith)))
  where
    by_bool : {a m : ℕ} → (c : Bool) → (IsTrue c → a ≡ 0) → m ≡ 0 → (if c then max a m else m) ≡ 0
    by_bool true p q = let z = p refl in omega arith
    by_bool false p q = q

none_over : (f : ℕ → ℕ) → ((t : ℕ) → f t ≡ 0) → (t : ℕ) (us : List Dec) → sum_over (λ t u. f t) t us ≡ 0
none_over f h t [] = refl
none_over f h t (u ∷ us) = let a = h t in let k = none_over f h (t + 1) us in omega arith

pub not_both : (b : Block) (box : List Interval) (o : ℕ) (x : Output) → Holds b box o silent_leaf → IsSure b box o x → ⊥
not_both b box o x quiet s =
    let every = quiet_rules b box o quiet in
    let z : sure_bytes b box o x ≡ 0 =
    none_over (λ t. byte_low_of b box o t)
    (λ t. none_of (λ r. (rule_byte_span b box r).low) o t b.rules (λ k d l c.
    below (bytes_ordered b box (get_or b.rules k d)) (every k d l t c).byte_high)) 1 x.singletons in
    let p = s.bytes in
    absurd (omega arith)
  where
    below : {p q : ℕ} → p ≤ q → q ≡ 0 → p ≡ 0
    below h k = omega arith

-- ---- with no more lists, no greater deviations and no less sure a mass no mean is further away

between_more : (f g f' g' : ℕ → ℕ) (lo : Dec) → ((j : ℕ) → f' j ≤ f j) → ((j : ℕ) → g j ≤ g' j) → (k : ℕ)
    (us : List Dec) (ms : List ℕ) → AreBetween 1 (ranges_at f g lo k us) ms → AreBetween 1 (ranges_at f' g' lo k us) ms
between_more f g f' g' lo hf hg k [] [] b = tt
between_more f g f' g' lo hf hg k [] (m ∷ ms) b = absurd b
between_more f g f' g' lo hf hg k (u ∷ us) [] b = absurd b
between_more f g f' g' lo hf hg k (u ∷ us) (m ∷ ms) b =
    (lower (hf k) b.0, upper b.1 (hg k), between_more f g f' g' lo hf hg (k + 1) us ms b.2)
  where
    lower : {p q m : ℕ} → p ≤ q → q * 1 ≤ m → p * 1 ≤ m
    lower h l = omega arith

    upper : {p q m : ℕ} → m ≤ p * 1 → p ≤ q → m ≤ q * 1
    upper l h = omega arith

weighted_same : (f g f' g' : ℕ → ℕ) (lo : Dec) (k : ℕ) (us : List Dec) (ms : List ℕ)
    → weighted (ranges_at f g lo k us) ms ≡ weighted (ranges_at f' g' lo k us) ms
weighted_same f g f' g' lo k [] ms = refl
weighted_same f g f' g' lo k (u ∷ us) [] = refl
weighted_same f g f' g' lo k (u ∷ us) (m ∷ ms) =
    ap (λ a. distance lo u * m + a) (weighted_same f g f' g' lo (k + 1) us ms)

pull_less : (over under : Deviation → ℕ) (f g f' g' r l r' l' : ℕ → ℕ) (lo : Dec)
    → ((j : ℕ) → (over (record { rise = r j; fall = l j }) ≤ over (record { rise = r' j; fall = l' j }))
    × (under (record { rise = r j; fall = l j }) ≤ under (record { rise = r' j; fall = l' j }))) → (gg aa k : ℕ)
    (us : List Dec) → pull over under (ranges_at f g lo k us) (deviations_at r l k us) gg aa
    ≤ pull over under (ranges_at f' g' lo k us) (deviations_at r' l' k us) gg aa
pull_less over under f g f' g' r l r' l' lo h gg aa k [] = omega arith
pull_less over under f g f' g' r l r' l' lo h gg aa k (u ∷ us) =
    let rest = pull_less over under f g f' g' r l r' l' lo h gg aa (k + 1) us in
    let one = mul-le-mul_right (distance lo u * gg - aa) (h k).0 in
    let two = mul-le-mul_right (aa - distance lo u * gg) (h k).1 in
    both one two rest
  where
    both : {p p' q q' t t' : ℕ} → p ≤ p' → q ≤ q' → t ≤ t' → p + q + t ≤ p' + q' + t'
    both h k l = omega arith

served_less : (w h h' s s' d d' : ℕ) → 1 ≤ h' → 1 ≤ s' → h' ≤ h → s' ≤ s → d ≤ d' → (u u' g floors n : ℕ) → u ≤ u'
    → (65025 * h' * u' + (d' * h' + floors * w) * (s' * g)) * 1000000 ≤ n * (255 * h' * w * (s' * g))
    → (65025 * h * u + (d * h + floors * w) * (s * g)) * 1000000 ≤ n * (255 * h * w * (s * g))
served_less w h h' s s' d d' hp sp hh hs hd u u' g floors n hu c =
    let c1 : ((65025 * h' * u' + (d' * h' + floors * w) * (s' * g)) * 1000000) * (h * s)
    ≤ (n * (255 * h' * w * (s' * g))) * (h * s) = mul-le-mul_right (h * s) c in
    let a : u * s' ≤ u' * s = mul-le u s' u' s hu hs in
    let a1 : (u * s') * (65025 * h * h' * 1000000) ≤ (u' * s) * (65025 * h * h' * 1000000) =
    mul-le-mul_right (65025 * h * h' * 1000000) a in
    let b1 : d * (h * s * g * h' * s' * 1000000) ≤ d' * (h * s * g * h' * s' * 1000000) =
    mul-le-mul_right (h * s * g * h' * s' * 1000000) hd in
    let e1 : h' * (floors * w * s * g * s' * 1000000) ≤ h * (floors * w * s * g * s' * 1000000) =
    mul-le-mul_right (floors * w * s * g * s' * 1000000) hh in
    let z : ((65025 * h * u + (d * h + floors * w) * (s * g)) * 1000000) * (h' * s')
    ≤ (n * (255 * h * w * (s * g))) * (h' * s') = omega arith in
    le_of_mul-le-mul_right z (mul-pos hp sp)

served_same : (w h s d u u' g floors n : ℕ) → u ≤ u'
    → (65025 * h * u' + (d * h + floors * w) * (s * g)) * 1000000 ≤ n * (255 * h * w * (s * g))
    → (65025 * h * u + (d * h + floors * w) * (s * g)) * 1000000 ≤ n * (255 * h * w * (s * g))
served_same w h s d u u' g floors n hu c =
    let a : u * (65025 * h * 1000000) ≤ u' * (65025 * h * 1000000) = mul-le-mul_right (65025 * h * 1000000) hu in
    omega arith

-- what serves the pulls u' serves no greater ones
abbrev ServesLess : ℕ → ℕ → ℕ → ℕ → ℕ → ℕ → ℕ → Type 0
ServesLess w h h' s s' d d' = (u u' g floors n : ℕ) → u ≤ u'
    → (65025 * h' * u' + (d' * h' + floors * w) * (s' * g)) * 1000000 ≤ n * (255 * h' * w * (s' * g))
    → (65025 * h * u + (d * h + floors * w) * (s * g)) * 1000000 ≤ n * (255 * h * w * (s * g))

module _ (x : Output) (f g f' g' r l r' l' : ℕ → ℕ) (s s' d d' h h' : ℕ)
    (serves : ServesLess (distance x.lo x.hi) h h' s s' d d') (hf : (j : ℕ) → f' j ≤ f j) (hg : (j : ℕ) → g j ≤ g' j)
    (hr : (j : ℕ) → r j ≤ r' j) (hl : (j : ℕ) → l j ≤ l' j) where
  abbrev w : ℕ
  w = distance x.lo x.hi

  abbrev ts : List MassRange
  ts = ranges_at f g x.lo 0 x.singletons

  abbrev ts' : List MassRange
  ts' = ranges_at f' g' x.lo 0 x.singletons

  abbrev ds : List Deviation
  ds = deviations_at r l 0 x.singletons

  abbrev ds' : List Deviation
  ds' = deviations_at r' l' 0 x.singletons

  side_less : (over under : Deviation → ℕ) (floors n : ℕ) (ms : List ℕ)
      → ((j : ℕ) → (over (record { rise = r j; fall = l j }) ≤ over (record { rise = r' j; fall = l' j }))
      × (under (record { rise = r j; fall = l j }) ≤ under (record { rise = r' j; fall = l' j })))
      → (65025 * h' * pull over under ts' ds' (total ms) (weighted ts' ms) + (d' * h' + floors * w) * (s' * total ms))
      * 1000000 ≤ n * (255 * h' * w * (s' * total ms))
      → (65025 * h * pull over under ts ds (total ms) (weighted ts ms) + (d * h + floors * w) * (s * total ms))
      * 1000000 ≤ n * (255 * h * w * (s * total ms))
  side_less over under floors n ms each c =
      let same : weighted ts' ms ≡ weighted ts ms = weighted_same f' g' f g x.lo 0 x.singletons ms in
      let p = pull_less over under f g f' g' r l r' l' x.lo each (total ms) (weighted ts ms) 0 x.singletons in
      let k : pull over under ts ds (total ms) (weighted ts ms) ≤ pull over under ts' ds' (total ms) (weighted ts' ms) =
      subst (λ a. pull over under ts ds (total ms) (weighted ts ms) ≤ pull over under ts' ds' (total ms) a) (sym same) p
      in
      serves (pull over under ts ds (total ms) (weighted ts ms)) (pull over under ts' ds' (total ms) (weighted ts' ms))
      (total ms) floors n k c

  mean_less : (n m : ℕ) → IsMeanError (record { width = w; sum = s; offset = d; parts = h }) ts ds n
      → IsMeanError (record { width = w; sum = s'; offset = d'; parts = h' }) ts' ds' m → n ≤ m
  mean_less n m p q = p.least m (λ small ms between.
      let c = q.covers small ms (between_more f g f' g' x.lo hf hg 0 x.singletons ms between) in record {
        up = side_less (λ d. d.rise) (λ d. d.fall) 1 m ms (λ j. (hr j, hl j)) c.up;
        down = side_less (λ d. d.fall) (λ d. d.rise) 0 m ms (λ j. (hl j, hr j)) c.down;
      })

-- ---- on a smaller box

pub part-mono : (f g : Fraction) → IsProper f → IsProper g → AtMost f g
    → 255 * billion * f.num / f.den ≤ 255 * billion * g.num / g.den
part-mono f g pf pg l =
    let q = 255 * billion * f.num / f.den in
    let a : q * f.den ≤ 255 * billion * f.num = (let p = pf.pos in floor f.num f.den) in
    let c : (q * f.den) * g.den ≤ (255 * billion * f.num) * g.den = mul-le-mul_right g.den a in
    let d : (f.num * g.den) * (255 * billion) ≤ (g.num * f.den) * (255 * billion) =
    mul-le-mul_right (255 * billion) l.cross in
    let e : (q * g.den) * f.den ≤ (255 * billion * g.num) * f.den = omega arith in
    le-div q (255 * billion * g.num) g.den pg.pos (le_of_mul-le-mul_right e pf.pos)
  where
    floor : (n d : ℕ) → 255 * billion * n / d * d ≤ 255 * billion * n
    floor n d = omega arith

pub both_tests : (n m : ℕ) → n ≡ 0 → m ≡ 0 → ((n == 0) && (m == 0)) ≡ true
both_tests n m e f = rw (e, f) refl

less_if : {e f : ℕ} → (c d : Bool) → (d ≡ true → c ≡ true) → e ≤ f → (if c then 0 else e) ≤ (if d then 0 else f)
less_if true true h l = omega arith
less_if true false h l = omega arith
less_if false true h l = absurd (let p = h refl in let z : ⊥ = cc in z)
less_if false false h l = l

none_test : (n m : ℕ) → n ≤ m → (m == 0) ≡ true → (n == 0) ≡ true
none_test n m h e = grind (arith, nat_tests)

-- the numbers of the rules that are not still
moving_less : (b : Block) (small box : List Interval) (o : ℕ) (f g : Rule → ℕ)
    → ((r : Rule) → is_still b box r ≡ true → is_still b small r ≡ true)
    → ((k : ℕ) (r : Rule) → k < length b.rules → f (get_or b.rules k r) ≤ g (get_or b.rules k r)) → (t : ℕ)
    → greatest_of (λ r. if_moving b small r (f r)) o t b.rules ≤ greatest_of (λ r. if_moving b box r (g r)) o t b.rules
moving_less b small box o f g still less t =
    greatest_of-mono (λ r. if_moving b small r (f r)) (λ r. if_moving b box r (g r)) o t b.rules (λ k d l.
    let r = get_or b.rules k d in less_if (is_still b small r) (is_still b box r) (still r) (less k d l))

module _ (b : Block) (small box : List Interval) (valid : IsValid b) (count : length box ≡ length b.inputs)
    (ins : IsInside small box) (some : IsBox small) (o : ℕ) (x : Output) where
  narrow : (r : Rule) → IsNarrow (rule_span b small r) (rule_span b box r) (rule_byte_span b small r)
      (rule_byte_span b box r)
  narrow r = rule_narrow b small box valid count ins some r

  still_inside : (r : Rule) → is_still b box r ≡ true → is_still b small r ≡ true
  still_inside r h =
      let n = narrow r in
      let s = IsStill-test b box r h in
      both_tests (rule_span b small r).high.num (rule_byte_span b small r).high
      (none_below (rule_span b small r).high (rule_span b box r).high n.span.high.right n.span.high.below s.high)
      (below n.byte_span.high s.byte_high)
    where
      below : {p q : ℕ} → p ≤ q → q ≡ 0 → p ≡ 0
      below h k = omega arith

  low_rises : (t : ℕ) → low_of b box o t ≤ low_of b small o t
  low_rises t = greatest_of-mono (low_part b box) (low_part b small) o t b.rules (λ k d l.
      let r = get_or b.rules k d in
      let n = narrow r in
      part-mono (rule_span b box r).low (rule_span b small r).low n.span.low.left n.span.low.right n.span.low.below)

  byte_low_rises : (t : ℕ) → byte_low_of b box o t ≤ byte_low_of b small o t
  byte_low_rises t = greatest_of-mono (λ r. (rule_byte_span b box r).low) (λ r. (rule_byte_span b small r).low) o t
      b.rules (λ k d l. (narrow (get_or b.rules k d)).byte_span.low)

  byte_high_falls : (t : ℕ) → byte_high_of b small o t ≤ byte_high_of b box o t
  byte_high_falls t = greatest_of-mono (λ r. (rule_byte_span b small r).high) (λ r. (rule_byte_span b box r).high) o t
      b.rules (λ k d l. (narrow (get_or b.rules k d)).byte_span.high)

  live_falls : (t n : ℕ) → if_live b small o t n ≤ if_live b box o t n
  live_falls t n = less_if (byte_high_of b small o t == 0) (byte_high_of b box o t == 0)
      (none_test (byte_high_of b small o t) (byte_high_of b box o t) (byte_high_falls t)) (omega arith)

  any_term : All (λ (u : Dec). Unit {0}) x.singletons
  any_term k d l = tt

  offset_falls : live_offset b small o x ≤ live_offset b box o x
  offset_falls = greatest_over-mono {P = λ u. Unit {0}} (λ t s. if_live b small o t (offset x s))
      (λ t s. if_live b box o t (offset x s)) (λ t s _. live_falls t (offset x s)) 1 x.singletons any_term

  sum_rises : sure_sum b box o x ≤ sure_sum b small o x
  sum_rises = sum_over-mono {P = λ u. Unit {0}} (λ t u. low_of b box o t) (λ t u. low_of b small o t)
      (λ t u _. low_rises t) 1 x.singletons any_term

  bytes_rise : sure_bytes b box o x ≤ sure_bytes b small o x
  bytes_rise = sum_over-mono {P = λ u. Unit {0}} (λ t u. byte_low_of b box o t) (λ t u. byte_low_of b small o t)
      (λ t u _. byte_low_rises t) 1 x.singletons any_term

  sure_inside : IsSure b box o x → IsSure b small o x
  sure_inside s = record { sum = rises s.sum sum_rises; bytes = rises s.bytes bytes_rise }
    where
      rises : {p q : ℕ} → 1 ≤ p → p ≤ q → 1 ≤ q
      rises h k = omega arith

  module _ (e f : ℕ → ℕ → Span ℕ) (es : AreTermErrors b small e) (fs : AreTermErrors b box f) where
    rise_falls : (t : ℕ) → rise_of b small e o t ≤ rise_of b box f o t
    rise_falls = moving_less b small box o (rule_rise e) (rule_rise f) still_inside
        (λ k d l. less_rise b small box e f count ins es fs (get_or b.rules k d) (valid.rules k d l))

    fall_falls : (t : ℕ) → fall_of b small e o t ≤ fall_of b box f o t
    fall_falls = moving_less b small box o (rule_fall e) (rule_fall f) still_inside
        (λ k d l. less_fall b small box e f count ins es fs (get_or b.rules k d) (valid.rules k d l))

    sure_falls : (h n m : ℕ) → 1 ≤ h → IsSure b box o x → IsSureBound b small e o x h n → IsSureBound b box f o x h m
        → n ≤ m
    sure_falls h n m hh s =
        mean_less x (λ k. byte_low_of b small o (k + 1)) (λ k. byte_high_of b small o (k + 1))
        (λ k. byte_low_of b box o (k + 1)) (λ k. byte_high_of b box o (k + 1)) (λ k. rise_of b small e o (k + 1))
        (λ k. fall_of b small e o (k + 1)) (λ k. rise_of b box f o (k + 1)) (λ k. fall_of b box f o (k + 1))
        (sure_sum b small o x) (sure_sum b box o x) (live_offset b small o x) (live_offset b box o x) h h
        (served_less (distance x.lo x.hi) h h (sure_sum b small o x) (sure_sum b box o x) (live_offset b small o x)
        (live_offset b box o x) hh s.sum (omega arith) sum_rises offset_falls) (λ j. byte_low_rises (j + 1)) (λ j. byte_high_falls (j + 1))
        (λ j. rise_falls (j + 1)) (λ j. fall_falls (j + 1)) n m

-- no Bound is above the whole range
silent_small : (x : Output) → silent_bound x ≤ 1000000
silent_small x = by_default x.default
  where
    by_default : (d : Option Dec)
        → option_map_or (λ d. min 1000000 (up_div (1000000 * offset x d) (255 * distance x.lo x.hi))) d 0 ≤ 1000000
    by_default None = omega arith
    by_default (Some d) = omega arith

pub small_bound : (b : Block) (box : List Interval) (o : ℕ) (x : Output) (h n : ℕ) → IsTightBound b box o x h n
    → n ≤ 1000000
small_bound b box o x h n (tight_silent quiet is) = moved is refl (silent_small x)
small_bound b box o x h n (sure e es s is) = is.least 1000000 (λ small. absurd (omega arith))

pub tight_inside : MeansHaveErrors → TightBoundsHoldInside
tight_inside have b small box o x h m valid ex hh count ins some (tight_silent quiet is) = (
  silent_bound x,
  tight_silent (leaves_hold_inside b small box o silent_leaf valid count ins some quiet) refl,
  moved refl is (omega arith),
)
tight_inside have b small box o x h m valid ex hh count ins some (sure f fs s is) =
    let vx : IsValidOutput x = All-slice_get IsValidOutput b.outputs (o - 1) x valid.outputs ex in
    let e = term_errors b small in
    let es = term_errors-are b small valid some in
    let t = sure_inside b small box valid count ins some o x s in
    let n = sure_has have b small e o x vx.range h hh t in (
      n.0,
      sure e es t n.1,
      sure_falls b small box valid count ins some o x e f es fs h n.0 m hh s n.1 is,
    )

pub tight_falls : TightBoundsFallInside
tight_falls b small box o x h n m valid ex hh count ins some p q = by_box p q
  where
    to_inside : IsSure b box o x → IsSure b small o x
    to_inside = sure_inside b small box valid count ins some o x

    quiet_inside : Holds b box o silent_leaf → Holds b small o silent_leaf
    quiet_inside = leaves_hold_inside b small box o silent_leaf valid count ins some

    by_bounds : IsTightBound b small o x h n → IsTightBound b box o x h m → n ≤ m
    by_bounds (tight_silent quiet is) (tight_silent _ are) = moved is are (omega arith)
    by_bounds (tight_silent quiet is) (sure f fs s are) = absurd (not_both b small o x quiet (to_inside s))
    by_bounds (sure e es s is) (tight_silent quiet are) = absurd (not_both b small o x (quiet_inside quiet) s)
    by_bounds (sure e es _ is) (sure f fs s are) =
        sure_falls b small box valid count ins some o x e f es fs h n m hh s is are

    by_box : IsTightCount b small o x h n → IsTightCount b box o x h m → n ≤ m
    by_box (of_bound p) (of_bound q) = by_bounds p q
    by_box (of_bound p) (of_none _ _ are) = (let s = small_bound b small o x h n p in omega arith)
    by_box (of_none _ _ is) (of_none _ _ are) = omega arith
    by_box (of_none loud unsure is) (of_bound (tight_silent quiet are)) = absurd (loud (quiet_inside quiet))
    by_box (of_none loud unsure is) (of_bound (sure f fs s are)) = absurd (unsure (to_inside s))

-- ---- of one box

module _ (b : Block) (box : List Interval) (valid : IsValid b) (count : length box ≡ length b.inputs) (o : ℕ)
    (x : Output) where
  rise_below : (e f : ℕ → ℕ → Span ℕ) → AreTermErrors b box e → AreTermErrors b box f → (t : ℕ)
      → rise_of b box e o t ≤ rise_of b box f o t
  rise_below e f es fs = moving_less b box box o (rule_rise e) (rule_rise f) (λ r s. s)
      (λ k d l. less_rise b box box e f count (inside_itself box) es fs (get_or b.rules k d) (valid.rules k d l))

  fall_below : (e f : ℕ → ℕ → Span ℕ) → AreTermErrors b box e → AreTermErrors b box f → (t : ℕ)
      → fall_of b box e o t ≤ fall_of b box f o t
  fall_below e f es fs = moving_less b box box o (rule_fall e) (rule_fall f) (λ r s. s)
      (λ k d l. less_fall b box box e f count (inside_itself box) es fs (get_or b.rules k d) (valid.rules k d l))

  sure_below : (e f : ℕ → ℕ → Span ℕ) → AreTermErrors b box e → AreTermErrors b box f → (h n m : ℕ)
      → IsSureBound b box e o x h n → IsSureBound b box f o x h m → n ≤ m
  sure_below e f es fs h n m =
      mean_less x (λ k. byte_low_of b box o (k + 1)) (λ k. byte_high_of b box o (k + 1))
      (λ k. byte_low_of b box o (k + 1)) (λ k. byte_high_of b box o (k + 1)) (λ k. rise_of b box e o (k + 1))
      (λ k. fall_of b box e o (k + 1)) (λ k. rise_of b box f o (k + 1)) (λ k. fall_of b box f o (k + 1))
      (sure_sum b box o x) (sure_sum b box o x) (live_offset b box o x) (live_offset b box o x) h h
      (served_same (distance x.lo x.hi) h (sure_sum b box o x) (live_offset b box o x)) (λ j. omega arith) (λ j. omega arith)
      (λ j. rise_below e f es fs (j + 1)) (λ j. fall_below e f es fs (j + 1)) n m

  one_bound : (h n m : ℕ) → IsTightBound b box o x h n → IsTightBound b box o x h m → n ≡ m
  one_bound h n m (tight_silent quiet is) (tight_silent _ are) = is ∙ sym are
  one_bound h n m (tight_silent quiet is) (sure f fs s are) = absurd (not_both b box o x quiet s)
  one_bound h n m (sure e es s is) (tight_silent quiet are) = absurd (not_both b box o x quiet s)
  one_bound h n m (sure e es _ is) (sure f fs s are) =
      both (sure_below e f es fs h n m is are) (sure_below f e fs es h m n are is)
    where
      both : {m n : ℕ} → m ≤ n → n ≤ m → m ≡ n
      both l k = omega arith

pub tight_one : TightBoundsAreOne
tight_one b box o x h n m valid count (of_bound p) (of_bound q) = one_bound b box valid count o x h n m p q
tight_one b box o x h n m valid count (of_bound (tight_silent quiet is)) (of_none loud unsure are) =
    absurd (loud quiet)
tight_one b box o x h n m valid count (of_bound (sure e es s is)) (of_none loud unsure are) = absurd (unsure s)
tight_one b box o x h n m valid count (of_none loud unsure is) (of_bound (tight_silent quiet are)) =
    absurd (loud quiet)
tight_one b box o x h n m valid count (of_none loud unsure is) (of_bound (sure e es s are)) = absurd (unsure s)
tight_one b box o x h n m valid count (of_none _ _ is) (of_none _ _ are) = is ∙ sym are

-- ---- in more parts to a byte

pub tight_parts : MeansHaveErrors → TightBoundsFallWithParts
tight_parts have b box o x h n valid ex hh (tight_silent quiet is) =
    (silent_bound x, tight_silent quiet refl, moved refl is (omega arith))
tight_parts have b box o x h n valid ex hh (sure e es s is) =
    let vx : IsValidOutput x = All-slice_get IsValidOutput b.outputs (o - 1) x valid.outputs ex in
    let m = sure_has have b box e o x vx.range h hh s in
    let d = live_offset b box o x in
    let l = sure_sum b box o x in (
      m.0,
      sure e es s m.1,
      mean_less x (λ k. byte_low_of b box o (k + 1)) (λ k. byte_high_of b box o (k + 1))
          (λ k. byte_low_of b box o (k + 1)) (λ k. byte_high_of b box o (k + 1)) (λ k. rise_of b box e o (k + 1))
          (λ k. fall_of b box e o (k + 1)) (λ k. rise_of b box e o (k + 1)) (λ k. fall_of b box e o (k + 1)) l l d d h 1
          (served_less (distance x.lo x.hi) h 1 l l d d (omega arith) s.sum hh (omega arith) (omega arith))
          (λ j. omega arith) (λ j. omega arith) (λ j. omega arith) (λ j. omega arith) m.0 n m.1 is,
    )

-- ---- the masses of an output's terms as the code finds them

-- ---- from the last term on

pub sum_back : (f : ℕ → Dec → ℕ) (us : List Dec) (k : ℕ) (d : Dec) → 1 ≤ k → k ≤ length us
    → f (k - 1 + 1) (get_or us (k - 1) d) + sum_over f (k + 1) (drop k us)
    ≡ sum_over f (k - 1 + 1) (drop (k - 1) us)
sum_back f us k d some upto =
    let next : k + 1 ≡ k - 1 + 1 + 1 = omega arith in
    ap (λ n. f (k - 1 + 1) (get_or us (k - 1) d) + sum_over f n (drop k us)) next
    ∙ sym (ap (sum_over f (k - 1 + 1)) (drop_back us k _ d some upto refl))

greatest_back : (f : ℕ → Dec → ℕ) (us : List Dec) (k : ℕ) (d : Dec) → 1 ≤ k → k ≤ length us
    → max (f (k - 1 + 1) (get_or us (k - 1) d)) (greatest_over f (k + 1) (drop k us))
    ≡ greatest_over f (k - 1 + 1) (drop (k - 1) us)
greatest_back f us k d some upto =
    let next : k + 1 ≡ k - 1 + 1 + 1 = omega arith in
    ap (λ n. max (f (k - 1 + 1) (get_or us (k - 1) d)) (greatest_over f n (drop k us))) next
    ∙ sym (ap (greatest_over f (k - 1 + 1)) (drop_back us k _ d some upto refl))

pub chosen_small : {n m : ℕ} (c : Bool) → n ≤ m → (if c then 0 else n) ≤ m
chosen_small true h = omega arith
chosen_small false h = h

max_small : {a c m n : ℕ} → n ≡ max a c → a ≤ m → c ≤ m → n ≤ m
max_small e h k = omega arith

-- one singleton more, where its term has a mass
pub greatest_if_some : (f : Dec → ℕ) (m : ℕ) (highs : List ℕ) (us : List Dec) (k : ℕ) (d : Dec) (n chosen old new : ℕ)
    → 1 ≤ k → k ≤ length us → n ≡ f (get_or us (k - 1) d) → n ≤ m
    → chosen ≡ (if slice_index highs (k - 1) == 0 then 0 else n) → new ≡ max chosen old
    → (old ≤ m) × (old ≡ greatest_over (λ t s. if_some highs t (f s)) (k + 1) (drop k us))
    → (new ≤ m) × (new ≡ greatest_over (λ t s. if_some highs t (f s)) (k - 1 + 1) (drop (k - 1) us))
greatest_if_some f m highs us k d n chosen old new some upto n_is small chosen_is new_is before =
    let here : k - 1 ≡ k - 1 + 1 - 1 = omega arith in
    let value : chosen ≡ if_some highs (k - 1 + 1) (f (get_or us (k - 1) d)) =
    chosen_is ∙ ap₂ (λ j a. if slice_index highs j == 0 then 0 else a) here n_is in (
      max_small new_is (subst (λ a. a ≤ m) (sym chosen_is)
          (chosen_small (slice_index highs (k - 1) == 0) small)) before.0,
      new_is ∙ ap₂ (λ a c. max a c) value before.1
          ∙ greatest_back (λ t s. if_some highs t (f s)) us k d some upto,
    )

-- ---- of rules

pub raised-le : (p : Bool) (x y a n : ℕ) → a ≡ (if p then max x y else y) → x ≤ n → y ≤ n → a ≤ n
raised-le true x y a n e hx hy = omega arith
raised-le false x y a n e hx hy = omega arith

-- one rule more
pub AreGreatest-raised : {f : Rule → ℕ} {n o : ℕ} {r : Rule} {rest rs : List Rule} {value : ℕ} {old new : List ℕ}
    → rs ≡ r ∷ rest → value ≡ f r → value ≤ n → AreGreatest f n o rest old
    → ((t : ℕ) → t < 15 → slice_index new t
    ≡ (if concludes r o (t + 1) then max value (slice_index old t) else slice_index old t))
    → AreGreatest f n o rs new
AreGreatest-raised {f} {n} {o} {r} {rest} {rs} {value} {old} {new} here is to before raised = record {
  each = λ t few. raised t few
      ∙ ap₂ (λ x y. if concludes r o (t + 1) then max x y else y) is (before.each t few)
      ∙ sym (ap (greatest_of f o (t + 1)) here);
  small = λ t few. raised-le (concludes r o (t + 1)) value (slice_index old t) (slice_index new t) n (raised t few) to
      (before.small t few);
}

skipped-is : (p : Bool) (x y : ℕ) → (p ≡ true → x ≤ y) → y ≡ (if p then max x y else y)
skipped-is true x y within = let z = within refl in omega arith
skipped-is false x y within = refl

-- one that raises nothing
pub AreGreatest-within : {f : Rule → ℕ} {n o : ℕ} {r : Rule} {rest rs : List Rule} {values : List ℕ} → rs ≡ r ∷ rest
    → ((t : ℕ) → t < 15 → concludes r o (t + 1) ≡ true → f r ≤ slice_index values t) → AreGreatest f n o rest values
    → AreGreatest f n o rs values
AreGreatest-within {f} {n} {o} {r} {rest} {rs} {values} here within before = record {
  each = λ t few. before.each t few
      ∙ skipped-is (concludes r o (t + 1)) (f r) (greatest_of f o (t + 1) rest)
      (λ c. subst (λ m. f r ≤ m) (before.each t few) (within t few c))
      ∙ sym (ap (greatest_of f o (t + 1)) here);
  small = before.small;
}

-- one that counts for nothing
pub AreGreatest-skipped : {f : Rule → ℕ} {n o : ℕ} {r : Rule} {rest rs : List Rule} {values : List ℕ} → rs ≡ r ∷ rest
    → (concludes_some r o ≡ true → f r ≡ 0) → AreGreatest f n o rest values → AreGreatest f n o rs values
AreGreatest-skipped {o = o} {r = r} here none =
    AreGreatest-within here (λ t few c. omega (arith, none (any-some o (t + 1) r.concl c)))

both_ways : {m n : ℕ} → m ≤ n → n ≤ m → m ≡ n
both_ways l k = omega arith

pub low_part-same : (f g : Fraction) → IsSame f g
    → 255 * billion * f.num / f.den ≡ 255 * billion * g.num / g.den
low_part-same f g s = both_ways (part-mono f g s.left s.right s.below) (part-mono g f s.right s.left s.above)

pub test-same : (n m : ℕ) → (n ≡ 0 → m ≡ 0) → (m ≡ 0 → n ≡ 0) → (n == 0) ≡ (m == 0)
test-same n m h k = by_bool (n == 0) (m == 0) refl refl
  where
    by_bool : (c d : Bool) → (n == 0) ≡ c → (m == 0) ≡ d → c ≡ d
    by_bool true true p q = refl
    by_bool false false p q = refl
    by_bool true false p q = absurd (let z : n ≡ 0 = grind (arith, nat_tests) in
        let y : m ≡ 0 = h z in let x : ⊥ = grind (arith, nat_tests) in x)
    by_bool false true p q = absurd (let z : m ≡ 0 = grind (arith, nat_tests) in
        let y : n ≡ 0 = k z in let x : ⊥ = grind (arith, nat_tests) in x)

pub back_same : (f g : Fraction) → IsSame f g → IsSame g f
back_same f g s = record { left = s.right; right = s.left; below = s.above; above = s.below }

-- whether a rule is still, by its upper end
pub still-same : (b : Block) (box : List Interval) (r : Rule) (high : End) → IsEndOfRule b box r High high
    → (((value_of high.truth).num == 0) && (high.byte == 0)) ≡ is_still b box r
still-same b box r high end =
    ap₂ (λ c d. c && d)
    (test-same (value_of high.truth).num (rule_span b box r).high.num
    (none_same (value_of high.truth) (rule_span b box r).high end.value)
    (none_same (rule_span b box r).high (value_of high.truth)
    (back_same (value_of high.truth) (rule_span b box r).high end.value)))
    (ap (λ n. n == 0) end.byte)

pub low_part-end : (b : Block) (box : List Interval) (r : Rule) (low : End) → IsEndOfRule b box r Low low
    → 255000000000 * (value_of low.truth).num / (value_of low.truth).den ≡ low_part b box r
low_part-end b box r low end = low_part-same (value_of low.truth) (rule_span b box r).low end.value

pub up-mono : (c : ℕ) (f g : Fraction) → IsProper f → IsProper g → AtMost f g
    → up_div (c * f.num) f.den ≤ up_div (c * g.num) g.den
up-mono c f g pf pg l =
    let e = up_div (c * g.num) g.den in
    let a : c * g.num ≤ e * g.den = le-up_div (c * g.num) g.den pg.pos in
    let a1 : (c * g.num) * f.den ≤ (e * g.den) * f.den = mul-le-mul_right f.den a in
    let a2 : (f.num * g.den) * c ≤ (g.num * f.den) * c = mul-le-mul_right c l.cross in
    let a3 : (c * f.num) * g.den ≤ (e * f.den) * g.den = omega arith in
    up_div-le (c * f.num) f.den e pf.pos (le_of_mul-le-mul_right a3 pg.pos)

pub up-same : (c : ℕ) (f g : Fraction) → IsSame f g → up_div (c * f.num) f.den ≡ up_div (c * g.num) g.den
up-same c f g s = both_ways (up-mono c f g s.left s.right s.below) (up-mono c g f s.right s.left s.above)

pub high_part-end : (b : Block) (box : List Interval) (r : Rule) (high : End) → IsEndOfRule b box r High high
    → up_div (255000000000 * (value_of high.truth).num) (value_of high.truth).den ≡ high_part b box r
high_part-end b box r high end = up-same (255 * billion) (value_of high.truth) (rule_span b box r).high end.value

-- ---- from the terms' numbers to the spec's

sum_over-same : (f g : ℕ → Dec → ℕ) → ((t : ℕ) (u : Dec) → 1 ≤ t → t ≤ 15 → f t u ≡ g t u) → (t : ℕ) (us : List Dec)
    → 1 ≤ t → t + length us ≤ 16 → sum_over f t us ≡ sum_over g t us
sum_over-same f g h t [] from to = refl
sum_over-same f g h t (u ∷ us) from to =
    ap₂ (λ a c. a + c) (h t u from (omega arith)) (sum_over-same f g h (t + 1) us (omega arith) (omega arith))

greatest_over-same : (f g : ℕ → Dec → ℕ) → ((t : ℕ) (u : Dec) → 1 ≤ t → t ≤ 15 → f t u ≡ g t u) → (t : ℕ)
    (us : List Dec) → 1 ≤ t → t + length us ≤ 16 → greatest_over f t us ≡ greatest_over g t us
greatest_over-same f g h t [] from to = refl
greatest_over-same f g h t (u ∷ us) from to =
    ap₂ (λ a c. max a c) (h t u from (omega arith)) (greatest_over-same f g h (t + 1) us (omega arith) (omega arith))

ranges-same : (f f' g g' : ℕ → ℕ) (lo : Dec) → ((j : ℕ) → j < 15 → f j ≡ f' j) → ((j : ℕ) → j < 15 → g j ≡ g' j)
    → (k : ℕ) (us : List Dec) → k + length us ≤ 15 → ranges_at f g lo k us ≡ ranges_at f' g' lo k us
ranges-same f f' g g' lo hf hg k [] l = refl
ranges-same f f' g g' lo hf hg k (u ∷ us) l =
    ap₂ (λ (t : MassRange) (ts : List MassRange). t ∷ ts)
    (ap₂ (λ (m n : ℕ). let t : MassRange = record { at = distance lo u; low = m; high = n } in t)
    (hf k (omega arith)) (hg k (omega arith)))
    (ranges-same f f' g g' lo hf hg (k + 1) us (omega arith))

deviations-same : (f f' g g' : ℕ → ℕ) → ((j : ℕ) → j < 15 → f j ≡ f' j) → ((j : ℕ) → j < 15 → g j ≡ g' j)
    → (k : ℕ) (us : List Dec) → k + length us ≤ 15 → deviations_at f g k us ≡ deviations_at f' g' k us
deviations-same f f' g g' hf hg k [] l = refl
deviations-same f f' g g' hf hg k (u ∷ us) l =
    ap₂ (λ (t : Deviation) (ts : List Deviation). t ∷ ts)
    (ap₂ (λ (m n : ℕ). let t : Deviation = record { rise = m; fall = n } in t) (hf k (omega arith)) (hg k (omega arith)))
    (deviations-same f f' g g' hf hg (k + 1) us (omega arith))

module _ (b : Block) (box : List Interval) (o : ℕ) (x : Output) (m : Masses) (ms : AreMasses b box o m)
    (few : length x.singletons ≤ 15) where
  at_term : (f : Rule → ℕ) (n : ℕ) (values : List ℕ) → AreGreatest f n o b.rules values → (t : ℕ) → 1 ≤ t → t ≤ 15
      → slice_index values (t - 1) ≡ greatest_of f o t b.rules
  at_term f n values g t from to =
      let back : t - 1 + 1 ≡ t = omega arith in
      g.each (t - 1) (omega arith) ∙ ap (λ k. greatest_of f o k b.rules) back

  pub sum-same : sum_at m.lows x.singletons ≡ sure_sum b box o x
  sum-same = sum_over-same (λ t u. slice_index m.lows (t - 1)) (λ t u. low_of b box o t)
      (λ t u from to. at_term (low_part b box) 255000000000 m.lows ms.lows t from to) 1 x.singletons (omega arith)
      (omega arith)

  pub bytes-same : sum_at m.byte_lows x.singletons ≡ sure_bytes b box o x
  bytes-same = sum_over-same (λ t u. slice_index m.byte_lows (t - 1)) (λ t u. byte_low_of b box o t)
      (λ t u from to. at_term (λ r. (rule_byte_span b box r).low) 255 m.byte_lows ms.byte_lows t from to) 1
      x.singletons (omega arith) (omega arith)

  live-same : (t n : ℕ) → 1 ≤ t → t ≤ 15 → if_some m.byte_highs t n ≡ if_live b box o t n
  live-same t n from to = ap (λ k. if k == 0 then 0 else n)
      (at_term (λ r. (rule_byte_span b box r).high) 255 m.byte_highs ms.byte_highs t from to)

  offset-same : offset_at m.byte_highs x ≡ live_offset b box o x
  offset-same = greatest_over-same (λ t s. if_some m.byte_highs t (offset x s))
      (λ t s. if_live b box o t (offset x s)) (λ t s from to. live-same t (offset x s) from to) 1 x.singletons
      (omega arith) (omega arith)

  scale-same : (h : ℕ) → scale_at m x h ≡ scale b box o x h
  scale-same h = ap₂ (λ (l d : ℕ). let s : Scale = record { width = distance x.lo x.hi; sum = l; offset = d; parts = h }
      in s) sum-same offset-same

  byte_ranges-same : byte_ranges_at m x ≡ byte_ranges b box o x
  byte_ranges-same = ranges-same (slice_index m.byte_lows) (λ k. byte_low_of b box o (k + 1)) (slice_index m.byte_highs)
      (λ k. byte_high_of b box o (k + 1)) x.lo ms.byte_lows.each ms.byte_highs.each 0 x.singletons (omega arith)

  deviations_of-same : (d : Deviations) → AreDeviations b box o d
      → deviations_of d x ≡ deviations b box (term_errors b box) o x
  deviations_of-same d ds = deviations-same (slice_index d.rises) (λ k. rise_of b box (term_errors b box) o (k + 1))
      (slice_index d.falls) (λ k. fall_of b box (term_errors b box) o (k + 1)) ds.rises.each ds.falls.each 0
      x.singletons (omega arith)

  pub bound-same : (d : Deviations) → AreDeviations b box o d → (h n : ℕ) → IsBoundAt m d x h n
      → IsSureBound b box (term_errors b box) o x h n
  bound-same d ds h n is =
      subst (λ d. IsMeanError (scale b box o x h) (byte_ranges b box o x) d n) (deviations_of-same d ds)
      (subst (λ t. IsMeanError (scale b box o x h) t (deviations_of d x) n) byte_ranges-same
      (subst (λ s. IsMeanError s (byte_ranges_at m x) (deviations_of d x) n) (scale-same h) is))

-- ---- how great they are

pub ranges_fit : (f g : ℕ → ℕ) (lo hi : Dec) → lo.0 <ℤ hi.0 → ((j : ℕ) → j < 15 → f j ≤ g j)
    → ((j : ℕ) → j < 15 → g j ≤ 255) → (k : ℕ) (us : List Dec) → k + length us ≤ 15 → All (IsWithin lo hi) us
    → All (IsByteRange (distance lo hi)) (ranges_at f g lo k us)
ranges_fit f g lo hi range fg hg k [] l h = All-none (IsByteRange (distance lo hi))
ranges_fit f g lo hi range fg hg k (u ∷ us) l h =
    All-cons (IsByteRange (distance lo hi)) (record { at = distance lo u; low = f k; high = g k })
    (ranges_at f g lo (k + 1) us)
    (record {
      at_to = within_width lo hi u range (h 0 u (omega arith));
      ordered = fg k (omega arith);
      high_to = hg k (omega arith);
    })
    (ranges_fit f g lo hi range fg hg (k + 1) us (omega arith) (λ i d j. h (suc i) d (omega arith)))

pub deviations_fit : (f g : ℕ → ℕ) → ((j : ℕ) → j < 15 → f j ≤ 3000000000) → ((j : ℕ) → j < 15 → g j ≤ 3000000000)
    → (k : ℕ) (us : List Dec) → k + length us ≤ 15 → All IsSmallDeviation (deviations_at f g k us)
deviations_fit f g hf hg k [] l = All-none IsSmallDeviation
deviations_fit f g hf hg k (u ∷ us) l =
    All-cons IsSmallDeviation (record { rise = f k; fall = g k }) (deviations_at f g (k + 1) us)
    (record { rise_to = hf k (omega arith); fall_to = hg k (omega arith) })
    (deviations_fit f g hf hg (k + 1) us (omega arith))

-- ---- of a box

module _ (b : Block) (box : List Interval) (o : ℕ) (x : Output) (h : ℕ) (m : Masses) (ms : AreMasses b box o m)
    (few : length x.singletons ≤ 15) (found : output_at b o ≡ Some x) where
  pub some_bound : (d : Deviations) → AreDeviations b box o d → AreTermErrors b box (term_errors b box)
      → (r : Option ℕ) → IfSome r (IsBoundAt m d x h) → IfSome r (λ n. 1 ≤ sum_at m.lows x.singletons)
      → IfSome r (λ n. 1 ≤ sum_at m.byte_lows x.singletons)
      → IfSome r (λ n. IfSome (output_at b o) (λ y. IsTightBound b box o y h n))
  some_bound d ds es None e s t = tt
  some_bound d ds es (Some n) e s t =
      let is_sure : IsSure b box o x = record {
        sum = subst (λ k. 1 ≤ k) (sum-same b box o x m ms few) s;
        bytes = subst (λ k. 1 ≤ k) (bytes-same b box o x m ms few) t;
      } in
      let bounds : IsTightBound b box o x h n =
      sure (term_errors b box) es is_sure (bound-same b box o x m ms few d ds h n e) in
      rw found bounds

  pub none_sure : (r : Option ℕ)
      → IfNone r (1 ≤ sum_at m.lows x.singletons → 1 ≤ sum_at m.byte_lows x.singletons → ⊥)
      → IfNone r (IfSome (output_at b o) (λ y. IsSure b box o y → ⊥))
  none_sure None none =
      let never : IsSure b box o x → ⊥ = λ s. none (subst (λ k. 1 ≤ k) (sym (sum-same b box o x m ms few)) s.sum)
      (subst (λ k. 1 ≤ k) (sym (bytes-same b box o x m ms few)) s.bytes) in
      rw found never
  none_sure (Some n) none = tt

-- over bytes no lower end is above the upper one
pub ends_are_ordered : (b : Block) (box : List Interval) (o : ℕ) (m : Masses) → AreMasses b box o m → (t : ℕ) → t < 15
    → slice_index m.byte_lows t ≤ slice_index m.byte_highs t
ends_are_ordered b box o m ms t few =
    let l = ms.byte_lows.each t few in
    let h = ms.byte_highs.each t few in
    let k = bytes_ordered_at b box o (t + 1) in
    rw (l, h) k

pub none_quiet : {A : Type 0} (r : Option ℕ) → (A → ⊥) → IfNone r (A → ⊥)
none_quiet None h = h
none_quiet (Some n) h = tt
