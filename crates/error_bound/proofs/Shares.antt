-- The rows of an output's terms, the sums over its shares and byte shares, and its answers where a box is sure.
use Rattle.std.proofs.Common.{◌≡◌, ℕ, suc, ◌+◌, ◌*◌, ◌<◌, ◌≤◌, max, Bool, true, false, List, [], ◌∷◌, refl, ap}
use Rattle.std.proofs.Common.{ap₂, ◌∙◌, subst, arith, cond, Some, sym, ◌-◌}
use Rattle.std.proofs.{lemmas.Bool.Decides.nat_tests, lemmas.List.Sums.sum_by-cons}
use Rattle.std.proofs.lemmas.Int.{ints}
use Rattle.std.specs.Prelude.{All, sum_by, IfSome, ◌==◌, ◌&&◌, ◌||◌, ℤ, pos, ◌+ℤ◌, ◌*ℤ◌, ◌≤ℤ◌, ◌<ℤ◌, if◌then◌else◌}
use Rattle.std.specs.List.{list_any}
use borrow.Author.Differences.{up, down}
use Rattle.fz_num.specs.{Fractions.Quotient, Fractions.IsClose, declared.dec.Dec.Dec, Decimals.distance}
use Rattle.fuzzy_meaning.specs.Meaning.{literal_degree, mass, Share, shares_from, common_den, total_mass, weighted_sum}
use Rattle.fuzzy_meaning.specs.Blocks.{IsWithin, IsWeight, HasSingleton, IsValid, output_at, IsValidOutput}
use Rattle.fuzzy_meaning.specs.{declared.block.Output.Output, declared.block.Block.Block}
use Rattle.fuzzy_meaning.specs.Meaning.{shares, centre}
use Rattle.byte_scaling.specs.Cells.{nearest_byte, NearestIsByte, value_in}
use Rattle.point_slope.specs.Bytes.{ByteShare, literal_grade, byte_mass, byte_shares_from, total_mass as byte_total}
use Rattle.point_slope.specs.Bytes.{weighted_sum as byte_weighted, byte_shares}
use Rattle.cell_error.specs.declared.{ranges.MassRange.MassRange, ranges.Deviation.Deviation}
use Rattle.cell_error.specs.Errors.{AreBetween, total, weighted as weighted_by}
use Rattle.cell_error.specs.Means.{pull, up as up_of, down as down_of}
use Rattle.error_bound.specs.Tight.{sum_over, greatest_over, low_of, byte_low_of, byte_high_of, rise_of, fall_of}
use Rattle.error_bound.specs.Tight.{if_live, live_offset, IsSure, IsSureBound, sure_sum, ranges_at, deviations_at}
use Rattle.error_bound.specs.Tight.{byte_ranges, deviations}
use Rattle.error_bound.specs.{Boxes.literal_span, Boxes.literal_byte_span, declared.boxes.Interval.Interval}
use Rattle.error_bound.specs.{Spans.Span}
use Rattle.error_bound.specs.{Bounds.offset, Errors.billion}
use Rattle.error_bound.proofs.Rows.{Row, dens, mass_sum, weighted, total_g, dot_u, dot_s, lows, AllOk, pull_rows}
use Rattle.error_bound.proofs.Rows.{rise_pull, fall_pull}
use Rattle.error_bound.proofs.RuleLemmas.{term_held, term_low, term_bytes}
use Rattle.error_bound.proofs.{Rows.close_value, Rows.rows_near, Rows.mass_pos, Literals.IsWithinSpans}
use Rattle.fz_list.proofs.Algebra.{All-slice_get}

-- of the terms of output o from number t on
abbrev pub rows_from : Block → List Interval → List ℕ → List Dec → (ℕ → ℕ → Span ℕ) → ℕ → Output → ℕ → List Dec → List Row
rows_from b box bytes xs e o x t [] = []
rows_from b box bytes xs e o x t (u ∷ us) =
    record {
      u = distance x.lo u;
      s = nearest_byte x u;
      f = mass b xs o t;
      g = byte_mass b bytes o t;
      rise = rise_of b box e o t;
      fall = fall_of b box e o t;
      l = low_of b box o t;
    } ∷ rows_from b box bytes xs e o x (t + 1) us

step : (lo at z : ℤ) (u n d m wd : ℕ) → at ≡ lo +ℤ pos u → z ≡ lo *ℤ pos m +ℤ pos wd
    → at *ℤ pos n +ℤ pos d *ℤ z ≡ lo *ℤ pos (n + d * m) +ℤ pos (u * n + d * wd)
step lo at z u n d m wd e1 e2 =
    let r1 : up at + down lo ≡ down at + up lo + u = omega (arith, ints) in
    let r2 : up z + down lo * m ≡ down z + up lo * m + wd = omega (arith, ints) in
    let s1 : (up at + down lo) * n ≡ (down at + up lo + u) * n = ap (λ k. k * n) r1 in
    let s2 : (up z + down lo * m) * d ≡ (down z + up lo * m + wd) * d = ap (λ k. k * d) r2 in
    omega (arith, ints)

-- a number above lo by its distance
above : (lo x : Dec) → lo.0 ≤ℤ x.0 → x.0 ≡ lo.0 +ℤ pos (distance lo x)
above lo x h = omega (arith, ints)

-- sums over shares from the low end, and over rows
pub record IsSameSum (lo : Dec) (ss : List Share) (rs : List Row) : Type 0 where
  pub dens_is : common_den ss ≡ dens rs
  pub masses_is : total_mass ss ≡ mass_sum rs
  pub sum_is : weighted_sum ss ≡ lo.0 *ℤ pos (mass_sum rs) +ℤ pos (weighted rs)

module _ (b : Block) (box : List Interval) (bytes : List ℕ) (xs : List Dec) (e : ℕ → ℕ → Span ℕ) (o : ℕ) (x : Output) where
  pub same_sum : (t : ℕ) (us : List Dec) → All (IsWithin x.lo x.hi) us
      → IsSameSum x.lo (shares_from b xs o t us) (rows_from b box bytes xs e o x t us)
  same_sum t [] h = record { dens_is = refl; masses_is = refl; sum_is = omega (arith, ints) }
  same_sum t (u ∷ us) h =
      let k = same_sum (t + 1) us (λ i d l. h (suc i) d (omega arith)) in
      let ss = shares_from b xs o (t + 1) us in
      let rs = rows_from b box bytes xs e o x (t + 1) us in
      let f = mass b xs o t in
      let n1 : f.num * common_den ss ≡ f.num * dens rs = ap (λ a. f.num * a) k.dens_is in
      let n2 : f.den * total_mass ss ≡ f.den * mass_sum rs = ap (λ a. f.den * a) k.masses_is in
      let st = step x.lo.0 u.0 (weighted_sum ss) (distance x.lo u) (f.num * dens rs) f.den (mass_sum rs) (weighted rs)
      (above x.lo u (h 0 u (omega arith)).low) k.sum_is in
      record {
        dens_is = ap (λ a. f.den * a) k.dens_is;
        masses_is = ap₂ (λ a c. a + c) n1 n2;
        sum_is = ap (λ a. u.0 *ℤ pos a +ℤ pos f.den *ℤ weighted_sum ss) n1 ∙ st
            ∙ ap (λ a. x.lo.0 *ℤ pos (f.num * dens rs + f.den * mass_sum rs) +ℤ pos a) (omega arith);
      }

  byte_sum_is : (f : ByteShare → ℕ) (g : List Row → ℕ) → 0 ≡ g []
      → ((t : ℕ) (u : Dec) (us : List Dec) → g (rows_from b box bytes xs e o x t (u ∷ us))
      ≡ f (record { byte = nearest_byte x u; mass = byte_mass b bytes o t }) + g
      (rows_from b box bytes xs e o x (t + 1) us))
      → (t : ℕ) (us : List Dec) → sum_by f (byte_shares_from b bytes o x t us) ≡ g (rows_from b box bytes xs e o x t us)
  byte_sum_is f g none more t [] = none
  byte_sum_is f g none more t (u ∷ us) = omega (
    arith,
    byte_sum_is f g none more (t + 1) us,
    more t u us,
    sum_by-cons f (record { byte = nearest_byte x u; mass = byte_mass b bytes o t })
        (byte_shares_from b bytes o x (t + 1) us),
  )

  pub byte_total_is : (t : ℕ) (us : List Dec)
      → byte_total (byte_shares_from b bytes o x t us) ≡ total_g (rows_from b box bytes xs e o x t us)
  byte_total_is = byte_sum_is (λ s. s.mass) total_g refl (λ _ _ _. refl)

  pub byte_weighted_is : (t : ℕ) (us : List Dec)
      → byte_weighted (byte_shares_from b bytes o x t us) ≡ dot_s (rows_from b box bytes xs e o x t us)
  byte_weighted_is = byte_sum_is (λ s. s.byte * s.mass) dot_s refl (λ _ _ _. refl)

  -- the masses over bytes, and the ends that they lie between with what they pull by
  abbrev pub byte_masses : ℕ → List Dec → List ℕ
  byte_masses t [] = []
  byte_masses t (u ∷ us) = byte_mass b bytes o t ∷ byte_masses (t + 1) us

  abbrev pub ranges_from : ℕ → List Dec → List MassRange
  ranges_from k us = ranges_at (λ k. byte_low_of b box o (k + 1)) (λ k. byte_high_of b box o (k + 1)) x.lo k us

  abbrev pub deviations_from : ℕ → List Dec → List Deviation
  deviations_from k us = deviations_at (λ k. rise_of b box e o (k + 1)) (λ k. fall_of b box e o (k + 1)) k us

  pub total_is : (t : ℕ) (us : List Dec) → total (byte_masses t us) ≡ total_g (rows_from b box bytes xs e o x t us)
  total_is t [] = refl
  total_is t (u ∷ us) = ap (λ a. byte_mass b bytes o t + a) (total_is (t + 1) us)

  pub weighted_is : (k : ℕ) (us : List Dec) → weighted_by (ranges_from k us) (byte_masses (k + 1) us)
      ≡ dot_u (rows_from b box bytes xs e o x (k + 1) us)
  weighted_is k [] = refl
  weighted_is k (u ∷ us) = ap (λ a. distance x.lo u * byte_mass b bytes o (k + 1) + a) (weighted_is (k + 1) us)

  pub rises_are : (gg aa k : ℕ) (us : List Dec)
      → pull (λ d. d.rise) (λ d. d.fall) (ranges_from k us) (deviations_from k us) gg aa
      ≡ pull_rows (λ r. r.rise) (λ r. r.fall) gg aa (rows_from b box bytes xs e o x (k + 1) us)
  rises_are gg aa k [] = refl
  rises_are gg aa k (u ∷ us) =
      ap (λ a. rise_of b box e o (k + 1) * (distance x.lo u * gg - aa)
      + fall_of b box e o (k + 1) * (aa - distance x.lo u * gg) + a) (rises_are gg aa (k + 1) us)

  pub falls_are : (gg aa k : ℕ) (us : List Dec)
      → pull (λ d. d.fall) (λ d. d.rise) (ranges_from k us) (deviations_from k us) gg aa
      ≡ pull_rows (λ r. r.fall) (λ r. r.rise) gg aa (rows_from b box bytes xs e o x (k + 1) us)
  falls_are gg aa k [] = refl
  falls_are gg aa k (u ∷ us) =
      ap (λ a. fall_of b box e o (k + 1) * (distance x.lo u * gg - aa)
      + rise_of b box e o (k + 1) * (aa - distance x.lo u * gg) + a) (falls_are gg aa (k + 1) us)

  pub lows_is : (t : ℕ) (us : List Dec)
      → sum_over (λ t u. low_of b box o t) t us ≡ lows (rows_from b box bytes xs e o x t us)
  lows_is t [] = refl
  lows_is t (u ∷ us) = ap (λ a. low_of b box o t + a) (lows_is (t + 1) us)

pub within_width : (lo hi u : Dec) → lo.0 <ℤ hi.0 → IsWithin lo hi u → distance lo u ≤ distance lo hi
within_width lo hi u r h = omega (arith, ints, h.low, h.high)

some_below : {a c : ℕ} → 0 < a → a ≤ c → 0 < c
some_below h k = omega arith

greatest_first : (a c d : ℕ) → max a c ≤ d → (a ≤ d) × (c ≤ d)
greatest_first a c d h = (omega arith, omega arith)

module _ (b : Block) (box : List Interval) (bytes : List ℕ) (xs : List Dec) (e : ℕ → ℕ → Span ℕ)
    (l : (i t : ℕ) → IsWithinSpans billion (literal_degree b xs i t) (literal_grade b bytes i t) (e i t)
    (literal_span b box i t) (literal_byte_span b box i t)) (hw : All (λ r. IfSome r.weight IsWeight) b.rules)
    (o : ℕ) (x : Output) where
  pub bytes_least : (t : ℕ) (us : List Dec)
      → sum_over (λ t u. byte_low_of b box o t) t us ≤ total_g (rows_from b box bytes xs e o x t us)
  bytes_least t [] = omega arith
  bytes_least t (u ∷ us) =
      let rest = bytes_least (t + 1) us in
      let one = (term_bytes b box bytes xs e l o t b.rules hw).0 in
      add one rest
    where
      add : {p q r s : ℕ} → p ≤ q → r ≤ s → p + r ≤ q + s
      add h k = omega arith

  pub bytes_between : (k : ℕ) (us : List Dec)
      → AreBetween 1 (ranges_from b box bytes xs e o x k us) (byte_masses b box bytes xs e o x (k + 1) us)
  bytes_between k [] = tt
  bytes_between k (u ∷ us) =
      let m = term_bytes b box bytes xs e l o (k + 1) b.rules hw in
      let rest = bytes_between (k + 1) us in
      (lower m.0, upper m.1, rest)
    where
      lower : {p q : ℕ} → p ≤ q → p * 1 ≤ q
      lower h = omega arith

      upper : {p q : ℕ} → p ≤ q → p ≤ q * 1
      upper h = omega arith

  -- a term with a mass over bytes is live
  live : (t n d : ℕ) → 0 < byte_mass b bytes o t → if_live b box o t n ≤ d → n ≤ d
  live t n d some h =
      let high = (term_bytes b box bytes xs e l o t b.rules hw).1 in
      let pos : 0 < byte_high_of b box o t = some_below some high in
      let test : (byte_high_of b box o t == 0) ≡ false = not_none (byte_high_of b box o t) pos in
      subst (λ c. (if c then 0 else n) ≤ d) test h
    where
      not_none : (m : ℕ) → 0 < m → (m == 0) ≡ false
      not_none m p = grind (arith, nat_tests)

  module _ (is_byte : NearestIsByte) (range : x.lo.0 <ℤ x.hi.0) (d : ℕ) where
    pub rows_ok : (t : ℕ) (us : List Dec) → All (IsWithin x.lo x.hi) us
        → greatest_over (λ t s. if_live b box o t (offset x s)) t us ≤ d
        → AllOk billion (distance x.lo x.hi) d (rows_from b box bytes xs e o x t us)
    rows_ok t [] h k = tt
    rows_ok t (u ∷ us) h k =
        let m = term_held b box bytes xs e l o t b.rules hw in
        let hu = h 0 u (omega arith) in
        let p = greatest_first (if_live b box o t (offset x u))
        (greatest_over (λ t s. if_live b box o t (offset x s)) (t + 1) us) d k in (
          record {
            u_in = within_width x.lo x.hi u range hu;
            s_in = is_byte x u range hu;
            proper = m.proper;
            near = m.near;
            low = term_low b box bytes xs e l o t b.rules hw;
            offset = λ some. live t (offset x u) d some p.0;
          },
          rows_ok (t + 1) us (λ i d k. h (suc i) d (omega arith)) p.1,
        )

  -- of all terms
  pub all_ok : NearestIsByte → x.lo.0 <ℤ x.hi.0 → All (IsWithin x.lo x.hi) x.singletons
      → AllOk billion (distance x.lo x.hi) (live_offset b box o x) (rows_from b box bytes xs e o x 1 x.singletons)
  all_ok is_byte range h = rows_ok is_byte range (live_offset b box o x) 1 x.singletons h (omega arith)

-- what a rule concludes is a term of the block
both_true : (a c : Bool) → (a && c) ≡ true → (a ≡ true) × (c ≡ true)
both_true true c h = (refl, h)
both_true false c h = absurd (let z : ⊥ = cc in z)

pub concluded : (b : Block) (o t : ℕ) (cs : List (ℕ × ℕ)) → All (λ c. HasSingleton b c.0 c.1) cs
    → list_any (λ c. (c.0 == o) && (c.1 == t)) cs ≡ true → HasSingleton b o t
concluded b o t [] h e = absurd (let z : ⊥ = cc in z)
concluded b o t (c ∷ cs) h e =
    by_head ((c.0 == o) && (c.1 == t)) refl e (λ q. concluded b o t cs (λ k d l. h (suc k) d (omega arith)) q)
  where
    by_head : (v : Bool) → ((c.0 == o) && (c.1 == t)) ≡ v → (v || list_any (λ c. (c.0 == o) && (c.1 == t)) cs) ≡ true
        → (list_any (λ c. (c.0 == o) && (c.1 == t)) cs ≡ true → HasSingleton b o t) → HasSingleton b o t
    by_head false p q rest = rest q
    by_head true p q rest =
        let s = both_true (c.0 == o) (c.1 == t) p in
        let p0 = s.0 in
        let p1 = s.1 in
        let e0 : c.0 ≡ o = grind (arith, nat_tests) in
        let e1 : c.1 ≡ t = grind (arith, nat_tests) in
        subst (λ k. HasSingleton b o k) e1 (subst (λ k. HasSingleton b k c.1) e0 (h 0 c (omega arith)))

-- ---- where a box is sure, the answers are near the exact ones

-- a valid block's weights are weights
pub weights : (b : Block) → IsValid b → All (λ r. IfSome r.weight IsWeight) b.rules
weights b v k d l = (v.rules k d l).weight

-- where the masses' sum is above 0
pub centre_some : (ss : List Share) (otherwise : Quotient) → 0 < total_mass ss
    → centre ss otherwise ≡ record { num = weighted_sum ss; den = total_mass ss * 10000 }
centre_some ss otherwise h = let e : (total_mass ss == 0) ≡ false = grind (arith, nat_tests) in
    ap (λ c. cond c otherwise (record { num = weighted_sum ss; den = total_mass ss * 10000 })) e

-- what a sure box says of the sums
pub record IsFiring (b : Block) (bytes : List ℕ) (xs : List Dec) (o : ℕ) (x : Output) (h n : ℕ) : Type 0 where
  pub byte_pos : 0 < byte_total (byte_shares b bytes o x)
  pub close : (q : ℕ) (otherwise : Quotient)
      → q * byte_total (byte_shares b bytes o x) ≤ h * byte_weighted (byte_shares b bytes o x)
      → h * byte_weighted (byte_shares b bytes o x) ≤ (q + 1) * byte_total (byte_shares b bytes o x)
      → IsClose (distance x.lo x.hi) n (value_in h x q) (centre (shares b xs o x) otherwise)

module _ (b : Block) (box : List Interval) (bytes : List ℕ) (xs : List Dec) (e : ℕ → ℕ → Span ℕ) (valid : IsValid b)
    (l : (i t : ℕ) → IsWithinSpans billion (literal_degree b xs i t) (literal_grade b bytes i t) (e i t)
    (literal_span b box i t) (literal_byte_span b box i t)) where
  pub firing : NearestIsByte → (o : ℕ) (x : Output) (h n : ℕ) → output_at b o ≡ Some x → 0 < h → IsSure b box o x
      → IsSureBound b box e o x h n → IsFiring b bytes xs o x h n
  firing is_byte o x h n ex hh s bound =
      let w = distance x.lo x.hi in
      let d = live_offset b box o x in
      let rs = rows_from b box bytes xs e o x 1 x.singletons in
      let ss = shares b xs o x in
      let ms = byte_masses b box bytes xs e o x 1 x.singletons in
      let vx = All-slice_get IsValidOutput b.outputs (o - 1) x valid.outputs ex in
      let range = vx.range in
      let wp : 0 < w = omega (arith, ints) in
      let hw = weights b valid in
      let ok = all_ok b box bytes xs e l hw o x is_byte range vx.singletons in
      let sm = same_sum b box bytes xs e o x 1 x.singletons vx.singletons in
      let gt = byte_total_is b box bytes xs e o x 1 x.singletons in
      let wt = byte_weighted_is b box bytes xs e o x 1 x.singletons in
      let li = lows_is b box bytes xs e o x 1 x.singletons in
      let lp : 0 < lows rs = subst (λ m. 0 < m) li s.sum in
      let gp : 0 < total_g rs = at_least s.bytes (bytes_least b box bytes xs e l hw o x 1 x.singletons) in
      let mp : 0 < mass_sum rs = mass_pos billion w d rs ok lp in
      let tp : 0 < total_mass ss = subst (λ m. 0 < m) (sym sm.masses_is) mp in
      let mg : total ms ≡ total_g rs = total_is b box bytes xs e o x 1 x.singletons in
      let mw : weighted_by (byte_ranges b box o x) ms ≡ dot_u rs = weighted_is b box bytes xs e o x 0 x.singletons in
      let between = bytes_between b box bytes xs e l hw o x 0 x.singletons in
      let ts = byte_ranges b box o x in
      let ds = deviations b box e o x in
      let rises : up_of ts ds ms ≡ rise_pull rs =
      ap₂ (λ g a. pull (λ d. d.rise) (λ d. d.fall) ts ds g a) mg mw
      ∙ rises_are b box bytes xs e o x (total_g rs) (dot_u rs) 0 x.singletons in
      let falls : down_of ts ds ms ≡ fall_pull rs =
      ap₂ (λ g a. pull (λ d. d.fall) (λ d. d.rise) ts ds g a) mg mw
      ∙ falls_are b box bytes xs e o x (total_g rs) (dot_u rs) 0 x.singletons in
      record {
        byte_pos = subst (λ m. 0 < m) (sym gt) gp;
        close = λ q otherwise f1 f2.
            let g1 : q * total_g rs ≤ h * dot_s rs =
            subst (λ g. q * g ≤ h * dot_s rs) gt
            (subst (λ a. q * byte_total (byte_shares b bytes o x) ≤ h * a) wt f1) in
            let g2 : h * dot_s rs ≤ (q + 1) * total_g rs =
            subst (λ g. h * dot_s rs ≤ (q + 1) * g) gt
            (subst (λ a. h * a ≤ (q + 1) * byte_total (byte_shares b bytes o x)) wt f2) in
            let st = rows_near billion w d rs (omega arith) wp ok lp gp h q hh g1 g2 n
            (λ k. at_rows w h d (sure_sum b box o x) (lows rs) 1 (up_of ts ds ms) (rise_pull rs) (total ms) (total_g rs) n
            li rises mg (bound.covers k ms between).up)
            (λ k. at_rows w h d (sure_sum b box o x) (lows rs) 0 (down_of ts ds ms) (fall_pull rs) (total ms)
            (total_g rs) n li falls mg (bound.covers k ms between).down) in
            let c = close_value h x n q (weighted_sum ss) (mass_sum rs) (weighted rs) hh mp sm.sum_is st in
            let c1 : IsClose (distance x.lo x.hi) n (value_in h x q)
            (record { num = weighted_sum ss; den = total_mass ss * 10000 }) =
            subst (λ m. IsClose (distance x.lo x.hi) n (value_in h x q)
            (record { num = weighted_sum ss; den = m * 10000 })) (sym sm.masses_is) c in
            subst (λ y. IsClose (distance x.lo x.hi) n (value_in h x q) y) (sym (centre_some ss otherwise tp)) c1;
      }
    where
      at_least : {a c : ℕ} → 1 ≤ a → a ≤ c → 0 < c
      at_least h1 h2 = omega arith

      at_rows : (w h d l l' floors u u' g g' n : ℕ) → l ≡ l' → u ≡ u' → g ≡ g'
          → (65025 * h * u + (d * h + floors * w) * (l * g)) * 1000000 ≤ n * (255 * h * w * (l * g))
          → 1000000 * (65025 * h * u' + (d * h + floors * w) * (l' * g')) ≤ n * (255 * h * w * (l' * g'))
      at_rows w h d l l' floors u u' g g' n el eu eg k = rw (sym el, sym eu, sym eg) (omega arith)
