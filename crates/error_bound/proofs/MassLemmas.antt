-- The ends of masses, under NOT and AND, and of rules.
use Rattle.std.proofs.Common.{◌≡◌, ℕ, zero, suc, ◌+◌, ◌-◌, ◌*◌, ◌/◌, ◌<◌, ◌≤◌, min, max, Bool, true, false, None, List, [], ◌∷◌}
use Rattle.std.proofs.Common.{Some, drop, length, get_or, refl, sym, ap, ap₂, subst, arith, mul-le-mul_right, ⊎_elim, ◌∙◌}
use Rattle.std.proofs.{Math.Nat.div-mul-le_self, lemmas.Nat.le-div, lemmas.Bool.cases_lt}
use Rattle.std.specs.Prelude.{map, slice_get}
use Rattle.fz_num.specs.Fractions.{Fraction, IsProper, lesser, one_minus, times, up_div}
use Rattle.fz_num.proofs.Algebra.{by_lesser, by_greater, le-up_div, up_div-le}
use Rattle.fuzzy_meaning.specs.{declared.block.Block.Block, declared.block.Rule.Rule, Blocks.HasTerm}
use Rattle.fuzzy_meaning.specs.Blocks.{IsValidCondition, AreValidConditions}
use Rattle.fuzzy_meaning.specs.Conditions.{Condition, Conditions, all, also, conditions, end, group, levels}
use Rattle.fuzzy_meaning.specs.{Conditions.AllHaveLiterals, Meaning.truths}
use Rattle.error_bound.specs.declared.{boxes.Interval.Interval, masses.MassEnds.MassEnds, reaches.Literal.Literal}
use Rattle.error_bound.specs.{Boxes.literal_span, Boxes.literal_byte_span, Spans.Span, Spans.span, Spans.byte_span}
use Rattle.error_bound.specs.{Spans.reversed, Errors.billion, Flattening.IsSame}
use Rattle.error_bound.specs.Masses.{AreJoined, AreMassEnds, AreMassesOfNone, IsAtMost, AreEndsOfCondition}
use Rattle.error_bound.specs.Masses.{IsConditionWithin}
use Rattle.error_bound.specs.{Flattening.ReachesAlike, declared.ends.Side.TheVariants.Low, declared.ends.Side.TheVariants.High}
use Rattle.error_bound.proofs.FlatteningLemmas.{reach-also}
use Rattle.error_bound.specs.Masses.{IsRuleMass, IsRuleWithin}
use Rattle.error_bound.specs.Reaches.{AreLiteralsOf, IsEndOfCondition, byte_span_of_ends, literal_of, span_of_ends}
use Rattle.error_bound.specs.{declared.ends.Ends.Ends}
use Rattle.error_bound.proofs.{FlatteningLemmas.span_to_itself, TightLawLemmas.part-mono, TightLawLemmas.up-mono}
use Rattle.error_bound.proofs.{ListLemmas.drop_back, TightLawLemmas.low_part-same, TightLawLemmas.up-same}

-- ---- rounding, and the lesser of two fractions and what a fraction leaves of 1

abbrev part : Fraction → ℕ
part f = 255 * billion * f.num / f.den

abbrev up_part : Fraction → ℕ
up_part f = up_div (255 * billion * f.num) f.den

least_part : (f g : Fraction) → IsProper f → IsProper g → part (lesser f g) ≡ min (part f) (part g)
least_part f g pf pg = by_lesser (λ h. part h ≡ min (part f) (part g)) f g
    (λ k. let m = part-mono f g pf pg k in omega arith)
    (λ k. let m = part-mono g f pg pf k in omega arith)

least_up_part : (f g : Fraction) → IsProper f → IsProper g → up_part (lesser f g) ≡ min (up_part f) (up_part g)
least_up_part f g pf pg = by_lesser (λ h. up_part h ≡ min (up_part f) (up_part g)) f g
    (λ k. let m = up-mono (255 * billion) f g pf pg k in omega arith)
    (λ k. let m = up-mono (255 * billion) g f pg pf k in omega arith)

joined_part : (or : Bool) (f g : Fraction) → IsProper f → IsProper g
    → part (truths.join or f g) ≡ (levels 255000000000).join or (part f) (part g)
joined_part false f g pf pg = least_part f g pf pg
joined_part true f g pf pg = by_greater (λ h. part h ≡ max (part f) (part g)) f g
    (λ k. let m = part-mono g f pg pf k in omega arith)
    (λ k. let m = part-mono f g pf pg k in omega arith)

joined_up_part : (or : Bool) (f g : Fraction) → IsProper f → IsProper g
    → up_part (truths.join or f g) ≡ (levels 255000000000).join or (up_part f) (up_part g)
joined_up_part false f g pf pg = least_up_part f g pf pg
joined_up_part true f g pf pg = by_greater (λ h. up_part h ≡ max (up_part f) (up_part g)) f g
    (λ k. let m = up-mono (255 * billion) g f pg pf k in omega arith)
    (λ k. let m = up-mono (255 * billion) f g pf pg k in omega arith)

joined_most : (or : Bool) (m n most o : ℕ) → o ≡ (levels most).join or m n → m ≤ most → n ≤ most → o ≤ most
joined_most true m n most o e l k = omega (arith, e)
joined_most false m n most o e l k = omega (arith, e)

between_is : (n d q : ℕ) → 0 < d → q * d ≤ n → n < (q + 1) * d → n / d ≡ q
between_is n d q pos low high =
    let from : q ≤ n / d = le-div q n d pos low in
    let to : n / d ≤ q = ⊎_elim
    (λ (l : q < n / d). let p : (q + 1) * d ≤ n / d * d = mul-le-mul_right d (omega (arith, l)) in
    let r = div-mul-le_self n d in omega (arith, p, r, high))
    (λ (l : n / d ≤ q). l) (cases_lt q (n / d)) in
    omega (arith, from, to)

up_between_is : (n d q : ℕ) → 0 < d → n ≤ q * d → q * d < n + d → up_div n d ≡ q
up_between_is n d q pos high low =
    let to : up_div n d ≤ q = up_div-le n d q pos high in
    let from : q ≤ up_div n d = ⊎_elim
    (λ (l : up_div n d < q). let p : (up_div n d + 1) * d ≤ q * d = mul-le-mul_right d (omega (arith, l)) in
    let r = le-up_div n d pos in omega (arith, p, r, low))
    (λ (l : q ≤ up_div n d). l) (cases_lt (up_div n d) q) in
    omega (arith, from, to)

-- c n / d is about q, so c (d - n) / d is about c - q
opposite_down : (c d n q x y : ℕ) → y + q ≡ c → x + n ≡ d → c * n ≤ q * d → q * d < c * n + d
    → (y * d ≤ c * x) × (c * x < (y + 1) * d)
opposite_down c d n q x y of_c of_d = subst
    (λ (k : ℕ). k * n ≤ q * d → q * d < k * n + d → (y * d ≤ k * x) × (k * x < (y + 1) * d)) of_c (subst
    (λ (k : ℕ). (y + q) * n ≤ q * k → q * k < (y + q) * n + k
    → (y * k ≤ (y + q) * x) × ((y + q) * x < (y + 1) * k)) of_d (λ low high. (omega arith, omega arith)))

opposite_up : (c d n q x y : ℕ) → y + q ≡ c → x + n ≡ d → q * d ≤ c * n → c * n < (q + 1) * d
    → (c * x ≤ y * d) × (y * d < c * x + d)
opposite_up c d n q x y of_c of_d = subst
    (λ (k : ℕ). q * d ≤ k * n → k * n < (q + 1) * d → (k * x ≤ y * d) × (y * d < k * x + d)) of_c (subst
    (λ (k : ℕ). q * k ≤ (y + q) * n → (y + q) * n < (q + 1) * k
    → ((y + q) * x ≤ y * k) × (y * k < (y + q) * x + k)) of_d (λ low high. (omega arith, omega arith)))

floor_facts : (n d : ℕ) → 0 < d → (n / d * d ≤ n) × (n < (n / d + 1) * d)
floor_facts n d pos = (omega arith, omega arith)

opposite_part : (f : Fraction) → IsProper f → f.num ≤ f.den → part (one_minus f) ≡ 255 * billion - up_part f
opposite_part f pf one =
    let c = 255 * billion in
    let d = f.den in
    let q = up_part f in
    let whole : c * f.num ≤ c * d = omega (arith, one) in
    let most : q ≤ c = up_div-le (c * f.num) d c pf.pos whole in
    let high : q * d < c * f.num + d = (let p = pf.pos in omega arith) in
    let facts = opposite_down c d f.num q (d - f.num) (c - q) (omega (arith, most)) (omega (arith, one))
    (le-up_div (c * f.num) d pf.pos) high in
    between_is (c * (d - f.num)) d (c - q) pf.pos facts.0 facts.1

opposite_up_part : (f : Fraction) → IsProper f → f.num ≤ f.den → up_part (one_minus f) ≡ 255 * billion - part f
opposite_up_part f pf one =
    let c = 255 * billion in
    let d = f.den in
    let q = part f in
    let floor = floor_facts (c * f.num) d pf.pos in
    let most : q ≤ c = (let m = part-mono f (record { num = 1; den = 1 }) pf (record { pos = omega arith })
    (record { cross = omega (arith, one) }) in omega (arith, m)) in
    let facts = opposite_up c d f.num q (d - f.num) (c - q) (omega (arith, most)) (omega (arith, one)) floor.0 floor.1 in
    up_between_is (c * (d - f.num)) d (c - q) pf.pos facts.0 facts.1

-- ---- under NOT

pub ends_opposite : (s : Span Fraction) (g : Span ℕ) (m n : MassEnds) → IsProper s.low → IsProper s.high
    → s.low.num ≤ s.low.den → s.high.num ≤ s.high.den → AreMassEnds s g m → n.low ≡ 255000000000 - m.high
    → n.high ≡ 255000000000 - m.low → n.byte_low ≡ 255 - m.byte_high → n.byte_high ≡ 255 - m.byte_low
    → AreMassEnds (reversed one_minus s) (reversed (λ k. 255 - k) g) n
ends_opposite s g m n pl ph ol oh h low high byte_low byte_high = record {
  low = low ∙ ap (λ k. 255 * billion - k) h.high ∙ sym (opposite_part s.high ph oh);
  high = high ∙ ap (λ k. 255 * billion - k) h.low ∙ sym (opposite_up_part s.low pl ol);
  byte_low = byte_low ∙ ap (λ k. 255 - k) h.byte_high;
  byte_high = byte_high ∙ ap (λ k. 255 - k) h.byte_low;
  low_small = omega (arith, low);
  high_small = omega (arith, high);
  byte_low_small = omega (arith, byte_low);
  byte_high_small = omega (arith, byte_high);
}

-- ---- of an AND of literals

module _ (b : Block) (box : List Interval) where
  abbrev lows : Condition → Fraction
  lows c = (span (literal_span b box) c).low

  abbrev highs : Condition → Fraction
  highs c = (span (literal_span b box) c).high

  low_proper : (c : Condition) → IsProper (lows c)
  low_proper c = (span_to_itself b box c).low.left

  high_proper : (c : Condition) → IsProper (highs c)
  high_proper c = (span_to_itself b box c).high.left

  abbrev AndOf : List Literal → Condition
  AndOf ls = all (conditions (map literal_of ls))

  -- of an OR or an AND of one more part
  pub ends_also : (or : Bool) (c : Condition) (cs : Conditions) (m n o : MassEnds) → AreEndsOfCondition b box c m
      → AreEndsOfCondition b box (group or cs) n → AreJoined or m n o → AreEndsOfCondition b box (group or (also c cs)) o
  ends_also or c cs m n o hm hn j =
      let d = group or cs in
      let byte_lows = ap₂ ((levels 255).join or) hm.byte_low hn.byte_low in
      let byte_highs = ap₂ ((levels 255).join or) hm.byte_high hn.byte_high in
      record {
        low = j.low ∙ ap₂ ((levels 255000000000).join or) hm.low hn.low
            ∙ sym (joined_part or (lows c) (lows d) (low_proper c) (low_proper d))
            ∙ sym (ap part (reach-also one_minus truths (literal_span b box) Low or c cs));
        high = j.high ∙ ap₂ ((levels 255000000000).join or) hm.high hn.high
            ∙ sym (joined_up_part or (highs c) (highs d) (high_proper c) (high_proper d))
            ∙ sym (ap up_part (reach-also one_minus truths (literal_span b box) High or c cs));
        byte_low = j.byte_low ∙ byte_lows
            ∙ sym (reach-also (λ n. 255 - n) (levels 255) (literal_byte_span b box) Low or c cs);
        byte_high = j.byte_high ∙ byte_highs
            ∙ sym (reach-also (λ n. 255 - n) (levels 255) (literal_byte_span b box) High or c cs);
        low_small = joined_most or m.low n.low 255000000000 o.low j.low hm.low_small hn.low_small;
        high_small = joined_most or m.high n.high 255000000000 o.high j.high hm.high_small hn.high_small;
        byte_low_small = joined_most or m.byte_low n.byte_low 255 o.byte_low j.byte_low hm.byte_low_small hn.byte_low_small;
        byte_high_small = joined_most or m.byte_high n.byte_high 255 o.byte_high j.byte_high hm.byte_high_small
            hn.byte_high_small;
      }

  pub ends_of_exact : (c : Condition) (e : Ends) (m : MassEnds) → IsEndOfCondition b box c Low e.low
      → IsEndOfCondition b box c High e.high → AreMassEnds (span_of_ends e) (byte_span_of_ends e) m
      → AreEndsOfCondition b box c m
  ends_of_exact c e m low high h = record {
    low = h.low ∙ ap part low.value;
    high = h.high ∙ ap up_part high.value;
    byte_low = h.byte_low ∙ low.byte;
    byte_high = h.byte_high ∙ high.byte;
    low_small = h.low_small;
    high_small = h.high_small;
    byte_low_small = h.byte_low_small;
    byte_high_small = h.byte_high_small;
  }

  pub ends_none : (or : Bool) (m : MassEnds) → AreMassesOfNone or m → AreEndsOfCondition b box (group or end) m
  ends_none true m h = record {
    low = h.low;
    high = h.high;
    byte_low = h.byte_low;
    byte_high = h.byte_high;
    low_small = omega (arith, h.low);
    high_small = omega (arith, h.high);
    byte_low_small = omega (arith, h.byte_low);
    byte_high_small = omega (arith, h.byte_high);
  }
  ends_none false m h = record {
    low = h.low;
    high = h.high;
    byte_low = h.byte_low;
    byte_high = h.byte_high;
    low_small = omega (arith, h.low);
    high_small = omega (arith, h.high);
    byte_low_small = omega (arith, h.byte_low);
    byte_high_small = omega (arith, h.byte_high);
  }

  pub ends_from : (ls : List Literal) (k : ℕ) (l : Literal) (m n o : MassEnds) → 0 < k → k ≤ length ls
      → AreEndsOfCondition b box (literal_of (get_or ls (k - 1) l)) m → AreEndsOfCondition b box (AndOf (drop k ls)) n
      → AreJoined false m n o → AreEndsOfCondition b box (AndOf (drop (k - 1) ls)) o
  ends_from ls k l m n o from to hm hn j =
      let x = get_or ls (k - 1) l in
      subst (λ ys. AreEndsOfCondition b box (AndOf ys) o) (sym (drop_back ls k x l from to refl))
      (ends_also false (literal_of x) (conditions (map literal_of (drop k ls))) m n o hm hn j)

  -- more literals reach no further
  within_more : (l : Literal) (ls : List Literal) (m : MassEnds) → IsConditionWithin b box (AndOf ls) m
      → IsConditionWithin b box (AndOf (l ∷ ls)) m
  within_more l ls m h =
      let c = literal_of l in
      let d = AndOf ls in
      let low = least_part (lows c) (lows d) (low_proper c) (low_proper d) in
      let high = least_up_part (highs c) (highs d) (high_proper c) (high_proper d) in
      record {
        low = omega (arith, low, h.low);
        high = omega (arith, high, h.high);
        byte_low = (let z = h.byte_low in omega arith);
        byte_high = (let z = h.byte_high in omega arith);
      }

  within_whole : (ls : List Literal) (k : ℕ) (m : MassEnds) → IsConditionWithin b box (AndOf (drop k ls)) m
      → IsConditionWithin b box (AndOf ls) m
  within_whole [] zero m h = h
  within_whole [] (suc k) m h = h
  within_whole (l ∷ ls) zero m h = h
  within_whole (l ∷ ls) (suc k) m h = within_more l ls m (within_whole ls k m h)

  -- where some of them are at most so much, the AND is
  pub some_within : (ls : List Literal) (k : ℕ) (m n : MassEnds) → AreEndsOfCondition b box (AndOf (drop k ls)) m
      → IsAtMost m n → IsConditionWithin b box (AndOf ls) n
  some_within ls k m n h a = within_whole ls k n (record {
    low = omega (arith, h.low, a.low);
    high = omega (arith, h.high, a.high);
    byte_low = omega (arith, h.byte_low, a.byte_low);
    byte_high = omega (arith, h.byte_high, a.byte_high);
  })

  -- ---- of a rule without a weight

  plain_same : (f g : Fraction) → IsSame f g → IsSame f (times g 10000)
  plain_same f g s = record {
    left = s.left;
    right = (let p = s.right.pos in record { pos = omega arith });
    below = record { cross = (let p = s.below.cross in omega arith) };
    above = record { cross = (let p = s.above.cross in omega arith) };
  }

  pub plain_mass : (r : Rule) (d : Condition) (m : MassEnds) → r.weight ≡ None → ReachesAlike b r.cond d
      → AreEndsOfCondition b box d m → IsRuleMass b box r m
  plain_mass r d m plain alike h =
      let same = alike.spans box in
      let bytes = alike.byte_spans box in
      rw plain (record {
        low = h.low ∙ low_part-same (lows d) (times (lows r.cond) 10000) (plain_same (lows d) (lows r.cond) same.low);
        high = h.high ∙ up-same (255 * billion) (highs d) (times (highs r.cond) 10000)
            (plain_same (highs d) (highs r.cond) same.high);
        byte_low = omega (arith, h.byte_low, ap (λ s. s.low) bytes);
        byte_high = omega (arith, h.byte_high, ap (λ s. s.high) bytes);
        low_small = h.low_small;
        high_small = h.high_small;
        byte_low_small = h.byte_low_small;
        byte_high_small = h.byte_high_small;
      })

  pub plain_within : (r : Rule) (ls : List Literal) (m : MassEnds) → AreLiteralsOf b r ls
      → IsConditionWithin b box (AndOf ls) m → IsRuleWithin b box r m
  plain_within r ls m of_rule h =
      let same = of_rule.alike.spans box in
      let bytes = of_rule.alike.byte_spans box in
      let d = AndOf ls in
      let low = low_part-same (lows d) (times (lows r.cond) 10000) (plain_same (lows d) (lows r.cond) same.low) in
      let high = up-same (255 * billion) (highs d) (times (highs r.cond) 10000)
      (plain_same (highs d) (highs r.cond) same.high) in
      rw of_rule.plain (record {
        low = omega (arith, low, h.low);
        high = omega (arith, high, h.high);
        byte_low = omega (arith, h.byte_low, ap (λ s. s.low) bytes);
        byte_high = omega (arith, h.byte_high, ap (λ s. s.high) bytes);
      })

-- ---- literals of a valid AND

all_valid : (b : Block) (ls : List Literal) (k : ℕ) (l : Literal)
    → AllHaveLiterals (HasTerm b) (conditions (map literal_of ls)) → slice_get ls k ≡ Some l
    → IsValidCondition b (literal_of l)
all_valid b [] k l h e = absurd (let z : ⊥ = cc in z)
all_valid b (x ∷ ls) zero l h e =
    let same : x ≡ l = cc in subst (λ y. IsValidCondition b (literal_of y)) same h.0
all_valid b (x ∷ ls) (suc k) l h e = all_valid b ls k l h.1 e

pub literal_valid : (b : Block) (ls : List Literal) (k : ℕ) (l : Literal)
    → AreValidConditions b (conditions (map literal_of ls)) → slice_get ls k ≡ Some l
    → IsValidCondition b (literal_of l)
literal_valid b [] k l h e = absurd h
literal_valid b (x ∷ ls) zero l h e =
    let same : x ≡ l = cc in subst (λ y. IsValidCondition b (literal_of y)) same h.0
literal_valid b (x ∷ ls) (suc k) l h e = all_valid b ls k l h.1 e
