-- Sums over shares, and over those alone that have a mass.
use Rattle.std.proofs.Common.{◌≡◌, ℕ, zero, suc, ◌+◌, ◌-◌, ◌*◌, ◌<◌, ◌≤◌, Bool, true, false, cond, List, [], ◌∷◌}
use Rattle.std.proofs.Common.{length, get_or, drop, drop-cons, refl, sym, ap, ap₂, ◌∙◌, subst, arith, mul-pos}
use Rattle.std.specs.Prelude.{ℤ, pos, ◌+ℤ◌, ◌*ℤ◌, ◌<ℤ◌, unsigned_abs, ◌==◌, Some}
use Rattle.std.proofs.lemmas.Int.{ints}
use Rattle.std.proofs.lemmas.Bool.Decides.{nat_tests}
use borrow.Author.Differences.{up, down}
use Rattle.std.specs.Option.{option_map_or}
use Rattle.fz_num.specs.declared.{dec.Dec.Dec, frac.Frac.Frac}
use Rattle.fz_num.specs.Fractions.{Fraction, Quotient, IsValueOf}
use Rattle.fuzzy_meaning.specs.declared.{block.Block.Block, block.Output.Output, answers.Held.Held}
use Rattle.fuzzy_meaning.specs.Meaning.{Share, mass, shares, shares_from, common_den, total_mass, weighted_sum}
use Rattle.fuzzy_meaning.specs.Meaning.{has_mass, heavy_shares, heavy_terms, centre, resting, answer_after}
use Rattle.fuzzy_meaning.specs.declared.answers.Held.TheVariants.{Nothing, One, Two}
use Rattle.fuzzy_meaning.specs.{Blocks.output_at, Holding.shares_of, Holding.AreSmall, Holding.Reduces}

pub Reduces-nil : Reduces [] []
Reduces-nil = record { scale = 1; positive = omega arith; den = refl; total = refl; weighted = omega (arith, ints) }

scaled : (k d : ℕ) (x w v : ℤ) (n c : ℕ) → w ≡ pos k *ℤ v
    → x *ℤ pos (n * (k * c)) +ℤ pos d *ℤ w ≡ pos k *ℤ (x *ℤ pos (n * c) +ℤ pos d *ℤ v)
scaled k d x w v n c e =
    let z = x *ℤ pos (n * c) +ℤ pos d *ℤ v in
    let r1 : up w + k * down v ≡ down w + k * up v = omega (arith, ints) in
    let r2 : up z + (down x * (n * c) + d * down v) ≡ down z + (up x * (n * c) + d * up v) = omega (arith, ints) in
    let s1 : d * (up w + k * down v) ≡ d * (down w + k * up v) = ap (λ m. d * m) r1 in
    let s2 : k * (up z + (down x * (n * c) + d * down v)) ≡ k * (down z + (up x * (n * c) + d * up v)) =
    ap (λ m. k * m) r2 in
    omega (arith, ints)

-- a share on both sides
pub Reduces-cons : (s : Share) (ss hs : List Share) → Reduces ss hs → Reduces (s ∷ ss) (s ∷ hs)
Reduces-cons s ss hs r =
    let k = r.scale in
    let n = s.mass.num in
    let d = s.mass.den in
    let e1 : d * common_den ss ≡ d * (k * common_den hs) = ap (λ c. d * c) r.den in
    let e2 : n * common_den ss ≡ n * (k * common_den hs) = ap (λ c. n * c) r.den in
    let e3 : d * total_mass ss ≡ d * (k * total_mass hs) = ap (λ c. d * c) r.total in
    record {
      scale = k;
      positive = r.positive;
      den = omega (arith, e1);
      total = omega (arith, e2, e3);
      weighted = ap (λ m. s.at *ℤ pos m +ℤ pos d *ℤ weighted_sum ss) e2
          ∙ scaled k d s.at (weighted_sum ss) (weighted_sum hs) n (common_den hs) r.weighted;
    }

dropped : (k d c : ℕ) (x w v : ℤ) → w ≡ pos k *ℤ v → x *ℤ pos (0 * c) +ℤ pos d *ℤ w ≡ pos (d * k) *ℤ v
dropped k d c x w v e =
    let r : up w + k * down v ≡ down w + k * up v = omega (arith, ints) in
    let s : d * (up w + k * down v) ≡ d * (down w + k * up v) = ap (λ m. d * m) r in
    omega (arith, ints)

-- a share without a mass
pub Reduces-drop : (s : Share) (ss hs : List Share) → s.mass.num ≡ 0 → 0 < s.mass.den → Reduces ss hs
    → Reduces (s ∷ ss) hs
Reduces-drop s ss hs none some r =
    let k = r.scale in
    let d = s.mass.den in
    let e1 : d * common_den ss ≡ d * (k * common_den hs) = ap (λ c. d * c) r.den in
    let e2 : s.mass.num * common_den ss ≡ 0 * common_den ss = ap (λ n. n * common_den ss) none in
    let e3 : d * total_mass ss ≡ d * (k * total_mass hs) = ap (λ c. d * c) r.total in
    record {
      scale = d * k;
      positive = mul-pos some r.positive;
      den = omega (arith, e1);
      total = omega (arith, e2, e3);
      weighted = ap (λ m. s.at *ℤ pos m +ℤ pos d *ℤ weighted_sum ss) e2
          ∙ dropped k d (common_den ss) s.at (weighted_sum ss) (weighted_sum hs) r.weighted;
    }

-- what is kept of a list from a place on is no longer than what is kept of the whole
pub length-heavy-drop : (b : Block) (xs : List Dec) (o t k : ℕ) (us : List Dec)
    → length (heavy_shares (shares_from b xs o (t + k) (drop k us))) ≤ length (heavy_shares (shares_from b xs o t us))
length-heavy-drop b xs o t zero us =
    subst (λ n. length (heavy_shares (shares_from b xs o n us)) ≤ length (heavy_shares (shares_from b xs o t us)))
    (let e : t ≡ t + 0 = omega arith in e) (omega arith)
length-heavy-drop b xs o t (suc k) [] = omega arith
length-heavy-drop b xs o t (suc k) (u ∷ us) =
    let less = length-heavy-drop b xs o (t + 1) k us in
    let e : t + 1 + k ≡ t + suc k = omega arith in
    let h = subst (λ n. length (heavy_shares (shares_from b xs o n (drop k us))) ≤ length
    (heavy_shares (shares_from b xs o (t + 1) us))) e less in
    kept_longer (has_mass (record { at = u.0; mass = mass b xs o t })) (record { at = u.0; mass = mass b xs o t })
    (heavy_shares (shares_from b xs o (t + 1) us))
    (length (heavy_shares (shares_from b xs o (t + suc k) (drop k us)))) h
  where
    kept_longer : (keep : Bool) (s : Share) (ss : List Share) (n : ℕ) → n ≤ length ss
        → n ≤ length (cond keep (s ∷ ss) ss)
    kept_longer true s ss n h = omega arith
    kept_longer false s ss n h = h

pub weighted_sum-two : (x y : ℤ) (na da nb db : ℕ)
    → x *ℤ pos (na * db) +ℤ y *ℤ pos (nb * da) ≡ x *ℤ pos (na * (db * 1)) +ℤ pos da *ℤ
    (y *ℤ pos (nb * 1) +ℤ pos db *ℤ pos 0)
weighted_sum-two x y na da nb db =
    let z = y *ℤ pos (nb * 1) +ℤ pos db *ℤ pos 0 in
    let r : up z + down y * nb ≡ down z + up y * nb = omega (arith, ints) in
    let s : da * (up z + down y * nb) ≡ da * (down z + up y * nb) = ap (λ m. da * m) r in
    omega (arith, ints)

pub heavy_shares-yes : (s : Share) (ss : List Share) → 0 < s.mass.num → heavy_shares (s ∷ ss) ≡ s ∷ heavy_shares ss
heavy_shares-yes s ss h = let e : has_mass s ≡ true = grind (arith, nat_tests) in
    ap (λ t. cond t (s ∷ heavy_shares ss) (heavy_shares ss)) e

pub heavy_shares-no : (s : Share) (ss : List Share) → s.mass.num ≡ 0 → heavy_shares (s ∷ ss) ≡ heavy_shares ss
heavy_shares-no s ss h = let e : has_mass s ≡ false = grind (arith, nat_tests) in
    ap (λ t. cond t (s ∷ heavy_shares ss) (heavy_shares ss)) e

-- the shares from the term before number k + 1 on, with that term's mass as m
pub shares_from-drop : (b : Block) (xs : List Dec) (o : ℕ) (us : List Dec) (k : ℕ) (d : Dec) (m : Fraction)
    → m ≡ mass b xs o (k - 1 + 1) → 0 < k → k ≤ length us
    → shares_from b xs o (k - 1 + 1) (drop (k - 1) us) ≡ record { at = (get_or us (k - 1) d).0; mass = m }
    ∷ shares_from b xs o (k + 1) (drop k us)
shares_from-drop b xs o us k d m same some few =
    let in_us : k - 1 < length us = omega arith in
    let back : k - 1 + 1 ≡ k = omega arith in
    let back' : suc (k - 1) ≡ k = omega arith in
    ap (shares_from b xs o (k - 1 + 1)) (drop-cons us (k - 1) d in_us ∙ ap (λ j. get_or us (k - 1) d ∷ drop j us) back')
    ∙ ap₂ (λ n j. record { at = (get_or us (k - 1) d).0; mass = n } ∷ shares_from b xs o (j + 1) (drop k us))
    (sym same) back

-- the centre of all is that of those that have a mass
crossed : (w v : ℤ) (k t : ℕ) → w ≡ pos k *ℤ v → v *ℤ pos (k * t * 10000) ≡ w *ℤ pos (t * 10000)
crossed w v k t e =
    let r : up w + k * down v ≡ down w + k * up v = omega (arith, ints) in
    let s : (up w + k * down v) * t ≡ (down w + k * up v) * t = ap (λ m. m * t) r in
    omega (arith, ints)

centre-reduced : (ss hs : List Share) (q : Quotient) (f : Frac) → Reduces ss hs → 0 < total_mass hs
    → f.num ≡ weighted_sum hs → f.den ≡ pos (total_mass hs * 10000) → IsValueOf (centre ss q) f
centre-reduced ss hs q f r some num den =
    let t = total_mass hs in
    let k = r.scale in
    let much : 0 < k * t = mul-pos r.positive some in
    let not_none : (total_mass ss == 0) ≡ false = grind (arith, nat_tests, r.total) in
    let is : centre ss q ≡ record { num = weighted_sum ss; den = total_mass ss * 10000 } =
    ap (λ b. cond b q (record { num = weighted_sum ss; den = total_mass ss * 10000 })) not_none in
    let cross : f.num *ℤ pos (total_mass ss * 10000) ≡ weighted_sum ss *ℤ f.den =
    ap₂ (λ x n. x *ℤ pos (n * 10000)) num r.total ∙ crossed (weighted_sum ss) (weighted_sum hs) k t r.weighted
    ∙ ap (λ d. weighted_sum ss *ℤ d) (sym den) in
    let den_from : pos 0 <ℤ f.den = omega (arith, ints, den) in
    subst (λ c. IsValueOf c f) (sym is) (record { den_from = den_from; cross = cross })

centre-massless : (ss : List Share) (q : Quotient) → Reduces ss [] → centre ss q ≡ q
centre-massless ss q r =
    let none : (total_mass ss == 0) ≡ true = grind (arith, nat_tests, r.total) in
    ap (λ b. cond b q (record { num = weighted_sum ss; den = total_mass ss * 10000 })) none

-- the terms that are held have a mass
total_mass-held : (h : Held) → AreSmall h → (shares_of h ≡ [] → ⊥) → 0 < total_mass (shares_of h)
total_mass-held Nothing small some = absurd (some refl)
total_mass-held (One a) small some = let n = small.some in omega (arith, ints)
total_mass-held (Two a b) small some =
    let n = small.0.some in
    let d = small.1.mass.den_from in
    let na : 0 < unsigned_abs a.mass.num = omega (arith, ints, n) in
    let db : 0 < unsigned_abs b.mass.den = omega (arith, ints, d) in
    let both : 0 < unsigned_abs a.mass.num * unsigned_abs b.mass.den = mul-pos na db in
    omega (arith, both)

answer_after-found : (b : Block) (o : ℕ) (q : Quotient) (xs : List Dec) (x : Output) → output_at b o ≡ Some x
    → answer_after b o q xs ≡ centre (shares b xs o x) (resting x q)
answer_after-found b o q xs x e = ap (λ y. option_map_or (λ x. centre (shares b xs o x) (resting x q)) y q) e

heavy_terms-found : (b : Block) (o : ℕ) (xs : List Dec) (x : Output) → output_at b o ≡ Some x
    → heavy_terms b o xs ≡ length (heavy_shares (shares b xs o x))
heavy_terms-found b o xs x e = ap (λ y. option_map_or (λ x. length (heavy_shares (shares b xs o x))) y 0) e

-- an output some of whose terms have a mass
pub answer_after-held : (b : Block) (o : ℕ) (q : Quotient) (xs : List Dec) (x : Output) (h : Held) (f : Frac)
    → output_at b o ≡ Some x → Reduces (shares b xs o x) (shares_of h) → AreSmall h → (shares_of h ≡ [] → ⊥)
    → f.num ≡ weighted_sum (shares_of h) → f.den ≡ pos (total_mass (shares_of h) * 10000)
    → IsValueOf (answer_after b o q xs) f
answer_after-held b o q xs x h f found sums small some num den =
    subst (λ a. IsValueOf a f) (sym (answer_after-found b o q xs x found))
    (centre-reduced (shares b xs o x) (shares_of h) (resting x q) f sums (total_mass-held h small some) num den)

-- an output none of whose terms has a mass
pub answer_after-massless : (b : Block) (o : ℕ) (q : Quotient) (xs : List Dec) (x : Output) (h : Held)
    → output_at b o ≡ Some x → Reduces (shares b xs o x) (shares_of h) → shares_of h ≡ []
    → answer_after b o q xs ≡ resting x q
answer_after-massless b o q xs x h found sums none =
    answer_after-found b o q xs x found
    ∙ centre-massless (shares b xs o x) (resting x q) (subst (Reduces (shares b xs o x)) none sums)

pub heavy_terms-massless : (b : Block) (o : ℕ) (xs : List Dec) (x : Output) (h : Held) → output_at b o ≡ Some x
    → shares_of h ≡ heavy_shares (shares b xs o x) → shares_of h ≡ [] → heavy_terms b o xs ≡ 0
heavy_terms-massless b o xs x h found terms none = heavy_terms-found b o xs x found ∙ ap length (sym terms ∙ none)
