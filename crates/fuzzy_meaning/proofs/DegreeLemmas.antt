-- The degree by where x stands.
use Rattle.std.proofs.Common.{◌≡◌, ℕ, ◌*◌, ◌<◌, ◌≤◌, true, false, cond, Option, Some, None, refl, ap, ap₂, ◌∙◌, arith}
use Rattle.std.specs.Prelude.{nat_le, ℤ, ◌≤ℤ◌, ◌<ℤ◌}
use Rattle.std.specs.Int.Signed.{le_z}
use Rattle.std.proofs.lemmas.Int.{ints}
use Rattle.std.proofs.lemmas.Bool.Decides.{nat_tests}
use Rattle.fz_num.specs.{declared.dec.Dec.Dec, Decimals.distance}
use Rattle.fz_num.specs.Fractions.{Fraction, over, lesser, one, none}
use Rattle.fuzzy_meaning.specs.declared.block.Trapezoid.{Trapezoid}
use Rattle.fuzzy_meaning.specs.{Blocks.IsTrapezoid, Degrees.rise, Degrees.fall, Degrees.degree, Degrees.IsByPlace}

yes : (a b : ℤ) → a ≤ℤ b → le_z a b ≡ true
yes a b h = grind (arith, ints)

no : (a b : ℤ) → b <ℤ a → le_z a b ≡ false
no a b h = grind (arith, ints)

pub rise-top : (a : Option Dec) (b x : Dec) → b.0 ≤ℤ x.0 → rise a b x ≡ one
rise-top None b x h = refl
rise-top (Some a) b x h =
    ap (λ t. cond t one (cond (le_z x.0 a.0) none (over (distance a x) (distance a b)))) (yes b.0 x.0 h)

pub rise-course : (a b x : Dec) → a.0 <ℤ x.0 → x.0 <ℤ b.0 → rise (Some a) b x ≡ over (distance a x) (distance a b)
rise-course a b x h k =
    ap₂ (λ s t. cond s one (cond t none (over (distance a x) (distance a b)))) (no b.0 x.0 k) (no x.0 a.0 h)

pub rise-foot : (a b x : Dec) → x.0 ≤ℤ a.0 → x.0 <ℤ b.0 → rise (Some a) b x ≡ none
rise-foot a b x h k =
    ap₂ (λ s t. cond s one (cond t none (over (distance a x) (distance a b)))) (no b.0 x.0 k) (yes x.0 a.0 h)

pub fall-top : (c : Dec) (d : Option Dec) (x : Dec) → x.0 ≤ℤ c.0 → fall c d x ≡ one
fall-top c None x h = refl
fall-top c (Some d) x h =
    ap (λ t. cond t one (cond (le_z d.0 x.0) none (over (distance x d) (distance c d)))) (yes x.0 c.0 h)

pub fall-course : (c d x : Dec) → c.0 <ℤ x.0 → x.0 <ℤ d.0 → fall c (Some d) x ≡ over (distance x d) (distance c d)
fall-course c d x h k =
    ap₂ (λ s t. cond s one (cond t none (over (distance x d) (distance c d)))) (no x.0 c.0 h) (no d.0 x.0 k)

pub fall-foot : (c d x : Dec) → d.0 ≤ℤ x.0 → c.0 <ℤ x.0 → fall c (Some d) x ≡ none
fall-foot c d x h k =
    ap₂ (λ s t. cond s one (cond t none (over (distance x d) (distance c d)))) (no x.0 c.0 k) (yes d.0 x.0 h)

lesser-one : (p q : ℕ) → p ≤ q → lesser (over p q) one ≡ over p q
lesser-one p q h = let e : nat_le (p * 1) (1 * q) ≡ true = grind (arith, nat_tests) in ap (λ t. cond t (over p q) one) e

one-lesser : (p q : ℕ) → p < q → lesser one (over p q) ≡ over p q
one-lesser p q h = let e : nat_le (1 * q) (p * 1) ≡ false = grind (arith, nat_tests) in
    ap (λ t. cond t one (over p q)) e

sides : (t : Trapezoid) (x : Dec) (f g : Fraction) → rise t.a t.b x ≡ f → fall t.c t.d x ≡ g → degree t x ≡ lesser f g
sides t x f g e h = ap₂ lesser e h

pub IsByPlace-degree : (t : Trapezoid) (x : Dec) → IsTrapezoid t → IsByPlace t x (degree t x)
IsByPlace-degree t x v =
    let peak = v.peak in
    record {
      top = λ h k. sides t x one one (rise-top t.a t.b x h) (fall-top t.c t.d x k);
      left_open = λ e h. sides t x one one (ap (λ a. rise a t.b x) e)
          (fall-top t.c t.d x (omega (arith, ints, peak, h)));
      right_open = λ e h. sides t x one one (rise-top t.a t.b x (omega (arith, ints, peak, h)))
          (ap (λ d. fall t.c d x) e);
      rising = λ a e h k. sides t x _ one (ap (λ s. rise s t.b x) e ∙ rise-course a t.b x h k)
          (fall-top t.c t.d x (omega (arith, ints, peak, k)))
          ∙ lesser-one (distance a x) (distance a t.b) (omega (arith, ints, h, k));
      falling = λ d e h k. sides t x one _ (rise-top t.a t.b x (omega (arith, ints, peak, h)))
          (ap (λ s. fall t.c s x) e ∙ fall-course t.c d x h k)
          ∙ one-lesser (distance x d) (distance t.c d) (omega (arith, ints, h, k));
      before = λ a e h k. sides t x none one (ap (λ s. rise s t.b x) e ∙ rise-foot a t.b x h k)
          (fall-top t.c t.d x (omega (arith, ints, peak, k)));
      after = λ d e h k. sides t x one none (rise-top t.a t.b x (omega (arith, ints, peak, k)))
          (ap (λ s. fall t.c s x) e ∙ fall-foot t.c d x h k);
    }
