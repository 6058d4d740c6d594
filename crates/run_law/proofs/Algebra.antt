-- Steps of a run without interrupts one after another: what holds before each, stretches of them, and sums that are
-- kept between parts.
use Rattle.std.proofs.Common.{◌≡◌, ℕ, zero, suc, ◌+◌, ◌^◌, ◌<◌, not, Bool, false, Result, Ok, refl, ap, ap₂, sym}
use Rattle.std.proofs.Common.{◌∙◌, subst, arith}
use Rattle.cpu12_parts.specs.{declared.temps.Temps.Temps, Laws.AreKept, State.State}
use Rattle.cpu12_parts.specs.declared.temps.Temps.TheVariants.{Free, Running, OnStack}
use Rattle.cpu12_emul.specs.declared.{ends.Stepped.Stepped, ends.Stepped.TheVariants.Part}
use Rattle.cpu12_emul.specs.Step.{Next, next_of, is_part}
use Rattle.run_law.specs.{Forms.one_if, Soundness.Before}
use Rattle.run_law.specs.Uninterrupted.{stepped, kind_at, state_by, kind_by, uninterrupted, counted}

-- what holds before no step, before one more, and before one
before_none : (P : State → Type 0) (flags : ℕ) (s : State) → Before P flags 0 s
before_none P flags s k l = absurd (omega arith)

pub before_more : (P : State → Type 0) (flags n : ℕ) (s : State) → P s → Before P flags n (stepped flags s)
    → Before P flags (suc n) s
before_more P flags n s p b zero l = p
before_more P flags n s p b (suc k) l = b k (omega arith)

before_one : (P : State → Type 0) (flags : ℕ) (s : State) → P s → Before P flags 1 s
before_one P flags s p = before_more P flags 0 s p (before_none P flags (stepped flags s))

pub uninterrupted_add : (flags m n : ℕ) (s : State)
    → uninterrupted flags (m + n) s ≡ uninterrupted flags n (uninterrupted flags m s)
uninterrupted_add flags zero n s = let e : 0 + n ≡ n = omega arith in ap (λ (k : ℕ). uninterrupted flags k s) e
uninterrupted_add flags (suc m) n s = let e : suc m + n ≡ suc (m + n) = omega arith in
    ap (λ (k : ℕ). uninterrupted flags k s) e ∙ uninterrupted_add flags m n (stepped flags s)

pub counted_add : (flags m n : ℕ) (s : State)
    → counted flags (m + n) s ≡ counted flags m s + counted flags n (uninterrupted flags m s)
counted_add flags zero n s = let e : 0 + n ≡ n = omega arith in ap (λ (k : ℕ). counted flags k s) e ∙ omega arith
counted_add flags (suc m) n s =
    let e : suc m + n ≡ suc (m + n) = omega arith in
    let r = counted_add flags m n (stepped flags s) in
    ap (λ (k : ℕ). counted flags k s) e ∙ omega (arith, r)

before_add : (P : State → Type 0) (flags m n : ℕ) (s : State) → Before P flags m s
    → Before P flags n (uninterrupted flags m s) → Before P flags (m + n) s
before_add P flags zero n s a b k l = b k (omega arith)
before_add P flags (suc m) n s a b zero l = a 0 (omega arith)
before_add P flags (suc m) n s a b (suc k) l =
    before_add P flags m n (stepped flags s) (λ j i. a (suc j) (omega arith)) b k (omega arith)

-- So many steps lead from s to t, of which so many count, and P holds at each state before t.
pub record Stretch (P : State → Type 0) (flags n count : ℕ) (s t : State) : Type 0 where
  pub goes : uninterrupted flags n s ≡ t
  pub counts : counted flags n s ≡ count
  pub each : Before P flags n s

pub no_stretch : (P : State → Type 0) (flags : ℕ) (s : State) → Stretch P flags 0 0 s s
no_stretch P flags s = record { goes = refl; counts = refl; each = before_none P flags s }

-- one behind the other
pub joined : (P : State → Type 0) (flags m n i j : ℕ) (s u t : State) → Stretch P flags m i s u
    → Stretch P flags n j u t
    → Stretch P flags (m + n) (i + j) s t
joined P flags m n i j s u t a b = record {
  goes = uninterrupted_add flags m n s ∙ ap (uninterrupted flags n) a.goes ∙ b.goes;
  counts = (let c = counted_add flags m n s in let d = ap (counted flags n) a.goes in
      omega (arith, c, d, a.counts, b.counts));
  each = before_add P flags m n s a.each (subst (λ (v : State). Before P flags n v) (sym a.goes) b.each);
}

-- a plain instruction or a last part is one step
pub one_stretch : (P : State → Type 0) (flags : ℕ) (k : Stepped) (s t : State) → is_part k ≡ false → P s
    → next_of flags s ≡ Ok (record { state = t; kind = k }) → Stretch P flags 1 1 s t
one_stretch P flags k s t whole p e = record {
  goes = ap (state_by s) e;
  counts = ap (λ (o : Result Next ℕ). one_if (not (is_part (kind_by o))) + 0) e
      ∙ ap (λ (b : Bool). one_if (not b) + 0) whole;
  each = before_one P flags s p;
}

-- a part before the rest
pub part_stretch : (P : State → Type 0) (flags n : ℕ) (s u t : State) → P s
    → next_of flags s ≡ Ok (record { state = u; kind = Part }) → Stretch P flags n 1 u t → Stretch P flags (suc n) 1 s t
part_stretch P flags n s u t p e r =
    let at : stepped flags s ≡ u = ap (state_by s) e in
    let kind : kind_at flags s ≡ Part = ap kind_by e in
    record {
      goes = ap (uninterrupted flags n) at ∙ r.goes;
      counts = ap₂ (λ (k : Stepped) (m : ℕ). one_if (not (is_part k)) + m) kind (ap (counted flags n) at ∙ r.counts);
      each = before_more P flags n s p (subst (λ (v : State). Before P flags n v) (sym at) r.each);
    }

-- sums that stand between parts
pub record KeptSums (t : Temps) : Type 0 where
  pub product : ℕ
  pub weight : ℕ
  pub running : t ≡ Running product weight
  pub product_fits : product < 2 ^ 32
  pub weight_fits : weight < 2 ^ 16

pub kept_sums : (t : Temps) → AreKept t → KeptSums t
kept_sums Free h = absurd h
kept_sums OnStack h = absurd h
kept_sums (Running p w) h = record { product = p; weight = w; running = refl; product_fits = h.0; weight_fits = h.1 }
