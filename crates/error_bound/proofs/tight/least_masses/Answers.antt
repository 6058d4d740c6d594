use Rattle.std.proofs.Common.{◌≡◌, ◌≤◌, ℕ, ◌+◌, ◌-◌, min, Bool, true, false, List, ◌∷◌, length, drop, get_or}
use Rattle.std.proofs.Common.{refl, ap, subst, arith}
use Rattle.std.proofs.lemmas.Bool.Decides.{nat_tests}
use Rattle.std.specs.Prelude.{slice_index, ◌==◌, ◌&&◌, ◌||◌}
use Rattle.error_bound.proofs.{LeafLemmas.concludes_among, ListLemmas.drop_back}
use Rattle.error_bound.proofs.tight.least_masses.Invariants.{IsLeast}
use Rattle.error_bound.proofs.tight.least_masses.Goals as goal

either : (o t : ℕ) (p : Bool) (x : ℕ × ℕ) (least value : ℕ) (values : ℕ → ℕ)
    → (((x.0 == o) && (x.1 == t + 1)) || p) ≡ true → (p ≡ true → least ≤ values t)
    → value ≡ min least (values (x.1 - 1)) → value ≤ values t
either o t true x least value values h rest is = omega (arith, rest refl, is)
either o t false x least value values h rest is =
    let same : x.1 - 1 ≡ t = grind (arith, nat_tests) in
    omega (arith, is, ap values same)

drop_read : {X : Type 0} {xs ys : List X} {k : ℕ} (d : X) → xs ≡ ys → 1 ≤ k → k ≤ length xs
    → drop (k - 1) ys ≡ get_or xs (k - 1) d ∷ drop k ys
drop_read {xs = xs} {k = k} d same some upto =
    subst (λ zs. drop (k - 1) zs ≡ get_or xs (k - 1) d ∷ drop k zs) same (drop_back xs k _ d some upto refl)

raised : (o least value : ℕ) (values : List ℕ) {x : ℕ × ℕ} {rest now : List (ℕ × ℕ)} → now ≡ x ∷ rest
    → IsLeast o least rest values → value ≡ min least (slice_index values (x.1 - 1)) → IsLeast o value now values
raised o least value values {x} {rest} next before is t few one =
    either o t (concludes_among o (t + 1) rest) x least value (slice_index values)
    (subst (λ ys. concludes_among o (t + 1) ys ≡ true) next one) (before t few) is

pub loop-k-preserved-then-output-out : goal.loop-k-preserved-then-output-out
loop-k-preserved-then-output-out c =
    let next = drop_read (0, 0) c.as_slice-conclusions.ensures c.loop-k-test.true c.loop-k.auto.k in
    let i = c.loop-k.invariant in
    record {
      low = raised _ _ _ c.args.lows.now next i.low c.min-low.ensures;
      high = raised _ _ _ c.args.highs.now next i.high c.min-high.ensures;
      byte_low = raised _ _ _ c.args.byte_lows.now next i.byte_low c.min-byte_low.ensures;
      byte_high = raised _ _ _ c.args.byte_highs.now next i.byte_high c.min-byte_high.ensures;
    }

elsewhere : (o t : ℕ) (p : Bool) (x : ℕ × ℕ) → (x.0 ≡ o → ⊥) → (((x.0 == o) && (x.1 == t + 1)) || p) ≡ true
    → p ≡ true
elsewhere o t p x differs h =
    let none : (x.0 == o) ≡ false = grind (arith, nat_tests) in
    subst (λ q. ((q && (x.1 == t + 1)) || p) ≡ true) none h

kept : (o least : ℕ) (values : List ℕ) {x : ℕ × ℕ} {rest now : List (ℕ × ℕ)} → now ≡ x ∷ rest → (x.0 ≡ o → ⊥)
    → IsLeast o least rest values → IsLeast o least now values
kept o least values {x} {rest} next differs before t few one = before t few
    (elsewhere o t (concludes_among o (t + 1) rest) x differs
    (subst (λ ys. concludes_among o (t + 1) ys ≡ true) next one))

pub loop-k-preserved : goal.loop-k-preserved
loop-k-preserved c =
    let next = drop_read (0, 0) c.as_slice-conclusions.ensures c.loop-k-test.true c.loop-k.auto.k in
    let differs = c.if-output-out.false in
    let i = c.loop-k.invariant in
    record {
      low = kept _ _ c.args.lows.now next differs i.low;
      high = kept _ _ c.args.highs.now next differs i.high;
      byte_low = kept _ _ c.args.byte_lows.now next differs i.byte_low;
      byte_high = kept _ _ c.args.byte_highs.now next differs i.byte_high;
    }
