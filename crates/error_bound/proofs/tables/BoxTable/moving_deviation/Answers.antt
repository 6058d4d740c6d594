use Rattle.std.proofs.Common.{◌≡◌, ℕ, zero, suc, Bool, true, false, ◌⊎◌, inl, inr, refl, sym, ◌∙◌, subst}
use Rattle.std.specs.Prelude.{◌==◌, ◌&&◌, if◌then◌else◌}
use Rattle.std.proofs.{Common.arith, lemmas.Bool.Decides.nat_tests}
use Rattle.fz_list.proofs.Algebra.{some_at}
use Rattle.error_bound.proofs.TightLawLemmas.{still-same}
use Rattle.error_bound.proofs.tables.BoxTable.moving_deviation.Goals as goal

both_zero : (m n : ℕ) → m ≡ 0 → n ≡ 0 → ((m == 0) && (n == 0)) ≡ true
both_zero m n e f = rw (e, f) refl

not_zero : (n : ℕ) → (n ≡ 0 → ⊥) → (n == 0) ≡ false
not_zero zero h = absurd (h refl)
not_zero (suc n) h = grind (arith, nat_tests)

and_false : (c : Bool) → (c && false) ≡ false
and_false true = refl
and_false false = refl

not_both : (m n : ℕ) → ((m ≡ 0) × (n ≡ 0 → ⊥)) ⊎ (m ≡ 0 → ⊥) → ((m == 0) && (n == 0)) ≡ false
not_both m n (inl p) = subst (λ t. ((m == 0) && t) ≡ false) (sym (not_zero n p.1)) (and_false (m == 0))
not_both m n (inr p) = subst (λ t. (t && (n == 0)) ≡ false) (sym (not_zero m p)) refl

still : (t c : Bool) (n : ℕ) → t ≡ true → t ≡ c → 0 ≡ (if c then 0 else n)
still t true n h e = refl
still t false n h e = absurd (let z : ⊥ = cc in z)

moving : (t c : Bool) (n : ℕ) → t ≡ false → t ≡ c → n ≡ (if c then 0 else n)
moving t true n h e = absurd (let z : ⊥ = cc in z)
moving t false n h e = refl

pub returns-then-high-eq0-2-clause-rise : goal.returns-then-high-eq0-2-clause-rise
returns-then-high-eq0-2-clause-rise c r found =
    still _ _ _ (both_zero c.args.high.truth.num c.args.high.byte c.if-high-eq0.true c.if-high-eq0-2.true)
    (still-same c.args.self.now.table.now.block.now c.args.self.now.bytes.0.items r c.args.high (c.requires.high r found))

pub returns-then-high-eq0-2-clause-fall : goal.returns-then-high-eq0-2-clause-fall
returns-then-high-eq0-2-clause-fall c r found =
    still _ _ _ (both_zero c.args.high.truth.num c.args.high.byte c.if-high-eq0.true c.if-high-eq0-2.true)
    (still-same c.args.self.now.table.now.block.now c.args.self.now.bytes.0.items r c.args.high (c.requires.high r found))

pub returns-else-high-eq0-clause-rise : goal.returns-else-high-eq0-clause-rise
returns-else-high-eq0-clause-rise c r found =
    (c.deviation_of_rule.ensures r found).rise
    ∙ moving _ _ _ (not_both c.args.high.truth.num c.args.high.byte c.else-high-eq0.either)
    (still-same c.args.self.now.table.now.block.now c.args.self.now.bytes.0.items r c.args.high (c.requires.high r found))

pub returns-else-high-eq0-clause-fall : goal.returns-else-high-eq0-clause-fall
returns-else-high-eq0-clause-fall c r found =
    (c.deviation_of_rule.ensures r found).fall
    ∙ moving _ _ _ (not_both c.args.high.truth.num c.args.high.byte c.else-high-eq0.either)
    (still-same c.args.self.now.table.now.block.now c.args.self.now.bytes.0.items r c.args.high (c.requires.high r found))

pub returns-else-high-eq0-clause-small : goal.returns-else-high-eq0-clause-small
returns-else-high-eq0-clause-small c =
    let r = some_at c.args.self.now.table.now.block.now.rules c.args.place c.requires.place in
    (c.deviation_of_rule.ensures r.0 r.1).small
