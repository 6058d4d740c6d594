use Rattle.std.proofs.Common.{ℕ, ◌*◌, ◌<◌, ◌≤◌, ⊎_elim, sym, subst, arith}
use Rattle.std.proofs.lemmas.Bool.{cases_lt}
use Rattle.fz_num.specs.Fractions.{Fraction, AtMost, IsBelow}
use Rattle.error_bound.specs.declared.boxes.LeafFault.TheVariants.{Weak}
use Rattle.error_bound.specs.{Faults.IsStrongFault, Faults.weak, Faults.still, Ratios.value_of, Spans.only}
use Rattle.error_bound.proofs.leaves.strong_fault.Goals as goal

pub returns-then-is_below-clause-fault : goal.returns-then-is_below-clause-fault
returns-then-is_below-clause-fault c =
    let low = c.args.low in
    let leaf = c.args.leaf in
    subst (λ (k : ℕ). IsStrongFault leaf (only (value_of low.truth)) (only low.byte)
    (Weak leaf.rule leaf.k (record { 0 = k }))) (sym c.floor_nano.ensures)
    (weak (c.is_below.ensures.0 c.if-is_below.true))

not_below : (f g : Fraction) → (IsBelow f g → ⊥) → AtMost g f
not_below f g h = ⊎_elim
    (λ (l : f.num * g.den < g.num * f.den). absurd (h (record { cross = l })))
    (λ (l : g.num * f.den ≤ f.num * g.den). record { cross = l })
    (cases_lt (f.num * g.den) (g.num * f.den))

pub returns-then-low-eq0-clause-fault : goal.returns-then-low-eq0-clause-fault
returns-then-low-eq0-clause-fault c =
    still (not_below _ _ (λ b. (let yes = c.is_below.ensures.1 b in let z : ⊥ = cc in z)))
    (let z = c.if-low-eq0.true in omega (arith, z))
