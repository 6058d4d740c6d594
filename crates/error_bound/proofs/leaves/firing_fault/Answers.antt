use Rattle.std.proofs.Common.{ℕ, sym, subst, arith}
use Rattle.error_bound.specs.declared.boxes.LeafFault.TheVariants.{Silent}
use Rattle.error_bound.specs.{Faults.IsSilentFault, Faults.silent, Faults.loud, Ratios.value_of, Spans.only}
use Rattle.error_bound.proofs.leaves.firing_fault.Goals as goal

pub returns-then-high-gt0-clause-fault : goal.returns-then-high-gt0-clause-fault
returns-then-high-gt0-clause-fault c =
    let high = c.args.high in
    let n = c.args.n in
    subst (λ (k : ℕ). IsSilentFault n (only (value_of high.truth)) (only high.byte)
    (Silent n (record { 0 = k }))) (sym c.up_nano.ensures) (silent (omega (arith, c.if-high-gt0.true)))

pub returns-then-high-gt0-2-clause-fault : goal.returns-then-high-gt0-2-clause-fault
returns-then-high-gt0-2-clause-fault c =
    loud (omega (arith, c.if-high-gt0.false)) (omega (arith, c.if-high-gt0-2.true))
