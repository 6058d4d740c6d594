use Rattle.std.proofs.Common.{◌≡◌, ◌≤◌, ◌*◌, ◌∙◌, arith, mul-le-mul_right}
use Rattle.byte_scaling.specs.Widths.{parts}
use Rattle.cell_bounds.proofs.CellLemmas.{quotient_le}
use Rattle.cell_bounds.proofs.masses.answer.Goals as goal

pub returns-then-mass-gt0-clause-small : goal.returns-then-mass-gt0-clause-small
returns-then-mass-gt0-clause-small c =
    let m = c.byte_sums-mass.result.0 in
    let d = c.byte_sums-mass.result.1 in
    let p = c.from-parts.result in
    let e : p ≡ parts c.args.width = c.from-parts.ensures ∙ c.parts.ensures.value in
    let w : d * p ≤ (255 * m) * p = mul-le-mul_right p c.byte_sums-mass.ensures.within in
    let q = quotient_le (p * d) m (255 * p) c.if-mass-gt0.true (omega arith) in
    omega arith
