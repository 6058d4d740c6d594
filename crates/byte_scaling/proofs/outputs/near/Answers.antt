use Rattle.std.proofs.Common.{◌≡◌, ◌+◌, ◌*◌, ◌/◌, subst, sym, arith}
use Rattle.std.proofs.lemmas.Int.{ints}
use Rattle.fz_num.specs.Decimals.{distance}
use Rattle.byte_scaling.specs.Cells.{IsNearest}
use Rattle.byte_scaling.proofs.CellLemmas.{IsNearest-quotient}
use Rattle.byte_scaling.proofs.outputs.near.Goals as goal

pub returns-clause-nearest : goal.returns-clause-nearest
returns-clause-nearest c =
    let o = c.args.output.now in
    let w = distance o.lo o.hi in
    let d = distance o.lo c.args.x in
    let e : (510 * c.above-above.result + c.above-width.result) / (2 * c.above-width.result) ≡ (510 * d + w) / (2 * w) =
    cc in
    subst (λ s. IsNearest w d s) (sym e) (IsNearest-quotient w d (omega (arith, ints)))
