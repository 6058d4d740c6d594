use Rattle.std.proofs.Common.{◌≡◌, ◌*◌, ◌/◌, subst, sym, arith}
use Rattle.fz_num.specs.Decimals.{distance}
use Rattle.byte_scaling.specs.Cells.{byte_of, LiesInCell}
use Rattle.byte_scaling.proofs.CellLemmas.{LiesInCell-byte_of}
use Rattle.byte_scaling.proofs.inputs.byte_within.Goals as goal

pub returns-clause-cell : goal.returns-clause-cell
returns-clause-cell c =
    let i = c.args.input.now in
    let x = c.args.x in
    let q : c.above.result * 256 / c.above-2.result ≡ distance i.lo x * 256 / distance i.lo i.hi = cc in
    let e : c.min.result ≡ byte_of i x = omega arith in
    subst (λ b. LiesInCell i b x) (sym e) (LiesInCell-byte_of i x c.requires.input.range c.requires.x)
