use Rattle.std.proofs.Common.{◌+◌, ◌*◌, ◌≤◌, arith, mul-le-mul_right}
use Rattle.std.proofs.lemmas.Int.{ints}
use Rattle.error_bound.proofs.degrees.degrees_of.Goals as goal

pub rising-requires-2-clause-n : goal.rising-requires-2-clause-n
rising-requires-2-clause-n c =
    let w = c.above-width.result in
    let m : (c.from-2.result + 1) * w ≤ 256 * w = mul-le-mul_right w (omega arith) in
    let s : w ≤ 2000000000 = omega (arith, ints) in
    omega (arith, m, s)

pub falling-requires-2-clause-n : goal.falling-requires-2-clause-n
falling-requires-2-clause-n c =
    let w = c.above-width.result in
    let m : c.from.result * w ≤ 256 * w = mul-le-mul_right w (omega arith) in
    let s : w ≤ 2000000000 = omega (arith, ints) in
    omega (arith, m, s)
