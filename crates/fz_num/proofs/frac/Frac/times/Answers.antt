use Rattle.std.proofs.Common.{arith, mul-le-mul}
use Rattle.std.proofs.lemmas.Int.{ints}
use Rattle.fz_num.proofs.frac.Frac.times.Goals as goal

pub returns-clause-truth : goal.returns-clause-truth
returns-clause-truth c =
    let t = c.over.ensures.truth (mul-le-mul (omega (arith, ints)) (omega (arith, ints))) in
    record { num_from = t.num_from; num_to = t.num_to; den_from = t.den_from; den_to = omega (arith, ints) }
