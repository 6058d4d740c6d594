use Rattle.std.proofs.Common.{arith}
use Rattle.std.proofs.lemmas.Int.{ints}
use Rattle.fuzzy_meaning.proofs.degrees.rise.Goals as goal

pub returns-else-x-a-clause-truth : goal.returns-else-x-a-clause-truth
returns-else-x-a-clause-truth c =
    let a_in = rw c.in-Some.is at c.requires.a in
    let low = a_in.0.low in
    let t = c.over.ensures.truth (omega (arith, ints, a_in.1)) in
    record {
      num_from = t.num_from;
      num_to = t.num_to;
      den_from = t.den_from;
      den_to =
          omega (arith, ints, t.den_to, low, a_in.1);
    }
