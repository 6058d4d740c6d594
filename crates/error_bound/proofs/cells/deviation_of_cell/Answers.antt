use Rattle.std.proofs.Common.{arith}
use Rattle.std.proofs.lemmas.Int.{ints}
use Rattle.fz_num.specs.declared.frac.Frac.{Frac}
use Rattle.fz_num.specs.Fractions.{IsTruth}
use Rattle.error_bound.proofs.cells.deviation_of_cell.Goals as goal

wider : (f : Frac) → IsTruth 1000000000000 f → IsTruth 10000000000000000 f
wider f t = record {
  num_from = t.num_from;
  num_to = t.num_to;
  den_from = t.den_from;
  den_to =
      omega (arith, ints, t.den_to);
}

pub rise-requires : goal.rise-requires
rise-requires c = wider c.wide.result c.wide.ensures.truth

pub fall-requires : goal.fall-requires
fall-requires c = wider c.wide-2.result c.wide-2.ensures.truth
