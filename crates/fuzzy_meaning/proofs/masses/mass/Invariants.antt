use Rattle.std.proofs.Common.{◌≡◌, drop}
use Rattle.fz_num.specs.Fractions.{fraction_of, IsTruth}
use Rattle.fuzzy_meaning.specs.Meaning.{mass_among}
use Rattle.fuzzy_meaning.proofs.masses.mass.Given as goal

abbrev pub invariant-loop-k : goal.invariant-loop-k
invariant-loop-k l =
    IsTruth 40000000000000 l.greatest
    × (fraction_of l.greatest ≡ mass_among l.block l.xs l.out l.term (drop l.k l.rules))
