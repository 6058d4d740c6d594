use Rattle.std.proofs.Common.{◌≡◌, true, false, drop}
use Rattle.fz_num.specs.Fractions.{fraction_of, IsTruth, one_minus}
use Rattle.fuzzy_meaning.specs.Conditions.{conditions, evaluate_parts}
use Rattle.fuzzy_meaning.specs.Meaning.{literal_degree, truths}
use Rattle.fuzzy_meaning.proofs.truths.+truth.Given as goal

abbrev pub decreases-truth : goal.decreases-truth
decreases-truth l = goal.size-truth l

abbrev pub invariant-loop-k : goal.invariant-loop-k
invariant-loop-k l =
    IsTruth 4000000000 l.least
    × (fraction_of l.least ≡ evaluate_parts one_minus truths (literal_degree l.block l.xs) false
    (conditions (drop l.k l.parts.items)))

abbrev pub invariant-loop-k-2 : goal.invariant-loop-k-2
invariant-loop-k-2 l =
    IsTruth 4000000000 l.greatest
    × (fraction_of l.greatest ≡ evaluate_parts one_minus truths (literal_degree l.block l.xs) true
    (conditions (drop l.k l.parts.items)))
