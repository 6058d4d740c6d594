use Rattle.fuzzy_meaning.proofs.HeldLemmas.{HoldsFrom}
use Rattle.fuzzy_meaning.proofs.answers.held_terms.Given as goal

abbrev pub invariant-loop-k : goal.invariant-loop-k
invariant-loop-k l = HoldsFrom l.block l.xs l.out l.singletons l.k l.held
