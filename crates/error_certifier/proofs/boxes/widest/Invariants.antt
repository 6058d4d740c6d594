use Rattle.error_certifier.proofs.BoxLemmas.{IsWidestOf}
use Rattle.error_certifier.proofs.boxes.widest.Given as goal

abbrev pub invariant-loop-k : goal.invariant-loop-k
invariant-loop-k l = IsWidestOf l.intervals l.k l.place
