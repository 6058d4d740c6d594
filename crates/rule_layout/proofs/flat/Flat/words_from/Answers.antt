use Rattle.rule_layout.proofs.Words.{All, Conjunction, IsBelow, List, subst, sym}
use Rattle.std.specs.{Prelude.length}
use Rattle.rule_layout.proofs.ListLemmas.{IsBelow-weaker}
use Rattle.rule_layout.proofs.flat.Flat.words_from.Goals as goal

pub marked-requires-clause-numbers : goal.marked-requires-clause-numbers
marked-requires-clause-numbers c =
    subst (λ (w : List Conjunction). All (IsBelow 300) w) (sym c.as_slice.ensures)
    (IsBelow-weaker (length c.args.self.now.slots) 300 c.args.self.now.conjunctions c.requires.laid_out.few_slots
    c.requires.laid_out.in_range)
