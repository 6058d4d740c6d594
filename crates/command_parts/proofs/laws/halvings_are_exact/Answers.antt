use Rattle.command_parts.proofs.ReadingLemmas.{halvings_exact}
use Rattle.command_parts.proofs.laws.halvings_are_exact.Goals as goal

pub returns : goal.returns
returns c = halvings_exact c.answers_for_targets_are_one.ensures
