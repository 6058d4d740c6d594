use Rattle.error_certifier.proofs.OneAnswer.{one_answer}
use Rattle.error_certifier.proofs.laws.answers_for_targets_are_one.Goals as goal

pub returns : goal.returns
returns c = one_answer c.errors_are_determined.ensures c.best_leaves_are_one.ensures c.box_counts_are_one.ensures
    c.cell_counts_are_one.ensures c.cuts_have_halves.ensures
