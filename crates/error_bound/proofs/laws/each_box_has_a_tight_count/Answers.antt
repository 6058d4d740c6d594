use Rattle.error_bound.proofs.JudgedLemmas.{tight_counts}
use Rattle.error_bound.proofs.laws.each_box_has_a_tight_count.Goals as goal

pub returns : goal.returns
returns c = tight_counts c.means_have_errors.ensures
