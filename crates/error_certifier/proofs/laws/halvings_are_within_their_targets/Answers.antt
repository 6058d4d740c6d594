use Rattle.error_certifier.proofs.TargetLemmas.{within_targets}
use Rattle.error_certifier.proofs.laws.halvings_are_within_their_targets.Goals as goal

pub returns : goal.returns
returns c = within_targets c.cuts_have_halves.ensures c.claim_bounds_are_one.ensures
    c.open_boxes_go_on.ensures
