use Rattle.watched_code.proofs.watching.Checksums.{one_change_is_seen, two_changes_may_pass, unchanged_sum_is_zero}
use Rattle.watched_code.proofs.laws.one_change_is_seen.Goals as goal

pub returns : goal.returns
returns c = record { unchanged = unchanged_sum_is_zero; one = one_change_is_seen; two = two_changes_may_pass }
