use Rattle.mailbox_runs.proofs.Words.{◌+◌, ◌≡◌, drop, length, up_to}
use Rattle.mailbox_runs.proofs.turns.count_up_to.Given as goal

abbrev pub invariant-loop-post : goal.invariant-loop-post
invariant-loop-post l = record {
  count : l.count + length (up_to l.moment (drop l.post-index l.posts)) ≡ length (up_to l.moment l.posts);
  index : l.count ≡ l.post-index;
}
