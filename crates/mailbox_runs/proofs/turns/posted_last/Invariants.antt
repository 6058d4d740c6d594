use Rattle.mailbox_runs.proofs.Words.{◌≡◌, drop, waiting}
use Rattle.mailbox_runs.proofs.turns.posted_last.Given as goal

abbrev pub invariant-loop-post : goal.invariant-loop-post
invariant-loop-post l = record { waits : waiting l.waits (drop l.post-index l.posts) ≡ waiting l.before l.posts }
