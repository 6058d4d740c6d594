use Rattle.mailbox_runs.proofs.Words.{◌++◌, ◌+◌, ◌≡◌, drop, length, take}
use Rattle.mailbox_runs.proofs.form.put_all.Given as goal

-- the writes that are there and those to come are all of them
abbrev pub invariant-loop-write : goal.invariant-loop-write
invariant-loop-write l = record {
  items : take l.done l.writes ++ drop l.write-index l.more ≡ take l.count l.fn.writes ++ l.more;
  done : l.done ≡ l.count + l.write-index;
  len : length l.writes ≡ length l.fn.writes;
}
