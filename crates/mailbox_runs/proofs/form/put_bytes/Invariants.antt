use Rattle.mailbox_runs.proofs.Words.{◌++◌, ◌+◌, ◌≡◌, drop, length, take, writes_from}
use Rattle.mailbox_runs.proofs.form.put_bytes.Given as goal

-- the writes that are there and those to come are all of them
abbrev pub invariant-loop-byte : goal.invariant-loop-byte
invariant-loop-byte l = record {
  items : take l.done l.writes ++ writes_from l.next (drop l.byte-index l.bytes)
      ≡ take l.count l.fn.writes ++ writes_from l.at l.bytes;
  done : l.done ≡ l.count + l.byte-index;
  len : length l.writes ≡ length l.fn.writes;
}
