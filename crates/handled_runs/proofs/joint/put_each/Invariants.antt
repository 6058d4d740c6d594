use Rattle.std.proofs.Common.{ℕ, ◌≡◌, length}
use Rattle.cpu12_asm.specs.Bytes.{byte_at}
use Rattle.handled_runs.specs.Joint.{either}
use Rattle.handled_runs.proofs.joint.put_each.Given as goal

-- the bytes that are left before those that were put are all before those of old
abbrev pub invariant-loop-at : goal.invariant-loop-at
invariant-loop-at l =
    (q : ℕ) → either (byte_at l.bytes.items q) (byte_at l.map q) ≡ either (byte_at l.from q) (byte_at l.fn.map q)

abbrev pub decreases-loop-at : goal.decreases-loop-at
decreases-loop-at l = length l.bytes.items
