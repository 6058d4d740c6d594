use Rattle.std.proofs.Common.{◌≡◌, ℕ, ◌≤◌, ◌+◌, ◌^◌, List}
use Rattle.cpu12_asm.specs.{Bytes.Holds, Faults.through, Left.lines_left, Left.size_left, Names.value_in}
use Rattle.cpu12_asm.specs.Sources.{given_by_line, bytes_of}
use Rattle.cpu12_asm.proofs.sources.read_bytes.Given as goal

-- the lines that are left give what is wanted
abbrev pub invariant-loop-left : goal.invariant-loop-left
invariant-loop-left l = record {
  same : (given : List (ℕ × ℕ)) × (Holds l.bytes given)
      × (through (given_by_line (value_in l.names)) (record { place = l.place; bytes = given }) (l.number + 1)
      (lines_left l.left) ≡ bytes_of (value_in l.names) l.text);
  few : l.number + size_left l.left ≤ 2 ^ 20 + 1;
  low : l.place ≤ 2 ^ 16;
}

abbrev pub decreases-loop-left : goal.decreases-loop-left
decreases-loop-left l = size_left l.left
