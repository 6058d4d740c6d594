use Rattle.std.proofs.Common.{◌≡◌, ◌≤◌, ◌+◌, ◌*◌, ◌^◌}
use Rattle.cpu12_asm.specs.{Faults.through, Lines.lines_of, Left.lines_left, Left.size_left, Names.value_in}
use Rattle.cpu12_asm.specs.Sources.{start, defined_by}
use Rattle.cpu12_asm.proofs.sources.read_names.Given as goal

-- the lines that are left define what is wanted
abbrev pub invariant-loop-left : goal.invariant-loop-left
invariant-loop-left l = record {
  same : through defined_by (record { place = l.place; value = value_in l.names }) (l.number + 1) (lines_left l.left)
      ≡ through defined_by start 1 (lines_of l.text);
  few : l.number + size_left l.left ≤ 2 ^ 20 + 1;
  low : l.place ≤ 2 ^ 34 * (l.number + 1);
}

abbrev pub decreases-loop-left : goal.decreases-loop-left
decreases-loop-left l = size_left l.left
