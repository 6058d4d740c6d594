use Rattle.std.proofs.Common.{◌≡◌, length}
use Rattle.fz_list.proofs.Algebra.{AreFilled}
use Rattle.error_bound.specs.Reaches.{parts_of}
use Rattle.error_certifier.proofs.HalveLemmas.{IsTightAt}
use Rattle.error_certifier.proofs.leaves.tight_bounds.Given as goal

abbrev pub invariant-loop-o : goal.invariant-loop-o
invariant-loop-o l = record {
  places : length l.bounds ≡ 4;
  filled : AreFilled (IsTightAt l.table.table.now.block.now (parts_of l.table) l.targets l.table.bytes.0.items) l.table.table.now.block.now.outputs l.bounds l.o;
}
