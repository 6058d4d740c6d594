use Rattle.std.proofs.Common.{◌≡◌, length}
use Rattle.fz_list.proofs.Algebra.{AreFilled}
use Rattle.box_tree.specs.declared.cert.LeafLine.TheVariants.{Pairs}
use Rattle.error_bound.specs.Reaches.{parts_of}
use Rattle.cert_check.specs.Trees.{part_of}
use Rattle.cert_check.proofs.LeafLemmas.{IsBoundAt}
use Rattle.cert_check.proofs.leaves.pair_bounds.Given as goal

abbrev pub invariant-loop-o : goal.invariant-loop-o
invariant-loop-o l = record {
  count : length l.bounds ≡ 4;
  filled : AreFilled (IsBoundAt l.table.table.now.block.now (parts_of l.table) (part_of l.table.bytes.0.items (Pairs l.pairs))) l.table.table.now.block.now.outputs
      l.bounds l.o;
}
