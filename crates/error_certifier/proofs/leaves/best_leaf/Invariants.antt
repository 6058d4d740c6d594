use Rattle.std.proofs.Common.{◌≡◌, ℕ, ◌<◌, length, Some}
use Rattle.std.specs.Prelude.{slice_get, All}
use Rattle.fuzzy_meaning.specs.declared.block.Output.{Output}
use Rattle.box_tree.specs.Certificates.{IsPair}
use Rattle.error_bound.specs.Reaches.{parts_of}
use Rattle.error_certifier.specs.Trees.{IsBestPair}
use Rattle.error_certifier.proofs.leaves.best_leaf.Given as goal

abbrev pub invariant-loop-o : goal.invariant-loop-o
invariant-loop-o l = record {
  count : length l.pairs.items ≡ l.o;
  places : length l.bounds ≡ 4;
  each : (k : ℕ) (x : Output) → k < l.o → slice_get l.table.table.now.block.now.outputs k ≡ Some x
      → IsBestPair l.table.table.now.block.now (parts_of l.table) l.targets l.table.bytes.0.items k x l.pairs.items l.bounds;
  good : All IsPair l.pairs.items;
}
