use Rattle.std.proofs.Common.{◌≡◌, ◌*◌, take, length}
use Rattle.box_tree.specs.Texts.{pair_numbers}
use Rattle.box_tree.proofs.writer.numbers_of_pairs.Given as goal

abbrev pub invariant-loop-pair : goal.invariant-loop-pair
invariant-loop-pair l = record {
  count : length l.numbers.items ≡ 2 * l.pair-index;
  so_far : l.numbers.items ≡ pair_numbers (take l.pair-index l.pairs.items);
}
