use Rattle.std.proofs.Common.{◌≡◌, ◌*◌, length, take, All}
use Rattle.box_tree.specs.{Certificates.IsPair, Texts.pair_numbers}
use Rattle.box_tree.proofs.nodes.pairs_of.Given as goal

abbrev pub invariant-loop-i : goal.invariant-loop-i
invariant-loop-i l = record {
  count : length l.pairs.items ≡ l.i;
  pairs : All IsPair l.pairs.items;
  so_far : pair_numbers l.pairs.items ≡ take (2 * l.i) l.numbers;
}
