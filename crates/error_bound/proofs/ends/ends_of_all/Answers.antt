use Rattle.std.proofs.Common.{false, rules}
use Rattle.error_bound.proofs.FlatteningLemmas.{end_from, end_from_none}
use Rattle.error_bound.proofs.ListLemmas.{part_is_valid}
use Rattle.error_bound.proofs.ends.ends_of_all.Goals as goal

pub ends_of_part-ends-requires-clause-part : goal.ends_of_part-ends-requires-clause-part
ends_of_part-ends-requires-clause-part c =
    (part_is_valid c.parts_are_valid.ensures _ _ c.index-parts-k.is c.requires.parts (search rules))

pub loop-k-preserved : goal.loop-k-preserved
loop-k-preserved c =
    let ends = c.ends_of_part-ends.ensures in
    let l = c.joined-low.ensures in
    let h = c.joined-high.ensures in
    record {
      low = end_from false c.args.parts.now (search rules) (search rules) c.index-parts-k.is ends.low
          c.loop-k.invariant.low l.value l.byte l.small;
      high = end_from false c.args.parts.now (search rules) (search rules) c.index-parts-k.is ends.high
          c.loop-k.invariant.high h.value h.byte h.small;
    }

pub loop-k-init : goal.loop-k-init
loop-k-init c =
    let l = c.of_none-low.ensures in
    let h = c.of_none-high.ensures in
    record {
      low = end_from_none false c.args.parts.now l.value l.byte l.small;
      high = end_from_none false c.args.parts.now h.value h.byte h.small;
    }
