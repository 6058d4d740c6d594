use Rattle.rule_layout.proofs.Words.{conditions, IsSizeOf, Some, spread_parts, take}
use Rattle.rule_layout.proofs.sizes.+size.Given as goal

abbrev pub invariant-size_of_parts-loop-part : goal.invariant-size_of_parts-loop-part
invariant-size_of_parts-loop-part l =
    IsSizeOf (spread_parts l.odd l.any (conditions (take l.part-index l.parts))) (Some l.total)
