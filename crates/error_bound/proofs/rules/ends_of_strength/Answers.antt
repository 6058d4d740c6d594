use Rattle.std.proofs.Common.{refl}
use Rattle.error_bound.specs.declared.ends.Side.TheVariants.{Low, High}
use Rattle.error_bound.proofs.TableLemmas.{end_weighted}
use Rattle.error_bound.proofs.rules.ends_of_strength.Goals as goal

pub ends_of-ends-requires-clause-condition : goal.ends_of-ends-requires-clause-condition
ends_of-ends-requires-clause-condition c = c.requires.condition.valid c.requires.rule.condition

pub returns : goal.returns
returns c =
    let b = c.args.table.now.table.now.block.now in
    let box = c.args.table.now.bytes.0.items in
    let r = c.args.rule.now in
    let d = c.args.condition.now in
    let l = c.weighted.ensures in
    let h = c.weighted-2.ensures in
    record {
      low = end_weighted b box r Low d c.ends_of-ends.result.low _ _ c.requires.condition c.ends_of-ends.ensures.low
          refl l.value l.byte l.small;
      high = end_weighted b box r High d c.ends_of-ends.result.high _ _ c.requires.condition
          c.ends_of-ends.ensures.high refl h.value h.byte h.small;
    }
