use Rattle.std.proofs.Common.{refl}
use Rattle.error_bound.proofs.TableLemmas.{end_weighted}
use Rattle.error_bound.proofs.rules.end_of_strength.Goals as goal

pub end_of-requires-clause-condition : goal.end_of-requires-clause-condition
end_of-requires-clause-condition c = c.requires.condition.valid c.requires.rule.condition

pub returns : goal.returns
returns c =
    let w = c.weighted.ensures in
    end_weighted c.args.table.now.table.now.block.now c.args.table.now.bytes.0.items c.args.rule.now c.args.side
    c.args.condition.now c.end_of.result _ _ c.requires.condition c.end_of.ensures refl w.value w.byte w.small
