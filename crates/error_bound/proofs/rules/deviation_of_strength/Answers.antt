use Rattle.std.proofs.Common.{rules}
use Rattle.error_bound.proofs.ConditionErrors.{deviation_alike}
use Rattle.error_bound.proofs.rules.deviation_of_strength.Goals as goal

pub deviation_of-deviation-requires-clause-condition : goal.deviation_of-deviation-requires-clause-condition
deviation_of-deviation-requires-clause-condition c = c.requires.condition.valid c.requires.rule.condition

pub returns : goal.returns
returns c =
    let b = c.args.table.now.table.now.block.now in
    let box = c.args.table.now.bytes.0.items in
    let both = deviation_alike b box c.args.rule.now.cond c.args.condition.now c.deviation_of-deviation.result
    c.requires.condition c.deviation_of-deviation.ensures in
    let small = c.deviation_of-deviation.ensures.small in
    record {
      rise = search (rules, both.0);
      fall = search (rules, both.1);
      small = record { rise_to = search rules; fall_to = search rules };
    }
