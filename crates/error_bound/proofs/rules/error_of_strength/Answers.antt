use Rattle.std.proofs.Common.{◌≡◌, ◌≤◌, arith, rules}
use Rattle.error_bound.specs.{CellErrors.term_errors, Errors.eps, Spans.deviation}
use Rattle.error_bound.proofs.ConditionErrors.{deviation_alike}
use Rattle.error_bound.proofs.rules.error_of_strength.Goals as goal

pub deviation_of-deviation-requires-clause-condition : goal.deviation_of-deviation-requires-clause-condition
deviation_of-deviation-requires-clause-condition c = c.requires.condition.valid c.requires.rule.condition

pub returns : goal.returns
returns c =
    let b = c.args.table.now.table.now.block.now in
    let box = c.args.table.now.bytes.0.items in
    let both = deviation_alike b box c.args.rule.now.cond c.args.condition.now c.deviation_of-deviation.result
    c.requires.condition c.deviation_of-deviation.ensures in
    let small = c.deviation_of-deviation.ensures.small in
    let greater : c.max.result ≡ eps (deviation (term_errors b box) c.args.rule.now.cond) = omega (arith, both.0, both.1) in
    let at_most : c.max.result ≤ 1000000000 = omega (arith, small.rise, small.fall) in
    record {
      value = search (rules, greater);
      small = search (rules, at_most);
    }
