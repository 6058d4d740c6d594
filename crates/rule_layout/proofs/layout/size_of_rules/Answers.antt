use Rattle.rule_layout.proofs.Words.{IsCountable, subst, sym}
use Rattle.rule_layout.proofs.RuleLemmas.{rules_small, rule_small}
use Rattle.rule_layout.proofs.layout.size_of_rules.Goals as goal

pub plus-requires-clause-self_small : goal.plus-requires-clause-self_small
plus-requires-clause-self_small c =
    rules_small c.args.rules.now c.loop-rule.rule-index c.loop-rule.total c.requires.countable c.loop-rule.invariant.1

pub plus-requires-clause-other_small : goal.plus-requires-clause-other_small
plus-requires-clause-other_small c =
    let countable = subst IsCountable (sym c.rule-item.is)
    (c.requires.countable c.loop-rule.rule-index c.rule-item.result c.loop-rule-test.true) in
    rule_small c.rule-item.result c.in-Some.size countable c.in-Some.ensures
