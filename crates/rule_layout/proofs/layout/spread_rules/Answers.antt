use Rattle.rule_layout.proofs.Words.{◌++◌, ◌∙◌, ◌≡◌, ap, Conjunction, length, length-map, List, map, out_slot}
use Rattle.rule_layout.proofs.Words.{replicate, rule_spread, rule_weights, table_conjunctions, table_literal}
use Rattle.rule_layout.proofs.Words.{table_number, weight_byte_of, ℕ}
use Rattle.rule_layout.proofs.RuleLemmas.{flat_map_step, table_conjunctions_made, replicate_as_map}
use Rattle.rule_layout.proofs.layout.spread_rules.Goals as goal

pub loop-rule-preserved : goal.loop-rule-preserved
loop-rule-preserved c =
    let r = c.rule-item.result in
    let table = c.args.numbers.now.table in
    let conclusions = c.deref.ensures.value
    ∙ (c.in_ok-conclusions.ensures ∙ ap (map (λ p. table_number table (out_slot p))) c.as_slice.ensures) in
    let made = table_conjunctions_made table r c.in_ok-spread.spread.items c.deref.result.now c.in_ok-spread.ensures
    conclusions in
    let count : c.len.result ≡ length (rule_spread r) =
    c.len.ensures ∙ (c.in_ok-spread.spread.ok.0
    ∙ (ap (λ (w : List (List ℕ)). length w) c.in_ok-spread.ensures
    ∙ length-map (rule_spread r) (map (table_literal table)))) in
    let times = replicate_as_map (weight_byte_of r.weight) c.len.result (rule_spread r) count in
    let weights = c.in_ok-push_times.ensures
    ∙ (ap (λ (b : ℕ). c.loop-rule.weights.items ++ replicate c.len.result b) c.weight_byte.ensures
    ∙ ap (λ (v : List ℕ). c.loop-rule.weights.items ++ v) times) in (
      flat_map_step (table_conjunctions table) c.args.rules.now c.loop-rule.rule-index r c.loop-rule.all.items
          c.push_conjunctions.new.all.items c.loop-rule-test.true c.rule-item.is c.loop-rule.invariant.0
          (c.in_ok-push_conjunctions.ensures ∙ ap (λ (w : List Conjunction). c.loop-rule.all.items ++ w) made),
      flat_map_step rule_weights c.args.rules.now c.loop-rule.rule-index r c.loop-rule.weights.items
          c.push_times.new.bytes.items c.loop-rule-test.true c.rule-item.is c.loop-rule.invariant.1 weights,
    )
