use Rattle.std.proofs.Common.{arith, ◌≡◌, ◌++◌, ℕ, [], ◌∷◌, ◌∙◌, ap, map, sym}
use Rattle.std.specs.List.{range_with_len}
use Rattle.workload.specs.Blocks.{drawn_rule, drawn_rules}
use Rattle.workload.proofs.ListLemmas.{made_more}
use Rattle.workload.proofs.blocks.rules.Goals as goal

pub loop-n-preserved : goal.loop-n-preserved
loop-n-preserved c =
    c.in_ok-push.ensures.items ∙ (λ i. c.loop-n.invariant i ++ (c.in_ok-rule.ensures i ∷ []))
    ∙ sym (made_more (drawn_rule c.args.shift) c.loop-n.n)

pub returns : goal.returns
unfolding drawn_rules
returns c =
    let all : c.loop-n.n ≡ 81 = omega (arith, c.loop-n-test.false, c.loop-n.auto.n-end) in
    c.loop-n.invariant ∙ ap (λ (n : ℕ). map (drawn_rule c.args.shift) (range_with_len 0 n)) all
