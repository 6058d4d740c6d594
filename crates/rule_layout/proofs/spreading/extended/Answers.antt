use Rattle.rule_layout.proofs.Words.{◌++◌, ◌∙◌, ◌≡◌, arith, choices, map}
use Rattle.std.proofs.lemmas.Result.{IfOk-weaker}
use Rattle.rule_layout.proofs.ChoicesLemmas.{choices_of_one, choices_more}
use Rattle.rule_layout.proofs.spreading.extended.Goals as goal

pub returns-in-len1 : goal.returns-in-len1
returns-in-len1 c =
    let same = choices_of_one c.args.heads.items c.args.tails.now c.as_slice.result.now c.tail-item.result (omega arith)
    (omega arith) c.tail-item.is c.as_slice.ensures in
    IfOk-weaker c.followed.result (λ v. v.items ≡ map (λ head. head ++ c.as_slice.result.now) c.args.heads.items)
    (λ v. v.items ≡ choices c.args.heads.items c.args.tails.now) (λ v h. h ∙ same) c.followed.ensures

pub loop-head-preserved : goal.loop-head-preserved
loop-head-preserved c =
    c.in_ok-push_choices.ensures
    ∙ choices_more c.deref-head-items.result.now c.args.tails.now c.loop-head.all.items c.loop-head.head-index
    c.head-item.result c.as_slice-in-loop-head.result.now c.loop-head-test.true c.head-item.is
    c.as_slice-in-loop-head.ensures c.loop-head.invariant
