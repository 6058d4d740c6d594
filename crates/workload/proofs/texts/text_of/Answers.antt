use Rattle.std.proofs.Common.{arith, ◌≡◌, ◌++◌, ◌∙◌, ℕ, List, append_assoc, ap, sym}
use Rattle.std.specs.Prelude.{flat_map, codes}
use Rattle.std.specs.List.{range_with_len}
use Rattle.workload.specs.{Texts.fcl_text, Texts.rule_text, declared.texts.TheConstants.VARIABLES}
use Rattle.workload.proofs.ListLemmas.{written_more}
use Rattle.workload.proofs.texts.text_of.Goals as goal

pub loop-n-preserved : goal.loop-n-preserved
loop-n-preserved c =
    let rule = rule_text c.args.shift in
    let n = c.loop-n.n in
    let before = flat_map rule (range_with_len 0 n) in
    c.in_ok-push_rule.ensures ∙ ap (λ (t : List ℕ). t ++ rule n) c.loop-n.invariant
    ∙ append_assoc VARIABLES before (rule n) ∙ ap (λ (t : List ℕ). VARIABLES ++ t) (sym (written_more rule n))

pub returns : goal.returns
unfolding fcl_text
returns c =
    let rule = rule_text c.args.shift in
    let all : c.loop-n.n ≡ 81 = omega (arith, c.loop-n-test.false, c.loop-n.auto.n-end) in
    let last = codes "END_RULEBLOCK\nEND_FUNCTION_BLOCK\n" in
    c.in_ok-extend_from_slice.ensures.items
    ∙ ap (λ (t : List ℕ). t ++ last)
    (c.loop-n.invariant ∙ ap (λ (n : ℕ). VARIABLES ++ flat_map rule (range_with_len 0 n)) all)
    ∙ append_assoc VARIABLES (flat_map rule (range_with_len 0 81)) last
