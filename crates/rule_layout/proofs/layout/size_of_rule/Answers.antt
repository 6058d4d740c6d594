use Rattle.rule_layout.proofs.Words.{◌+◌, arith, mul-le-mul_right}
use Rattle.rule_layout.proofs.{SizeLemmas.small_from, SpreadLemmas.entries_le}
use Rattle.std.specs.Prelude.{false}
use Rattle.rule_layout.proofs.layout.size_of_rule.Goals as goal

pub overflow_add-result : goal.overflow_add-result
overflow_add-result c =
    let small = small_from _ _ c.in_ok-size.size _ (entries_le false c.args.rule.now.cond)
    (omega (arith, c.requires.few)) c.in_ok-size.ensures in
    let wide = mul-le-mul_right (c.len.result + 2) small.few in
    omega (arith, small.few, small.short, wide, c.len.ensures, c.requires.few)
