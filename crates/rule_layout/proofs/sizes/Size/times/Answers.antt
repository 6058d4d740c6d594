use Rattle.rule_layout.proofs.Words.{arith, mul-le-mul_left, mul-le-mul_right}
use Rattle.rule_layout.proofs.sizes.Size.times.Goals as goal

pub overflow_mul-result : goal.overflow_mul-result
overflow_mul-result c =
    let p = mul-le-mul_right c.args.other.conjunctions c.requires.self_small.short in
    omega (arith, p)

pub overflow_mul-result-2 : goal.overflow_mul-result-2
overflow_mul-result-2 c =
    let p = mul-le-mul_left c.args.self.conjunctions c.requires.other_small.short in
    omega (arith, p)

pub overflow_add-result : goal.overflow_add-result
overflow_add-result c =
    let p = mul-le-mul_right c.args.other.conjunctions c.requires.self_small.short in
    let q = mul-le-mul_left c.args.self.conjunctions c.requires.other_small.short in
    omega (arith, p, q)
