use Rattle.std.proofs.Common.{◌≡◌, ◌≤◌, subst, sym, arith}
use Rattle.std.proofs.lemmas.Int.{ints}
use Rattle.fz_num.specs.Fractions.{rise, fall, IsNear, fraction_of}
use Rattle.fz_num.proofs.Algebra.{sides-near, rise-least}
use Rattle.fz_num.proofs.frac.Frac.rise.Goals as goal

pub returns-clause-near : goal.returns-clause-near
returns-clause-near c =
    let f = fraction_of c.args.self in
    let is : c.parts_of.result ≡ rise 1000000000 c.args.g f = grind (arith, ints) in
    subst (λ n. IsNear 1000000000 c.args.g f n (fall 1000000000 c.args.g f))
    (sym is) (sides-near 1000000000 c.args.g f (omega (arith, ints)))

pub returns-clause-least : goal.returns-clause-least
returns-clause-least c r d near =
    let f = fraction_of c.args.self in
    let is : c.parts_of.result ≡ rise 1000000000 c.args.g f = grind (arith, ints) in
    subst (λ n. n ≤ r) (sym is)
    (rise-least 1000000000 c.args.g f r d (omega (arith, ints)) near)
