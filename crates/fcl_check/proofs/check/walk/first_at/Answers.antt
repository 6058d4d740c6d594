use Rattle.fcl_check.proofs.Words.{refl, rules, says_at}
use Rattle.fcl_check.proofs.Places.{found_here, none_here}
use Rattle.fcl_check.proofs.check.walk.first_at.Goals as goal

pub returns-in-Some : goal.returns-in-Some
returns-in-Some g c = λ places says.
    found_here places c.args.items.now c.loop-item.item-index c.item-item.result c.place.result (search rules)
    (search rules)
    (says _ _ (says_at g.F.Fn c.place.ensures refl)) (c.loop-item.invariant places says) c.in-Some.at c.in-Some.is

pub loop-item-preserved : goal.loop-item-preserved
loop-item-preserved g c = λ places says.
    none_here places c.args.items.now c.loop-item.item-index c.item-item.result c.place.result (search rules)
    (search rules)
    (says _ _ (says_at g.F.Fn c.place.ensures refl)) (c.loop-item.invariant places says) c.in_default.is
