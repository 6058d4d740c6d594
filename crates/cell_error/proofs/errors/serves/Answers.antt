use Rattle.std.proofs.Common.{◌≡◌, ◌+◌, ◌*◌}
use Rattle.cell_error.proofs.{Withins.step, Withins.top, Withins.bottom, Covering.serves_iff}
use Rattle.cell_error.proofs.errors.serves.Goals as goal

pub returns : goal.returns
returns c =
    let a = c.args.answer in
    let e = c.args.error in
    let x = c.from-step.result * 1000000 in
    let y = (c.from-here.result * 1000000 + c.from.result * c.from-2.result) * c.from-width.result in
    let z = c.saturating_sub.result * c.from-width.result in
    let ex : x ≡ step a = cc in
    let ey : y ≡ top a e = cc in
    let ez : z ≡ bottom a e = cc in
    serves_iff a c.args.terms.now c.args.rest e x y z ex ey ez c.requires.terms c.are_all.result c.is_up-up.result
    c.is_down-down.result c.rest_serves-rests.result c.are_all.ensures.all c.are_all.ensures.only c.is_up-up.ensures
    c.is_down-down.ensures c.rest_serves-rests.ensures
