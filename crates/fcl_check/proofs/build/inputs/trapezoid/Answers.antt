use Rattle.fcl_check.proofs.Words.{[], ◌∷◌, ◌≡◌, refl, take, take_all}
use Rattle.fcl_check.proofs.{CourseSteps.AreCornersOf-more, Faultless.top_there}
use Rattle.fcl_check.proofs.build.inputs.trapezoid.Goals as goal

pub loop-point-init : goal.loop-point-init
loop-point-init c = c.with-corners.ensures [] (record { a = refl; b = refl; c = refl; d = refl })

pub loop-point-preserved : goal.loop-point-preserved
loop-point-preserved c =
    let points = c.args.term.now.more in
    AreCornersOf-more c.args.term.now.first points c.as_slice-point-items.result.now c.loop-point.point-index _ _
    c.as_slice-point-items.ensures (rw c.as_slice-point-items.ensures at c.loop-point-test.true)
    (c.with-corners-in-loop-point.ensures (c.args.term.now.first ∷ take c.loop-point.point-index points)
    c.loop-point.invariant)

pub unwrap-requires : goal.unwrap-requires
unwrap-requires c =
    let points = c.args.term.now.more in
    let whole : take c.loop-point.point-index points ≡ points =
    take_all c.loop-point.point-index points (rw c.as_slice-point-items.ensures at c.loop-point-test.false) in
    top_there (c.args.term.now.first ∷ points) c.loop-point.corners (rw whole at c.loop-point.invariant) c.requires
