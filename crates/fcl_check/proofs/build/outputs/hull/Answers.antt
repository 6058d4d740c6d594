use Rattle.fcl_check.proofs.Words.{◌∙◌, ap, ends_in, None, option_map, Some}
use Rattle.fcl_check.proofs.Ranges.{hull-found, hull-passed}
use Rattle.fcl_check.proofs.build.outputs.hull.Goals as goal
use Rattle.fcl_check.proofs.build.outputs.hull.Goals.{in-Some+in-Some-hull, in-Some+in-None, in_default}

pub loop-line-preserved : goal.loop-line-preserved
loop-line-preserved c =
    let lines = c.args.section.now.lines in
    let read = c.as_slice-line-items in
    elim c.match-number_line.branch [
      | in-Some+in-Some-hull w ↦ rw w.hull-is
          (ap Some w.with.ensures ∙ hull-found lines read.result.now c.loop-line.line-index _ read.ensures
          (rw read.ensures at c.loop-line-test.true) (Some (ends_in w.in-Some-hull.span)) w.in-Some.x.0
          (rw w.in-Some-hull.is at c.loop-line.invariant) (ap (option_map (λ n. n.0)) w.in-Some.ensures))
      | in-Some+in-None w ↦ rw w.hull-is
          (ap Some w.at.ensures ∙ hull-found lines read.result.now c.loop-line.line-index _ read.ensures
          (rw read.ensures at c.loop-line-test.true)
          None w.in-Some.x.0 (rw w.in-None.is at c.loop-line.invariant) (ap (option_map (λ n. n.0)) w.in-Some.ensures))
      | in_default w ↦ rw w.hull-is (hull-passed lines read.result.now c.loop-line.line-index _ read.ensures
          (rw read.ensures at c.loop-line-test.true)
          _ c.loop-line.invariant (ap (option_map (λ n. n.0)) w.in_default.ensures))
    ]
