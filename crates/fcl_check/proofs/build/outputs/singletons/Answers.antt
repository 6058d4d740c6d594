use Rattle.fcl_check.proofs.Ranges.{no-singleton, singletons-more, singletons-passed}
use Rattle.fcl_check.proofs.build.outputs.singletons.Goals as goal
use Rattle.fcl_check.proofs.build.outputs.singletons.Goals.{in-Singleton+in_ok-push, in_default}

pub loop-line-preserved : goal.loop-line-preserved
loop-line-preserved c =
    let lines = c.args.section.now.lines in
    let read = c.as_slice-line-items in
    elim c.match-line.branch [
      | in-Singleton+in_ok-push w ↦ rw (w.singletons-is, w.in_ok-push.ensures.items)
          (singletons-more lines read.result.now c.loop-line.line-index _ read.ensures
          (rw read.ensures at c.loop-line-test.true)
          c.loop-line.singletons.items w.value.result w.in-Singleton.singleton w.in-Singleton.is
          w.value.ensures c.loop-line.invariant)
      | in_default w ↦ rw w.singletons-is
          (singletons-passed lines read.result.now c.loop-line.line-index _ read.ensures
          (rw read.ensures at c.loop-line-test.true)
          c.loop-line.singletons.items
          (no-singleton _ w.in_default.not-Singleton) c.loop-line.invariant)
    ]
