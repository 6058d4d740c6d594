use Rattle.cpu12_asm.proofs.Overlapping.{put-good, put-taken}
use Rattle.cpu12_asm.proofs.sources.put.Goals as goal

pub returns-in-Ok-clause-held : goal.returns-in-Ok-clause-held
returns-in-Ok-clause-held c = λ given h.
    let held = c.in-Ok.ensures.held given h in
    let behind = c.in-Ok.ensures.behind in (
      put-good (record { place = c.args.place; bytes = given }) c.args.far c.args.line.now c.in-Ok.behind behind.0
          behind.1 c.if-far.false held.once,
      held,
    )

pub returns-in-Err-Taken-clause-err : goal.returns-in-Err-Taken-clause-err
returns-in-Err-Taken-clause-err c = λ given h _.
    let taken = c.in-Err-Taken.ensures.taken (cc) in
    let byte = taken.1 given h in
    put-taken (record { place = c.args.place; bytes = given }) c.args.far c.args.line.now byte.0 taken.0 c.if-far.false
    byte.1 byte.2
