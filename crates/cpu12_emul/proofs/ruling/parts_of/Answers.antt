use Rattle.std.proofs.Common.{◌∙◌, ◌+◌, arith}
use Rattle.cpu12_parts.specs.{Laws.state_of, State.State}
use Rattle.cpu12_emul.specs.Ruling.{Ruled}
use Rattle.cpu12_emul.proofs.RuleParts.{Ruled-part, Ruled-then}
use Rattle.cpu12_emul.proofs.ruling.parts_of.Goals as goal

pub loop-done-preserved : goal.loop-done-preserved
loop-done-preserved g c =
    let a = c.args in
    let l = c.loop-done in
    let rules = g.R.Ruling in
    let s : State = state_of a.regs a.temps (g.M.Mem.bytes a.m.now) in
    let t : State = state_of l.r a.temps (g.M.Mem.bytes l.m) in
    let u : State = state_of c.part.new.r a.temps (g.M.Mem.bytes c.part.new.m) in
    let on = c.goes_on.ensures c.if-goes_on.true in
    let ruled : Ruled rules.opcode a.flags s u (l.done + 1) =
    Ruled-then rules.opcode a.flags s t u l.done 1 c.requires.off l.invariant.ruled
    (Ruled-part (g.R.Resumable.kind a.k.now) rules.opcode rules.leaves_itself a.flags t u.regs u.mem c.rules.ensures on
    c.part.ensures.regs c.part.ensures.mem) in
    record { ruled = ruled; within = omega arith; tags = c.part.ensures.tags ∙ l.invariant.tags }
