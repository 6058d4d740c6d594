-- The step of the instruction that is decoded.
use Rattle.std.proofs.Common.{◌≡◌, rules, Ok, subst}
use Rattle.cpu12_isa.specs.Code.{decode_at}
use Rattle.cpu12_emul.specs.Step.{Whole}
use Rattle.cpu12_emul.proofs.Stepping.{next_of-decoded}
use Rattle.cpu12_emul.proofs.machine.Machine.decoded_step.Goals as goal

pub returns-in-Ok-clause-next : goal.returns-in-Ok-clause-next
returns-in-Ok-clause-next g c =
    let s = c.args.self.now.state in
    let found : decode_at s.mem s.regs.pc ≡ Ok c.in-Ok.i =
    subst (λ (w : Whole). decode_at w.state.mem w.state.regs.pc ≡ Ok c.in-Ok.i) c.self.view_is
    c.in-Ok.ensures.found in
    next_of-decoded c.args.self.now.flags s c.in-Ok.i _ (search rules) found c.instruction.ensures.next
