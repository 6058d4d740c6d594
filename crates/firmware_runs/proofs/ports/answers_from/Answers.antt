use Rattle.std.proofs.Common.{◌∙◌, ◌++◌, ◌∷◌, [], ◌-◌, arith, ap, ap₂, List, ℕ}
use Rattle.cpu12_isa.specs.Memory.{plus}
use Rattle.firmware_runs.specs.Ports.{answers_at}
use Rattle.firmware_runs.proofs.PortBytes.{answer_more}
use Rattle.firmware_runs.proofs.ports.answers_from.Goals as goal

pub loop-left-preserved : goal.loop-left-preserved
loop-left-preserved g c =
    let mem = c.args.m.now.state.mem in
    let width = c.args.width in
    let l = c.loop-left in
    record {
      answers = ap₂ (λ (vs : List ℕ) (at : ℕ). vs ++ answers_at width (l.left - 1) at mem)
          (c.push.ensures.items ∙ ap (λ (v : ℕ). l.answers.items ++ v ∷ []) c.answer_at.ensures)
          (ap (λ (k : ℕ). plus l.at k) c.places-at.ensures.value)
          ∙ answer_more width mem l.at l.left l.answers.items (omega arith) ∙ l.invariant.answers;
      room = omega arith;
    }
