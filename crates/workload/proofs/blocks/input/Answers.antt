use Rattle.std.proofs.Common.{◌++◌, [], ◌∷◌, ◌∙◌, sym}
use Rattle.workload.specs.Blocks.{term_number}
use Rattle.workload.proofs.ListLemmas.{made_more}
use Rattle.workload.proofs.blocks.input.Goals as goal

pub loop-j-preserved : goal.loop-j-preserved
loop-j-preserved c =
    c.in_ok-push.ensures.items ∙ (λ i. c.loop-j.invariant i ++ (c.term.ensures i ∷ []))
    ∙ sym (made_more term_number c.loop-j.j)
