use Rattle.mailbox_code.proofs.Words.{[], ◌++◌, ◌+◌, ◌∙◌, ◌∷◌, ap, copy_code, Instr, List, MovbExtended, sym}
use Rattle.std.proofs.Common.{append_assoc, add-one}
use Rattle.mailbox_code.proofs.turns.Founding.{copy_more}
use Rattle.mailbox_code.proofs.mailbox.push_copies.Goals as goal

pub loop-at-preserved : goal.loop-at-preserved
loop-at-preserved c =
    let from = c.args.from in
    let to = c.args.to in
    let k = c.loop-at.at in
    let before = c.args.code.now.items in
    c.in_ok-push.ensures.items
    ∙ ap (λ (is : List Instr). is ++ MovbExtended (from + k) (to + k) ∷ []) c.loop-at.invariant
    ∙ append_assoc before (copy_code from to k) (MovbExtended (from + k) (to + k) ∷ [])
    ∙ ap (λ (is : List Instr). before ++ is) (sym (copy_more from to k) ∙ ap (copy_code from to) (sym (add-one k)))
