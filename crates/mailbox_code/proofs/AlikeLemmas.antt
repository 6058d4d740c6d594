-- A block has one firmware in the mailbox form.
use Rattle.mailbox_code.proofs.Words.{◌∙◌, ap, length, mailbox_bound, mailbox_items, mailbox_map, steps_by, subst, sym}
use Rattle.mailbox_code.proofs.Words.{Width}
use Rattle.firmware_code.specs.Images.{IsImageOf, ImagesAreOne}
use Rattle.mailbox_code.specs.Mailboxes.{MailboxesAreOne}
use Rattle.firmware_code.proofs.Algebra.{of_parts}

pub one_mailbox : ImagesAreOne → MailboxesAreOne
one_mailbox one b f g width of_f of_g =
    let l = mailbox_map (length b.inputs) in
    let image = one (mailbox_items l b g.width) f.image g.image
    (subst (λ (w : Width). IsImageOf (mailbox_items l b w) f.image) width of_f.image) of_g.image in
    of_parts f g image (of_f.memory_map ∙ sym of_g.memory_map) (of_f.inputs ∙ sym of_g.inputs)
    (of_f.outputs ∙ sym of_g.outputs) width
    (of_f.instructions ∙ ap (λ (w : Width). mailbox_bound w b) width ∙ sym of_g.instructions)
    (of_f.steps ∙ ap (λ (w : Width). steps_by b (mailbox_bound w b)) width ∙ sym of_g.steps)
