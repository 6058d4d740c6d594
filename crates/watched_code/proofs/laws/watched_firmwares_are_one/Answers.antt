use Rattle.watched_code.proofs.Words.{◌∙◌, sym, watched_items}
use Rattle.firmware_code.proofs.Algebra.{of_parts}
use Rattle.watched_code.proofs.laws.watched_firmwares_are_one.Goals as goal

pub returns : goal.returns
returns c b f g of_f of_g =
    let image = c.images_are_one.ensures (watched_items b) f.image g.image of_f.image of_g.image in
    of_parts f g image (of_f.memory_map ∙ sym of_g.memory_map) (of_f.inputs ∙ sym of_g.inputs)
    (of_f.outputs ∙ sym of_g.outputs) (of_f.width ∙ sym of_g.width) (of_f.instructions ∙ sym of_g.instructions)
    (of_f.steps ∙ sym of_g.steps)
