use Rattle.handler_check.proofs.JudgedImages.{images_judged}
use Rattle.handler_check.proofs.laws.each_image_is_judged.Goals as goal

pub returns : goal.returns
returns c = images_judged c.decodes_encoded.ensures
