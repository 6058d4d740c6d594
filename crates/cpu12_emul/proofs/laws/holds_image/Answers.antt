use Rattle.cpu12_emul.proofs.Images.{holds_image}
use Rattle.cpu12_emul.proofs.laws.holds_image.Goals as goal

pub returns : goal.returns
returns c = holds_image
