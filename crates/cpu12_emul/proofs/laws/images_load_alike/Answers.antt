use Rattle.cpu12_emul.proofs.Images.{loaded_same}
use Rattle.cpu12_emul.proofs.laws.images_load_alike.Goals as goal

pub returns : goal.returns
returns c = λ a b same. loaded_same a b same 65536
