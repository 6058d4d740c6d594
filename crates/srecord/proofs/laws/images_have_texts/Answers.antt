use Rattle.srecord.proofs.SomeText.{have_texts}
use Rattle.srecord.proofs.laws.images_have_texts.Goals as goal

pub returns : goal.returns
returns c = have_texts
