use Rattle.srecord.proofs.OneText.{texts_one}
use Rattle.srecord.proofs.laws.image_texts_are_one.Goals as goal

pub returns : goal.returns
returns c = texts_one
