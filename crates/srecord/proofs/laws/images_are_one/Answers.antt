use Rattle.srecord.proofs.LawLemmas.{images_have_no_fault, same_image}
use Rattle.srecord.proofs.laws.images_are_one.Goals as goal

pub returns-clause-one : goal.returns-clause-one
returns-clause-one c = same_image

pub returns-clause-no_fault : goal.returns-clause-no_fault
returns-clause-no_fault c = images_have_no_fault
