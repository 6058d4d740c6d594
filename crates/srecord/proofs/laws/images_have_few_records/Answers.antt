use Rattle.srecord.proofs.WrittenLemmas.{few_records}
use Rattle.srecord.proofs.laws.images_have_few_records.Goals as goal

pub returns : goal.returns
returns c = few_records
