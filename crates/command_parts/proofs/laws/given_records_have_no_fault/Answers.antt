use Rattle.command_parts.proofs.ImageLemmas.{records_apart}
use Rattle.command_parts.proofs.laws.given_records_have_no_fault.Goals as goal

pub returns : goal.returns
returns c = records_apart c.images_are_one.ensures.no_fault
