use Rattle.handler_check.proofs.OneAnswer.{handlers_have_no_fault}
use Rattle.handler_check.proofs.laws.handlers_have_no_fault.Goals as goal

pub returns : goal.returns
returns c = handlers_have_no_fault c.decodes_encoded.ensures c.holds_image.ensures
