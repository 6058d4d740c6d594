use Rattle.handler_check.proofs.Shortness.{handlers_are_short}
use Rattle.handler_check.proofs.laws.handlers_are_short.Goals as goal

pub returns : goal.returns
returns c = handlers_are_short
