use Rattle.handler_check.proofs.Entering.{handlers_are_quiet}
use Rattle.handler_check.proofs.laws.handlers_are_quiet.Goals as goal

pub returns : goal.returns
returns c = handlers_are_quiet c.accepted_is_take.ensures c.takes_quietly.ensures
