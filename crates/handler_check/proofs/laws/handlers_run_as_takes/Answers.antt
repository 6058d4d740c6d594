use Rattle.handler_check.proofs.Entering.{handlers_run_as_takes}
use Rattle.handler_check.proofs.laws.handlers_run_as_takes.Goals as goal

pub returns : goal.returns
returns c = handlers_run_as_takes c.accepted_is_take.ensures c.wav_suspends.ensures.running c.wav_suspends.ensures.none
