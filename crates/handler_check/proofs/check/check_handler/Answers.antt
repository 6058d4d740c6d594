use Rattle.handler_check.proofs.Checked.{takes_by}
use Rattle.handler_check.proofs.check.check_handler.Goals as goal

pub returns-in-Ok-clause-takes : goal.returns-in-Ok-clause-takes
returns-in-Ok-clause-takes c =
    takes_by c.handlers_run_as_takes.ensures c.args.image.now.bytes c.check_in.result c.check_in.ensures.accepted
