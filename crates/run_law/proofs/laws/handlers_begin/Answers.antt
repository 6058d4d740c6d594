use Rattle.run_law.proofs.Takes.{handlers_begin}
use Rattle.run_law.proofs.laws.handlers_begin.Goals as goal

pub returns : goal.returns
returns c = handlers_begin c.machine_laws.ensures
