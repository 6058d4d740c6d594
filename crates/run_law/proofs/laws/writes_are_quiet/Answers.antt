use Rattle.run_law.proofs.Handlers.{writes_are_quiet}
use Rattle.run_law.proofs.laws.writes_are_quiet.Goals as goal

pub returns : goal.returns
returns c = writes_are_quiet c.takes_quietly.ensures
