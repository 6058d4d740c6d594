use Rattle.mailbox_runs.proofs.AllTurns.{runs_are_turns}
use Rattle.mailbox_runs.proofs.laws.runs_are_turns.Goals as goal

pub returns : goal.returns
returns c = runs_are_turns c.turn_laws.ensures
