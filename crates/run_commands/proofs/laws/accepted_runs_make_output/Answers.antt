use Rattle.run_commands.proofs.AnswerLemmas.{accepted_made}
use Rattle.run_commands.proofs.laws.accepted_runs_make_output.Goals as goal

pub returns : goal.returns
returns c = accepted_made c.answers_are_reported.ensures c.answers_under_plans.ensures
