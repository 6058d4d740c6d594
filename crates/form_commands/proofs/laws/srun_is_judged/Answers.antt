use Rattle.run_reports.proofs.Algebra.{judged_files}
use Rattle.form_commands.proofs.laws.srun_is_judged.Goals as goal

pub returns : goal.returns
returns c run files flags few = judged_files (c.srun_is_settled.ensures run files) flags
    (c.watched_files_are_judged.ensures run.kind files few)
