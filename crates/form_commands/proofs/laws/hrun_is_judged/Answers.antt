use Rattle.run_reports.proofs.Algebra.{judged_files}
use Rattle.form_commands.proofs.laws.hrun_is_judged.Goals as goal

pub returns : goal.returns
returns c run files flags few = judged_files (c.hrun_is_settled.ensures run files) flags
    (c.handled_files_are_judged.ensures run.kind files few)
