use Rattle.run_reports.proofs.Algebra.{judged_files}
use Rattle.run_commands.proofs.laws.run_is_judged.Goals as goal

pub returns : goal.returns
returns c run files flags few = judged_files (c.run_is_settled.ensures run files) flags
    (c.run_files_are_judged.ensures run.format files few)
