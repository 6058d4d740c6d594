use Rattle.run_reports.proofs.Algebra.{judged_files}
use Rattle.form_commands.proofs.laws.lrun_is_judged.Goals as goal

pub returns : goal.returns
returns c run files flags slow fast = judged_files (c.lrun_is_settled.ensures run files) flags
    (c.two_level_files_are_judged.ensures run.kind files slow fast)
