use Rattle.run_commands.proofs.JudgedLemmas.{debug_judged}
use Rattle.run_reports.proofs.Algebra.{judged_files}
use Rattle.run_commands.proofs.laws.debug_is_judged.Goals as goal

pub returns : goal.returns
returns c debug files flags few = judged_files (c.debug_is_settled.ensures debug files) flags
    (debug_judged c.firmwares_are_judged.ensures c.images_are_judged.ensures c.traces_are_judged.ensures
    c.plans_are_judged.ensures files few)
