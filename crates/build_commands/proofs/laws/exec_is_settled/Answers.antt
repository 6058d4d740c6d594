use Rattle.build_commands.proofs.SettledLemmas.{exec_settled}
use Rattle.build_commands.proofs.laws.exec_is_settled.Goals as goal

pub returns : goal.returns
returns c = exec_settled c.faults_are_one.ensures c.given_records_have_no_fault.ensures c.images_are_one.ensures.one
    c.images_load_alike.ensures c.runs_end_once.ensures
