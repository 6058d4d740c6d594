use Rattle.command_parts.proofs.ReadingLemmas.{blocks_exact}
use Rattle.command_parts.proofs.laws.blocks_are_exact.Goals as goal

pub returns : goal.returns
returns c = blocks_exact c.first_faults_are_one.ensures c.load_faults_are_one.ensures c.spelled_blocks_are_one.ensures
    c.limits_have_no_fault.ensures
