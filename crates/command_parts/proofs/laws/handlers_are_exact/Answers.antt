use Rattle.command_parts.proofs.ReadingLemmas.{handlers_exact}
use Rattle.command_parts.proofs.laws.handlers_are_exact.Goals as goal

pub returns : goal.returns
returns c = handlers_exact c.faults_are_one.ensures c.images_are_one.ensures.one c.given_records_have_no_fault.ensures
    c.handlers_have_no_fault.ensures c.answers_are_one.ensures.faults c.answers_are_one.ensures.counts
