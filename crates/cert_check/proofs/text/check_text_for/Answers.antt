use Rattle.cert_check.specs.TextFaults.{of_text}
use Rattle.cert_check.proofs.text.check_text_for.Goals as goal

pub returns-in-Err-clause-refused : goal.returns-in-Err-clause-refused
returns-in-Err-clause-refused c = λ real. of_text c.in-Err.fault c.in-Err.ensures.fault
