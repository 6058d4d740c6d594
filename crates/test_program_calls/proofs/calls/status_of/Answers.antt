use Rattle.test_program_calls.proofs.CallLemmas.{called}
use Rattle.test_program_calls.proofs.calls.status_of.Goals as goal

pub returns : goal.returns
returns c =
    called _ _ _ _ _ _ _ _ _ c.requires.out c.requires.err c.code.ensures c.fuzz12.ensures.runs c.fuzz12.ensures.quiet
    c.fuzz12.ensures.line
