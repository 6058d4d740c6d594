use Rattle.handler_check.proofs.Good.{accepted_is_take}
use Rattle.handler_check.proofs.laws.accepted_is_take.Goals as goal

pub returns : goal.returns
returns c = accepted_is_take (record {
  decodes = c.decodes_encoded.ensures;
  writes_agree = c.writes_agree.ensures;
  plain_is_step = c.plain_is_step.ensures;
  leaves = c.plain_instructions_leave.ensures.tables;
  takes_quietly = c.takes_quietly.ensures;
})
