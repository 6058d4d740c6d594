use Rattle.eval_code.proofs.phases.Law.{eval_answers}
use Rattle.eval_code.proofs.laws.eval_answers.Goals as goal

pub returns : goal.returns
returns c = eval_answers (record {
  layout_law = c.layout_law.ensures;
  nearest_is_byte = c.nearest_is_byte.ensures;
  stays_fit = c.stays_fit.ensures;
  goes_straight = c.plain_instructions_leave.ensures.straight;
  short = c.encoded_are_bytes.ensures.short;
  decodes = c.code_is_decoded.ensures.decoded;
  rules_give_masses = c.rules_give_masses.ensures;
})
