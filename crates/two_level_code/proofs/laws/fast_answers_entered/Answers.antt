use Rattle.two_level_code.proofs.Entering.{fast_answers_entered}
use Rattle.two_level_code.proofs.laws.fast_answers_entered.Goals as goal

pub returns : goal.returns
returns c = fast_answers_entered (record {
  code = record {
    rises = c.blocks_are_placed.ensures.rises;
    stands = c.blocks_are_placed.ensures.stands;
    decodes = c.decodes_encoded.ensures;
  };
  eval_answers = c.eval_answers.ensures;
  frames_leave = c.frames_leave.ensures;
  stays_fit = c.stays_fit.ensures;
})
