use Rattle.fcl_check.proofs.JudgedTexts.{judged_texts}
use Rattle.fcl_check.proofs.laws.each_text_is_judged.Goals as goal

pub returns : goal.returns
returns c = judged_texts c.each_text_is_read.ensures c.spelled_blocks_are_valid.ensures
    c.trees_have_blocks.ensures
