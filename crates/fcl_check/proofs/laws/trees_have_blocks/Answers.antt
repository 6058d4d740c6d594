use Rattle.fcl_check.proofs.JudgedTexts.{found_block}
use Rattle.fcl_check.proofs.laws.trees_have_blocks.Goals as goal

pub returns : goal.returns
returns c = found_block
