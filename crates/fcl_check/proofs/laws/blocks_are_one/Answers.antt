use Rattle.fcl_check.proofs.JudgedTexts.{one_block}
use Rattle.fcl_check.proofs.laws.blocks_are_one.Goals as goal

pub returns : goal.returns
returns c = one_block
