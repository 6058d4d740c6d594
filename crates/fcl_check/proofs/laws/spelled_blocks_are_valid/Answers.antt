use Rattle.fcl_check.proofs.ValidBlocks.{spelled_blocks}
use Rattle.fcl_check.proofs.laws.spelled_blocks_are_valid.Goals as goal

pub returns : goal.returns
returns c = spelled_blocks c.offsets_ascend.ensures
