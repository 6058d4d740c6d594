use Rattle.fcl_syntax.proofs.Offsets.{offsets_ascend_lem}
use Rattle.fcl_syntax.proofs.laws.offsets_ascend.Goals as goal

pub returns : goal.returns
returns c = offsets_ascend_lem c.tokens_ascend.ensures
