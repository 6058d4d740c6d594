use Rattle.fcl_tokens.proofs.Offsets.{tokens_ascend_lem}
use Rattle.fcl_tokens.proofs.laws.tokens_ascend.Goals as goal

pub returns : goal.returns
returns c = tokens_ascend_lem
