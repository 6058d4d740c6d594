use Rattle.fcl_tokens.proofs.Offsets.{tokens_in_scale_lem}
use Rattle.fcl_tokens.proofs.laws.tokens_in_scale.Goals as goal

pub returns : goal.returns
returns c = tokens_in_scale_lem
