use Rattle.fcl_syntax.proofs.Offsets.{numbers_in_scale_lem}
use Rattle.fcl_syntax.proofs.laws.numbers_in_scale.Goals as goal

pub returns : goal.returns
returns c = numbers_in_scale_lem c.tokens_in_scale.ensures
