use Rattle.fcl_syntax.proofs.Theorem.{trees_are_one_lem}
use Rattle.fcl_syntax.proofs.laws.trees_are_one.Goals as goal

pub returns : goal.returns
returns c = trees_are_one_lem c.cuts_are_tokens.ensures
