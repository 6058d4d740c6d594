use Rattle.fcl_tokens.proofs.CutTexts.{cuts_are_tokens_lem}
use Rattle.fcl_tokens.proofs.laws.cuts_are_tokens.Goals as goal

pub returns : goal.returns
returns c = cuts_are_tokens_lem
