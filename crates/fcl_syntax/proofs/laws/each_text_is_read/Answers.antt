use Rattle.fcl_syntax.proofs.KeptBlocks.{each_text_is_read_lem}
use Rattle.fcl_syntax.proofs.laws.each_text_is_read.Goals as goal

pub returns : goal.returns
returns c = each_text_is_read_lem c.cuts_are_tokens.ensures
