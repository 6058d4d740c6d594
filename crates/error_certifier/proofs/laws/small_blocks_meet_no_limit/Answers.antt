use Rattle.error_certifier.proofs.SmallBlocks.{no_limit}
use Rattle.error_certifier.proofs.laws.small_blocks_meet_no_limit.Goals as goal

pub returns : goal.returns
returns c = no_limit c.cuts_have_halves.ensures
