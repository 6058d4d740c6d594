use Rattle.workload.proofs.BlockLemmas.{drawn_within_limits}
use Rattle.workload.proofs.laws.drawn_blocks_are_within_limits.Goals as goal

pub returns : goal.returns
returns c = drawn_within_limits
