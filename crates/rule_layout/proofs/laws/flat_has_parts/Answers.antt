use Rattle.rule_layout.proofs.LaidOutLemmas.{flat_has_parts}
use Rattle.rule_layout.proofs.laws.flat_has_parts.Goals as goal

pub returns : goal.returns
returns c = flat_has_parts
