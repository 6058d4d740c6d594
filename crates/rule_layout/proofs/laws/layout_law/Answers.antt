use Rattle.rule_layout.proofs.LaidOutLemmas.{layout_law_lem}
use Rattle.rule_layout.proofs.laws.layout_law.Goals as goal

pub returns : goal.returns
returns c = layout_law_lem
