use Rattle.rule_layout.proofs.MassLemmas.{mass_law_lem}
use Rattle.rule_layout.proofs.laws.mass_law.Goals as goal

pub returns : goal.returns
returns c = mass_law_lem
