use Rattle.eval_code.proofs.masses.BlockMasses.{rules_give_masses}
use Rattle.eval_code.proofs.laws.rules_give_masses.Goals as goal

pub returns : goal.returns
returns c = rules_give_masses c.layout_law.ensures c.mass_law.ensures
