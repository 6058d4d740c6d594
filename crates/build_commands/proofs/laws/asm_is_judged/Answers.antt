use Rattle.build_commands.proofs.JudgedLemmas.{asm_judged}
use Rattle.build_commands.proofs.laws.asm_is_judged.Goals as goal

pub returns : goal.returns
returns c = asm_judged c.each_source_is_judged.ensures c.asm_is_settled.ensures
