use Rattle.cpu12_asm.proofs.Judged.{source_answers}
use Rattle.cpu12_asm.proofs.laws.each_source_is_judged.Goals as goal

pub returns : goal.returns
returns c = source_answers
