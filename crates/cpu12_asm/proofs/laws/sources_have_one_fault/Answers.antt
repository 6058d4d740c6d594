use Rattle.std.proofs.Common.{◌∙◌, sym}
use Rattle.cpu12_asm.proofs.laws.sources_have_one_fault.Goals as goal

pub returns : goal.returns
returns c = λ source fault is. (λ other too. cc, λ g gives. (let bad = sym is ∙ gives in cc))
