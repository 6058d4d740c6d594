use Rattle.cpu12_parts.specs.{Parts.rev, Rules.rev_operands}
use Rattle.cpu12_parts.proofs.OverCuts.{rules_make}
use Rattle.cpu12_parts.proofs.rules.RevResumable.is_lawful.Goals as goal

pub returns-clause-whole : goal.returns-clause-whole
returns-clause-whole c = rules_make rev (λ s. rev_operands s.regs.y) c.rev_is_whole.ensures
