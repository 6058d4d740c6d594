use Rattle.cpu12_parts.specs.{Parts.revw, Rules.revw_operands}
use Rattle.cpu12_parts.proofs.OverCuts.{rules_make}
use Rattle.cpu12_parts.proofs.rules.RevwResumable.is_lawful.Goals as goal

pub returns-clause-whole : goal.returns-clause-whole
returns-clause-whole c = rules_make revw (λ s. revw_operands) c.revw_is_whole.ensures
