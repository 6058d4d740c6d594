use Rattle.cpu12_emul.proofs.RuleParts.{PartsTo-viewed}
use Rattle.cpu12_emul.proofs.machine.Machine.rule_parts.Goals as goal

pub returns-then-is_rev-clause-steps : goal.returns-then-is_rev-clause-steps
returns-then-is_rev-clause-steps g c = PartsTo-viewed _ _ _ _ c.self.view_is c.parts_of-done.ensures.parts.parts

pub returns-then-is_revw-clause-steps : goal.returns-then-is_revw-clause-steps
returns-then-is_revw-clause-steps g c =
    PartsTo-viewed _ _ _ _ c.self.view_is c.parts_of-done-then-is_revw.ensures.parts.parts
