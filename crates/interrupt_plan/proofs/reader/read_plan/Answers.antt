use Rattle.interrupt_plan.specs.Plans.{SpellsRequest, writes_by, IsGood, NotAfter}
use Rattle.interrupt_plan.proofs.PlanLemmas.{good_plan, good_text}
use Rattle.interrupt_plan.proofs.reader.read_plan.Goals as goal

pub returns-clause-plan : goal.returns-clause-plan
returns-clause-plan c =
    good_text SpellsRequest writes_by NotAfter IsGood good_plan c.args.text.now c.entries_of.result
    c.entries_of.ensures.entries
