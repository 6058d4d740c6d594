use Rattle.interrupt_plan.specs.Levels.{AreGoodLevels, LevelNotAfter, SpellsLevel, no_writes}
use Rattle.interrupt_plan.proofs.{PlanLemmas.good_text, LevelLemmas.good_levels}
use Rattle.interrupt_plan.proofs.levels.read_levels.Goals as goal

pub returns-clause-levels : goal.returns-clause-levels
returns-clause-levels c =
    good_text (SpellsLevel c.args.fast) no_writes LevelNotAfter (AreGoodLevels c.args.fast)
    (good_levels c.args.fast) c.args.text.now c.entries_of.result
    c.entries_of.ensures.entries
