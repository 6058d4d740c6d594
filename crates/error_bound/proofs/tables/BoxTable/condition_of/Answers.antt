use Rattle.error_bound.proofs.TableLemmas.{reaches_alike_itself}
use Rattle.error_bound.proofs.tables.BoxTable.condition_of.Goals as goal

pub returns-in-None : goal.returns-in-None
returns-in-None c = reaches_alike_itself c.args.self.now.table.now.block.now c.args.rule.now.cond
