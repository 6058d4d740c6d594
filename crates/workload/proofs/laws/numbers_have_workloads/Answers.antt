use Rattle.workload.proofs.SomeLemmas.{have_workloads}
use Rattle.workload.proofs.laws.numbers_have_workloads.Goals as goal

pub returns : goal.returns
returns c = have_workloads c.drawn_texts_spell_blocks.ensures
