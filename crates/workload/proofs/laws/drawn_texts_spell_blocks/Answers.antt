use Rattle.workload.proofs.FclLemmas.{drawn_texts}
use Rattle.workload.proofs.laws.drawn_texts_spell_blocks.Goals as goal

pub returns : goal.returns
returns c = drawn_texts c.cuts_are_tokens.ensures c.spelled_blocks_are_valid.ensures
