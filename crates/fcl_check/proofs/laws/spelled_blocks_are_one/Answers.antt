use Rattle.fcl_check.proofs.Words.{FunctionBlock, IsBlockOf, str_to_ascii_lowercase, subst}
use Rattle.fcl_check.proofs.laws.spelled_blocks_are_one.Goals as goal

pub returns : goal.returns
returns c = λ text p q of_p of_q.
    let letters = str_to_ascii_lowercase text in
    let same = (c.trees_are_one.ensures text).1 of_p.tree of_q.tree of_p.spelled of_q.spelled in
    c.blocks_are_one.ensures letters of_q.tree p q
    (subst (λ (b : FunctionBlock). IsBlockOf letters b p) same of_p.loaded) of_q.loaded
