use Rattle.fcl_check.proofs.Words.{take}
use Rattle.fcl_check.proofs.DeclaredNames.{KnowsSingletons}
use Rattle.fcl_check.proofs.names.defuzzy_terms.Given as goal

abbrev pub invariant-loop-line : goal.invariant-loop-line
invariant-loop-line l =
    KnowsSingletons l.tree.text.items l.tree.block (take l.line-index l.section.lines) l.terms l.others.items
