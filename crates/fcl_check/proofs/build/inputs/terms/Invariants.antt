use Rattle.fcl_check.proofs.Words.{AllZip, filter_map, IsTermOf, take, term_of}
use Rattle.fcl_check.proofs.build.inputs.terms.Given as goal

abbrev pub invariant-loop-line : goal.invariant-loop-line
invariant-loop-line l = AllZip IsTermOf (filter_map term_of (take l.line-index l.section.lines)) l.terms.items
