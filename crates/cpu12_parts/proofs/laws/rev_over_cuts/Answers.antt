use Rattle.cpu12_parts.specs.{Parts.rev, Rules.rev_operands}
use Rattle.cpu12_parts.proofs.OverCuts.{rules_over_cuts}
use Rattle.cpu12_parts.proofs.laws.rev_over_cuts.Goals as goal

pub returns : goal.returns
returns c = rules_over_cuts rev (λ s. rev_operands s.regs.y) c.rev_cuts.ensures c.rev_is_whole.ensures
