use Rattle.cpu12_parts.specs.{Parts.revw, Rules.revw_operands}
use Rattle.cpu12_parts.proofs.OverCuts.{rules_over_cuts}
use Rattle.cpu12_parts.proofs.laws.revw_over_cuts.Goals as goal

pub returns : goal.returns
returns c = rules_over_cuts revw (λ s. revw_operands) c.revw_cuts.ensures c.revw_is_whole.ensures
