use Rattle.fcl_check.proofs.build.block.rule.Goals as goal

pub returns : goal.returns
returns c = record {
  condition = c.in_ok-condition.ensures;
  weight = c.weight.ensures.same;
  conclusions = rw c.new.ensures c.in_ok-conclusions.ensures.same;
}
