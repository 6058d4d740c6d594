use Rattle.fcl_check.proofs.Words.{sym}
use Rattle.fcl_check.proofs.Faultless.{over_first}
use Rattle.fcl_check.proofs.check.kinds.declared_over_limit.Goals as goal

pub loop-direction-init : goal.loop-direction-init
loop-direction-init c = sym (over_first c.args.declared.now)
