use Rattle.fcl_check.proofs.Words.{rules}
use Rattle.fcl_check.proofs.Faultless.{too_many_first}
use Rattle.fcl_check.proofs.check.kinds.too_many.Goals as goal

pub returns : goal.returns
returns c =
    let tree = c.args.names.now.tree.now in
    rw (too_many_first tree.text.items tree.block) (search rules)
