use Rattle.fcl_check.proofs.DeclaredNames.{names_declared_more}
use Rattle.fcl_check.proofs.names.push_variables.Goals as goal

pub loop-declaration-preserved : goal.loop-declaration-preserved
loop-declaration-preserved c =
    names_declared_more c.args.variables.now.direction c.args.variables.now.declarations c.loop-declaration.declaration-index
    c.declaration-item.result
    c.args.into.now.items c.loop-declaration.into.items _ (rw c.as_slice-declaration-items.ensures at c.loop-declaration-test.true)
    (rw c.as_slice-declaration-items.ensures at c.declaration-item.is) c.loop-declaration.invariant
    c.in_ok-push_declaration.ensures
