use Rattle.fcl_check.proofs.Words.{◌++◌, ◌≡◌, take}
use Rattle.fcl_check.proofs.Naming.{names_declared}
use Rattle.fcl_check.proofs.names.push_variables.Given as goal

abbrev pub invariant-loop-declaration : goal.invariant-loop-declaration
invariant-loop-declaration l = l.into.items ≡ l.fn.into.items ++ names_declared l.variables.direction
    (take l.declaration-index l.variables.declarations)
