use Rattle.fcl_check.proofs.Words.{AllZip, filter_map, IsVariableNamed, take}
use Rattle.fcl_check.proofs.Naming.{named_as}
use Rattle.fcl_check.proofs.build.variables.variables.Given as goal

abbrev pub invariant-loop-direction : goal.invariant-loop-direction
invariant-loop-direction g l =
    let names = l.source.names.now in
    let tree = names.tree.now in
    AllZip (IsVariableNamed g.V.FromSection.as_section g.V.FromSection.IsOf tree.text.items tree.block)
    (filter_map (named_as g.V.FromSection.SIDE) (take l.direction-index names.declared.items)) l.variables.items
