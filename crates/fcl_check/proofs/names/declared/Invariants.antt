use Rattle.fcl_check.proofs.Words.{◌≡◌, declared_by, flat_map, take}
use Rattle.fcl_check.proofs.names.declared.Given as goal

abbrev pub invariant-loop-section : goal.invariant-loop-section
invariant-loop-section l = l.names.items ≡ flat_map declared_by (take l.section-index l.variables)
