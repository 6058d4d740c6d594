use Rattle.fcl_check.proofs.Words.{◌≡◌, filter_map, map, singleton_of, take, value}
use Rattle.fcl_check.proofs.build.outputs.singletons.Given as goal

abbrev pub invariant-loop-line : goal.invariant-loop-line
invariant-loop-line l = map (λ d. d.0) l.singletons.items ≡ map (λ t. value t.value)
    (filter_map singleton_of (take l.line-index l.section.lines))
