use Rattle.fcl_check.proofs.Words.{◌≡◌, at_letters, count_of, Direction, first, length, List, names_of, None}
use Rattle.fcl_check.proofs.Words.{repeated, same_declared, take, variable_in, ℕ}
use Rattle.fcl_check.proofs.names.variables.Given as goal

abbrev pub invariant-loop-direction : goal.invariant-loop-direction
invariant-loop-direction l = record {
  variables : (ls : List ℕ)
      → at_letters l.variables ls ≡ variable_in l.tree.text.items (take l.direction-index l.declared) ls;
  counts : (d : Direction) → count_of d l.counts ≡ length (names_of d (take l.direction-index l.declared));
  once : first (repeated (same_declared l.tree.text.items l.tree.block) (λ d. d.1.at)
      (take l.direction-index l.declared)) ≡ None;
}
