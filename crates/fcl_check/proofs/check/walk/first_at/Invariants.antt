use Rattle.fcl_check.proofs.Words.{◌≡◌, drop, first, flat_map, FnReturnsAt, List, Option, ℕ}
use Rattle.fcl_check.proofs.check.walk.first_at.Given as goal

abbrev pub invariant-loop-item : goal.invariant-loop-item
invariant-loop-item g l =
    (places : g.row.T.Denot → List ℕ)
    → ((x : g.row.T.Denot) (at : Option ℕ) → FnReturnsAt g.F.Fn l.place x at → at ≡ first (places x))
    → first (flat_map places (drop l.item-index l.items)) ≡ first (flat_map places l.items)
