-- What is asked of a condition's parts.
use Rattle.rule_layout.proofs.Words.{◌<◌, ◌≡◌, ◌≤◌, ◌⊎◌, AllFitGrid, And, arith, Condition, conditions, FitsGrid}
use Rattle.rule_layout.proofs.Words.{get_or, Global, IsInGrid, length, List, Node, nodes, Or, refl, Some, total_nodes}
use Rattle.rule_layout.proofs.Words.{tree, Vec, ℕ}
use Rattle.std.proofs.{Common.slice_get}
use Rattle.std.proofs.lemmas.Option.{slice_get_read}
use Rattle.fuzzy_meaning.proofs.Algebra.{parts_nodes, part_nodes, HasLiterals-part, AllHaveLiterals-parts}

-- of one of them
module _ (cs : List Condition) (i : ℕ) (p : Condition) (lt : i < length cs) (same : p ≡ get_or cs i p) where
  read : slice_get cs i ≡ Some p
  read = slice_get_read cs (length cs) i p refl lt same

  pub part_fits : AllFitGrid (conditions cs) → FitsGrid p
  part_fits h = HasLiterals-part IsInGrid cs i p h read

  pub part_nodes_le : nodes p ≤ total_nodes (conditions cs)
  part_nodes_le = part_nodes cs i p read

-- of all, whichever sort they are parts of
module _ {n : Node} {c : Condition} (seen : tree n ≡ c) {v : Vec Condition Global} (sort : (n ≡ And v) ⊎ (n ≡ Or v))
    {cs : List Condition} (same : cs ≡ v.items) where
  pub parts_fit : FitsGrid c → AllFitGrid (conditions cs)
  parts_fit h = rw same (AllHaveLiterals-parts seen sort IsInGrid h)

  pub all_nodes_lt : total_nodes (conditions cs) < nodes c
  all_nodes_lt = rw same (omega (arith, parts_nodes seen sort))

  -- what is asked to count them, where it is asked of their condition
  pub parts_asked : FitsGrid c → nodes c ≤ 1048576
      → AllFitGrid (conditions cs) × (total_nodes (conditions cs) ≤ 1048576)
  parts_asked fits few = (parts_fit fits, omega (arith, all_nodes_lt, few))
