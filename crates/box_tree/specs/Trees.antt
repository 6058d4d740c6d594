-- Nodes in prefix order, and the trees among them.
-- Beside the promise.
use Rattle.std.specs.Prelude.{◌≡◌, ℕ, zero, suc, ◌+◌, List, [], ◌∷◌, Option, Some, None}
use Rattle.box_tree.specs.declared.{cert.Node.Node, cert.Node.TheVariants.Split, cert.Node.TheVariants.Leaf}

-- how many boxes have no part yet behind nodes, of n that had none before them; a node takes the first of them,
-- and none may follow where there is none
abbrev pub open_from : ℕ → List Node → Option ℕ
open_from n [] = Some n
open_from zero (node ∷ nodes) = None
open_from (suc n) (Split input cut ∷ nodes) = open_from (suc (suc n)) nodes
open_from (suc n) (Leaf leaf ∷ nodes) = open_from n nodes

-- the same of one box
abbrev pub open_behind : List Node → Option ℕ
open_behind nodes = open_from 1 nodes

-- nodes are one tree
abbrev pub IsTree : List Node → Type 0
IsTree nodes = open_behind nodes ≡ Some 0

abbrev pub leaf_count : List Node → ℕ
leaf_count [] = 0
leaf_count (Split input cut ∷ nodes) = leaf_count nodes
leaf_count (Leaf leaf ∷ nodes) = leaf_count nodes + 1
