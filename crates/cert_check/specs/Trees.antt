-- Trees of boxes in prefix order.
-- Beside the promise.
use Rattle.std.specs.Prelude.{ℕ, zero, suc, ◌+◌, ◌-◌, ◌<◌, ◌≤◌, List, [], ◌∷◌, ◌++◌, map, Bool, true, false, nat_le}
use Rattle.std.specs.Prelude.{◌&&◌, if◌then◌else◌}
use Rattle.fuzzy_meaning.specs.declared.block.Block.{Block}
use Rattle.error_bound.specs.declared.boxes.Interval.{Interval}
use Rattle.box_tree.specs.declared.{cert.LeafLine.LeafLine, cert.Node.Node}
use Rattle.box_tree.specs.declared.cert.Node.TheVariants.{Split, Leaf}

-- each byte lies in its interval
abbrev pub lies : List ℕ → List Interval → Bool
lies [] [] = true
lies (n ∷ ns) (v ∷ vs) = nat_le v.from n && (nat_le n v.to && lies ns vs)
lies ns vs = false

-- all bytes of all inputs
abbrev pub whole : Block → List Interval
whole b = map (λ _. record { from = 0; to = 255 }) b.inputs

-- the box whose interval at place k keeps the bytes below c, or those from c on
abbrev pub left_of : ℕ → ℕ → List Interval → List Interval
left_of k c [] = []
left_of zero c (v ∷ vs) = record { from = v.from; to = c - 1 } ∷ vs
left_of (suc k) c (v ∷ vs) = v ∷ left_of k c vs

abbrev pub right_of : ℕ → ℕ → List Interval → List Interval
right_of k c [] = []
right_of zero c (v ∷ vs) = record { from = c; to = v.to } ∷ vs
right_of (suc k) c (v ∷ vs) = v ∷ right_of k c vs

-- c is above the low byte of the interval at place k, and at most its high byte
abbrev pub IsCut : ℕ → ℕ → List Interval → Type 0
IsCut k c [] = ⊥
IsCut zero c (v ∷ vs) = (v.from < c) × (c ≤ v.to)
IsCut (suc k) c (v ∷ vs) = IsCut k c vs

-- a leaf: its box, and what its line says
pub record Part : Type 0 where
  pub box : List Interval
  pub stated : LeafLine

abbrev pub part_of : List Interval → LeafLine → Part
part_of box stated = record { box = box; stated = stated }

-- nodes begin with a tree over the box that has these leaves, from the left; the rest follows it. Inputs count from 1
pub data IsTree : List Interval → List Node → List Part → List Node → Type 0 where
  leaf : (box : List Interval) (stated : LeafLine) (rest : List Node)
      → IsTree box (Leaf stated ∷ rest) (record { box = box; stated = stated } ∷ []) rest
  split : (box : List Interval) (i c : ℕ) (nodes mid rest : List Node) (left right : List Part) → 1 ≤ i
      → IsCut (i - 1) c box → IsTree (left_of (i - 1) c box) nodes left mid
      → IsTree (right_of (i - 1) c box) mid right rest → IsTree box (Split i c ∷ nodes) (left ++ right) rest

-- how many leaves the bytes lie in
abbrev pub leaves_with : List ℕ → List Part → ℕ
leaves_with bytes [] = 0
leaves_with bytes (p ∷ ps) = (if lies bytes p.box then 1 else 0) + leaves_with bytes ps
