-- Certificates that are accepted.
-- Beside the promise.
use Rattle.std.specs.Prelude.{ℕ, [], ◌∷◌}
use Rattle.fuzzy_meaning.specs.Examples.{heater, latch}
use Rattle.box_tree.specs.declared.{cert.Cert.Cert, cert.LeafLine.TheVariants.Pairs, cert.Node.Node}
use Rattle.box_tree.specs.declared.cert.Node.TheVariants.{Split, Leaf}
use Rattle.cert_check.specs.Acceptance.{IsAccepted}

abbrev pub leaf_node : ℕ → ℕ → Node
leaf_node r k = Leaf (Pairs (record { items = (r, k) ∷ [] }))

-- a leaf for each term
abbrev pub heater_cert : Cert
heater_cert = record { claims = 19609 ∷ []; nodes = Split 1 128 ∷ leaf_node 1 127 ∷ leaf_node 2 127 ∷ [] }

-- with a silent leaf between two strong ones
abbrev pub latch_cert : Cert
latch_cert = record {
  claims = 3922 ∷ [];
  nodes = Split 1 64 ∷ leaf_node 1 255 ∷ Split 1 192 ∷ leaf_node 0 0 ∷ leaf_node 2 255 ∷ [];
}

abbrev pub ExamplesAreAccepted : Type 0
ExamplesAreAccepted =
    IsAccepted heater 1 heater_cert (19609 ∷ []) × IsAccepted heater 256 heater_cert (15702 ∷ [])
    × IsAccepted latch 1 latch_cert (3922 ∷ [])
