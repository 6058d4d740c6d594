-- Which text has which certificate, and the first fault of a text that has none.
-- Beside the promise.
use Rattle.std.specs.Prelude.{◌≡◌, ◌≢◌, ◌↔◌, ℕ, ◌+◌, ◌<◌, ◌≤◌, List, [], ◌++◌, length, All, Some}
use Rattle.box_tree.specs.declared.{cert.CertFormat.CertFormat, cert.CertKind.CertKind, cert.LeafLine.LeafLine}
use Rattle.box_tree.specs.declared.cert.CertKind.TheVariants.{Named, Tight}
use Rattle.box_tree.specs.declared.cert.LeafLine.TheVariants as stated
use Rattle.box_tree.specs.declared.{cert.Node.Node, cert.Cert.Cert, cert.CertFault.CertFault}
use Rattle.box_tree.specs.declared.cert.Node.TheVariants.{Split, Leaf}
use Rattle.box_tree.specs.declared.cert.CertFault.TheVariants.{BadLine, Early, Late, TooManyLeaves}
use Rattle.box_tree.specs.Texts.{version_line, claim_line, node_line, lines_of}
use Rattle.box_tree.specs.Trees.{open_behind, IsTree, leaf_count}

-- a claim for each of one to four outputs, in millionths
pub record AreClaims (claims : List ℕ) : Type 0 where
  pub some : 1 ≤ length claims
  pub few : length claims ≤ 4
  pub millionths : All (λ e. e ≤ 1000000) claims

-- a rule with a part of its truth, or neither
pub record IsPair (p : ℕ × ℕ) : Type 0 where
  pub rule : p.0 ≤ 256
  pub part : p.1 ≤ 255
  pub both : (p.0 ≡ 0) ↔ (p.1 ≡ 0)

-- a byte of one of eight inputs
pub record IsCut (input cut : ℕ) : Type 0 where
  pub some : 1 ≤ input
  pub few : input ≤ 8
  pub byte : cut ≤ 255

-- a leaf of a certificate of this kind with this many claims
abbrev pub IsLeaf : CertKind → ℕ → LeafLine → Type 0
IsLeaf Named width (stated.Pairs pairs) = (length pairs.items ≡ width) × All IsPair pairs.items
IsLeaf Tight width stated.Tight = Unit {0}
IsLeaf Tight width stated.Cells = Unit {0}
IsLeaf kind width leaf = ⊥

-- and a node
abbrev pub IsNode : CertKind → ℕ → Node → Type 0
IsNode kind width (Split input cut) = IsCut input cut
IsNode kind width (Leaf leaf) = IsLeaf kind width leaf

pub record IsCert (kind : CertKind) (cert : Cert) : Type 0 where
  pub claims : AreClaims cert.claims
  pub nodes : All (IsNode kind (length cert.claims)) cert.nodes
  pub tree : IsTree cert.nodes
  pub few_leaves : leaf_count cert.nodes ≤ 4096

-- the text is that of the certificate, in this format
pub record CertText (format : CertFormat) (text : List ℕ) (cert : Cert) : Type 0 where
  pub good : IsCert format.kind cert
  pub lines : text ≡ lines_of format cert.claims cert.nodes

-- the text begins with whole lines of claims and nodes, of which none is at fault, and leaves this many boxes open
pub record Begins (format : CertFormat) (text claims : List ℕ) (nodes : List Node) (open_boxes : ℕ)
    (rest : List ℕ) : Type 0 where
  pub lines : text ≡ lines_of format claims nodes ++ rest
  pub good_claims : AreClaims claims
  pub good_nodes : All (IsNode format.kind (length claims)) nodes
  pub left_open : open_behind nodes ≡ Some open_boxes
  pub few_leaves : leaf_count nodes ≤ 4096

-- there is more, but no line of claims, or of a node
abbrev pub HasNoClaims : List ℕ → Type 0
HasNoClaims rest = (rest ≢ []) × ((claims behind : List ℕ) → AreClaims claims → rest ≢ claim_line claims ++ behind)

abbrev pub HasNoNode : CertKind → ℕ → List ℕ → Type 0
HasNoNode kind width rest =
    (rest ≢ []) × ((node : Node) (behind : List ℕ) → IsNode kind width node → rest ≢ node_line node ++ behind)

-- the number of the line behind those of nodes
abbrev pub line_behind : List Node → ℕ
line_behind nodes = length nodes + 3

-- the first fault of a text that is to have a certificate of this format
pub data HasFault (format : CertFormat) (text : List ℕ) : CertFault → Type 0 where
  bad_version : text ≢ [] → ((rest : List ℕ) → text ≢ version_line format ++ rest)
      → HasFault format text (BadLine 1)
  no_version : text ≡ [] → HasFault format text Early
  bad_claims : (rest : List ℕ) → text ≡ version_line format ++ rest → HasNoClaims rest
      → HasFault format text (BadLine 2)
  no_claims : text ≡ version_line format → HasFault format text Early
  bad_node : (claims : List ℕ) (nodes : List Node) (n : ℕ) (rest : List ℕ)
      → Begins format text claims nodes n rest → HasNoNode format.kind (length claims) rest
      → HasFault format text (BadLine (line_behind nodes))
  left_open : (claims : List ℕ) (nodes : List Node) (n : ℕ) → Begins format text claims nodes n [] → 0 < n
      → HasFault format text Early
  late : (claims : List ℕ) (nodes : List Node) (node : Node) (behind : List ℕ)
      → Begins format text claims nodes 0 (node_line node ++ behind) → IsNode format.kind (length claims) node
      → HasFault format text (Late (line_behind nodes))
  many_leaves : (claims : List ℕ) (nodes : List Node) (n : ℕ) (leaf : LeafLine) (behind : List ℕ)
      → Begins format text claims nodes n (node_line (Leaf leaf) ++ behind)
      → IsNode format.kind (length claims) (Leaf leaf) → 0 < n → leaf_count nodes ≡ 4096
      → HasFault format text (TooManyLeaves (line_behind nodes))
