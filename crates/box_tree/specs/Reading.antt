-- A reader of lines, and how far it has come.
-- Beside the promise.
use Rattle.std.specs.Prelude.{◌≡◌, ℕ, ◌+◌, ◌<◌, List, [], ◌∷◌, ◌++◌, length, Some, None}
use Rattle.box_tree.specs.declared.{cert.CertFormat.CertFormat, cert.Node.Node}
use Rattle.box_tree.specs.declared.{cert.Cert.Cert, cert.CertFault.CertFault, lines.Lines.Lines}
use Rattle.box_tree.specs.{Trees.leaf_count, Certificates.Begins, Certificates.IsNode, Texts.node_line}

-- the claims that the reader read
abbrev pub claims_of : Lines → List ℕ
claims_of lines = lines.claims.items

-- how many bytes are not read yet
abbrev pub unread_len : Lines → ℕ
unread_len lines = length lines.rest.now

-- the certificate of these nodes under the claims that the reader read
abbrev pub cert_of : Lines → List Node → Cert
cert_of lines nodes = record { claims = claims_of lines; nodes = nodes }

-- the reader has read these nodes of the text, and has met no fault
pub record HasRead (format : CertFormat) (text : List ℕ) (nodes : List Node) (lines : Lines) : Type 0 where
  pub kind_is : lines.kind ≡ format.kind
  pub begins : Begins format text (claims_of lines) nodes lines.open_boxes lines.rest.now
  pub count : lines.read ≡ length nodes + 2
  pub leaves : lines.leaves ≡ leaf_count nodes
  pub no_fault : lines.fault ≡ None

-- the reader has met this fault, and tells it again
abbrev pub HasFailed : CertFault → Lines → Type 0
HasFailed fault lines = lines.fault ≡ Some fault

-- the next line is that of a node that may stand there, and this is behind it
pub record StandsBefore (node : Node) (behind : List ℕ) (lines : Lines) : Type 0 where
  pub good : IsNode lines.kind (length (claims_of lines)) node
  pub line : lines.rest.now ≡ node_line node ++ behind
  pub shorter : length behind < length lines.rest.now
  pub box_open : 0 < lines.open_boxes
  pub few_leaves : lines.leaves + leaf_count (node ∷ []) < 4097
