-- What a reader of lines knows of the text.
use Rattle.std.proofs.Common.{◌≡◌, ◌≢◌, ◌≤◌, ◌<◌, ◌+◌, ℕ, List, [], ◌∷◌, ◌++◌, length, refl, sym, ◌∙◌, ap, subst}
use Rattle.std.proofs.Common.{arith, Some}
use Rattle.std.proofs.Common.{None, length-append}
use Rattle.std.specs.Prelude.{Result, Ok, Err, IfOk}
use Rattle.std.proofs.lemmas.List.{append-nil}
use Rattle.box_tree.specs.declared.{cert.CertFormat.CertFormat, cert.CertKind.CertKind, cert.LeafLine.LeafLine}
use Rattle.box_tree.specs.declared.{cert.Node.Node, cert.Node.TheVariants.Leaf, cert.Cert.Cert}
use Rattle.box_tree.specs.declared.{cert.CertFault.CertFault, lines.Lines.Lines}
use Rattle.box_tree.specs.declared.cert.CertFault.TheVariants.{BadLine, Early, Late, TooManyLeaves}
use Rattle.box_tree.specs.{Texts.node_line, Trees.leaf_count, Trees.open_from}
use Rattle.box_tree.specs.Certificates.{Begins, CertText, HasFault, IsNode, line_behind, bad_node, left_open, late}
use Rattle.box_tree.specs.Certificates.{many_leaves}
use Rattle.box_tree.specs.Reading.{HasRead, StandsBefore, claims_of, cert_of}
use Rattle.box_tree.proofs.TreeLemmas.{begins_more, leaf_count-append}

pub stands_before : (lines : Lines) (width : ℕ) (node : Node) (behind : List ℕ) → width ≡ length (claims_of lines)
    → IsNode lines.kind width node → lines.rest.now ≡ node_line node ++ behind
    → length behind < length lines.rest.now → lines.open_boxes ≢ 0
    → lines.leaves + leaf_count (node ∷ []) < 4097 → StandsBefore node behind lines
stands_before lines width node behind as_wide good line shorter some few = record {
  good = subst (λ (w : ℕ). IsNode lines.kind w node) as_wide good;
  line = line;
  shorter = shorter;
  box_open = omega arith;
  few_leaves = few;
}

module _ (format : CertFormat) (text : List ℕ) (nodes : List Node) (lines : Lines)
    (h : HasRead format text nodes lines) where
  begins_at : (rest : List ℕ) → lines.rest.now ≡ rest
      → Begins format text (claims_of lines) nodes lines.open_boxes rest
  begins_at rest is =
      subst (λ (r : List ℕ). Begins format text (claims_of lines) nodes lines.open_boxes r) is h.begins

  IsNode-read : (width : ℕ) (node : Node) → width ≡ length (claims_of lines) → IsNode lines.kind width node
      → IsNode format.kind (length (claims_of lines)) node
  IsNode-read width node as_wide good = subst (λ (k : CertKind). IsNode k (length (claims_of lines)) node) h.kind_is
      (subst (λ (w : ℕ). IsNode lines.kind w node) as_wide good)

  IsNode-asked : (width : ℕ) (node : Node) → width ≡ length (claims_of lines)
      → IsNode format.kind (length (claims_of lines)) node → IsNode lines.kind width node
  IsNode-asked width node as_wide good = subst (λ (w : ℕ). IsNode lines.kind w node) (sym as_wide)
      (subst (λ (k : CertKind). IsNode k (length (claims_of lines)) node) (sym h.kind_is) good)

  number : lines.read + 1 ≡ line_behind nodes
  number = omega (arith, h.count)

  pub is_cert : lines.rest.now ≡ [] → lines.open_boxes ≡ 0 → CertText format text (cert_of lines nodes)
  is_cert ended closed = record {
    good = record {
      claims = h.begins.good_claims;
      nodes = h.begins.good_nodes;
      tree =
          h.begins.left_open ∙ ap (λ (n : ℕ). Some n) closed;
      few_leaves = h.begins.few_leaves;
    };
    lines = (begins_at [] ended).lines ∙ append-nil _;
  }

  pub is_early : lines.rest.now ≡ [] → lines.open_boxes ≢ 0 → HasFault format text Early
  is_early ended some = left_open (claims_of lines) nodes lines.open_boxes (begins_at [] ended) (omega arith)

  pub is_bad : (width : ℕ) → width ≡ length (claims_of lines) → lines.rest.now ≢ []
      → ((node : Node) (behind : List ℕ) → IsNode lines.kind width node → lines.rest.now ≢ node_line node ++ behind)
      → HasFault format text (BadLine (lines.read + 1))
  is_bad width as_wide some none = subst (λ (n : ℕ). HasFault format text (BadLine n)) (sym number)
      (bad_node (claims_of lines) nodes lines.open_boxes lines.rest.now h.begins
      (some, λ node behind good. none node behind (IsNode-asked width node as_wide good)))

  pub is_late : (width : ℕ) → width ≡ length (claims_of lines) → (node : Node) (behind : List ℕ)
      → lines.rest.now ≡ node_line node ++ behind → IsNode lines.kind width node → lines.open_boxes ≡ 0
      → HasFault format text (Late (lines.read + 1))
  is_late width as_wide node behind line good closed =
      subst (λ (n : ℕ). HasFault format text (Late n)) (sym number)
      (late (claims_of lines) nodes node behind
      (subst (λ (n : ℕ). Begins format text (claims_of lines) nodes n (node_line node ++ behind)) closed
      (begins_at (node_line node ++ behind) line)) (IsNode-read width node as_wide good))

  pub has_many_leaves : (width : ℕ) → width ≡ length (claims_of lines)
      → (node : Node) (leaf : LeafLine) (behind : List ℕ) → lines.rest.now ≡ node_line node ++ behind
      → IsNode lines.kind width node → node ≡ Leaf leaf → lines.open_boxes ≢ 0 → lines.leaves ≡ 4096
      → HasFault format text (TooManyLeaves (lines.read + 1))
  has_many_leaves width as_wide node leaf behind line good is_leaf some full =
      subst (λ (n : ℕ). HasFault format text (TooManyLeaves n)) (sym number)
      (many_leaves (claims_of lines) nodes lines.open_boxes leaf behind
      (begins_at (node_line (Leaf leaf) ++ behind) (line ∙ ap (λ (n : Node). node_line n ++ behind) is_leaf))
      (subst (IsNode format.kind (length (claims_of lines))) is_leaf (IsNode-read width node as_wide good)) (omega arith)
      (sym h.leaves ∙ full))

-- the reader has read one node more
pub has_read_more : (format : CertFormat) (text : List ℕ) (nodes : List Node)
    (lines lines' : Lines) (node : Node) (behind : List ℕ) → HasRead format text nodes lines
    → StandsBefore node behind lines → lines'.kind ≡ lines.kind → lines'.claims ≡ lines.claims
    → lines'.rest.now ≡ behind → lines'.read ≡ lines.read + 1
    → open_from lines.open_boxes (node ∷ []) ≡ Some lines'.open_boxes
    → lines'.leaves ≡ lines.leaves + leaf_count (node ∷ []) → lines'.fault ≡ None
    → HasRead format text (nodes ++ node ∷ []) lines'
has_read_more format text nodes lines lines' node behind h stands same_kind claims rest read left
    leaves fault =
    let few : leaf_count nodes + leaf_count (node ∷ []) ≤ 4096 = omega (arith, h.leaves, stands.few_leaves) in
    let more = begins_more format text (claims_of lines) nodes lines.open_boxes lines'.open_boxes lines.rest.now
    behind node h.begins stands.line
    (IsNode-read format text nodes lines h (length (claims_of lines)) node refl stands.good) left few in
    record {
      kind_is = same_kind ∙ h.kind_is;
      begins = rw (claims, rest) more;
      count = omega (arith, read, h.count, length-append nodes (node ∷ []));
      leaves = omega (arith, leaves, h.leaves, leaf_count-append nodes (node ∷ []));
      no_fault = fault;
    }

pub same_cert : (format : CertFormat) (text : List ℕ) (cert : Cert)
    (claims : List ℕ) (nodes : List Node)
    → CertText format text (record { claims = claims; nodes = nodes }) → cert.claims ≡ claims → cert.nodes ≡ nodes
    → CertText format text cert
same_cert format text cert claims nodes spelled claims_are nodes_are =
    let parts : cert ≡ record { claims = claims; nodes = nodes } =
    ap (λ (cs : List ℕ). the_cert cs cert.nodes) claims_are
    ∙ ap (λ (ns : List Node). the_cert claims ns) nodes_are in
    subst (λ (c : Cert). CertText format text c) (sym parts) spelled
  where
    the_cert : List ℕ → List Node → Cert
    the_cert cs ns = record { claims = cs; nodes = ns }

pub made_cert : (format : CertFormat) (text copied claims : List ℕ)
    (nodes : List Node) (made : Result Cert CertFault)
    → CertText format text (record { claims = claims; nodes = nodes }) → copied ≡ claims
    → IfOk made (λ cert. (cert.claims ≡ copied) × (cert.nodes ≡ nodes)) → IfOk made (CertText format text)
made_cert format text copied claims nodes (Ok cert) spelled same is =
    same_cert format text cert claims nodes spelled (is.0 ∙ same) is.1
made_cert format text copied claims nodes (Err fault) spelled same is = tt
