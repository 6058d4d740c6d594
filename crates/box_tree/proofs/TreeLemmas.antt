-- One node more.
use Rattle.std.proofs.Common.{◌≡◌, ◌≤◌, ◌<◌, ◌+◌, ◌-◌, ℕ, zero, suc, List, [], ◌∷◌, ◌++◌, length, sym, ◌∙◌, ap, arith}
use Rattle.std.proofs.Common.{append_assoc, Some, None, take, get_or, add-one}
use Rattle.std.proofs.Math.Seq.{take-suc}
use Rattle.std.proofs.lemmas.List.{append-nil}
use Rattle.std.proofs.lemmas.List.Elements.{All-append, All-cons, All-nil}
use Rattle.box_tree.specs.declared.{cert.CertFormat.CertFormat, cert.LeafLine.LeafLine}
use Rattle.box_tree.specs.declared.{cert.Node.Node, cert.Node.TheVariants.Split, cert.Node.TheVariants.Leaf}
use Rattle.box_tree.specs.Texts.{claim_line, lines_of, node_line, node_lines, version_line}
use Rattle.box_tree.specs.{Trees.open_from, Trees.leaf_count, Certificates.Begins, Certificates.IsNode}

pub open_from-append : (k n : ℕ) (nodes more : List Node) → open_from k nodes ≡ Some n
    → open_from k (nodes ++ more) ≡ open_from n more
open_from-append k n [] more is = let e : k ≡ n = cc in ap (λ (j : ℕ). open_from j more) e
open_from-append zero n (node ∷ nodes) more is = let bad : None ≡ Some n = is in cc
open_from-append (suc k) n (Split i c ∷ nodes) more is = open_from-append (suc (suc k)) n nodes more is
open_from-append (suc k) n (Leaf leaf ∷ nodes) more is = open_from-append k n nodes more is

pub open_split : (n i c : ℕ) → 0 < n → open_from n (Split i c ∷ []) ≡ Some (n + 1)
open_split zero i c some = absurd (omega arith)
open_split (suc n) i c some = let e : suc (suc n) ≡ suc n + 1 = omega arith in ap (λ (k : ℕ). Some k) e

pub open_leaf : (n : ℕ) (leaf : LeafLine) → 0 < n → open_from n (Leaf leaf ∷ []) ≡ Some (n - 1)
open_leaf zero leaf some = absurd (omega arith)
open_leaf (suc n) leaf some = let e : n ≡ suc n - 1 = omega arith in ap (λ (k : ℕ). Some k) e

pub leaf_count-append : (nodes more : List Node) → leaf_count (nodes ++ more) ≡ leaf_count nodes + leaf_count more
leaf_count-append [] more = omega arith
leaf_count-append (Split i c ∷ nodes) more = leaf_count-append nodes more
leaf_count-append (Leaf leaf ∷ nodes) more = omega (arith, leaf_count-append nodes more)

pub node_lines-snoc : (nodes : List Node) (node : Node) (rest : List ℕ)
    → node_lines (nodes ++ node ∷ []) ++ rest ≡ node_lines nodes ++ (node_line node ++ rest)
node_lines-snoc [] node rest = append_assoc (node_line node) [] rest
node_lines-snoc (first ∷ nodes) node rest =
    append_assoc (node_line first) (node_lines (nodes ++ node ∷ [])) rest
    ∙ ap (λ (t : List ℕ). node_line first ++ t) (node_lines-snoc nodes node rest)
    ∙ sym (append_assoc (node_line first) (node_lines nodes) (node_line node ++ rest))

-- what is written, one item more
pub node_lines_more : (nodes : List Node) (i : ℕ) (node : Node) (text text' before : List ℕ) → i < length nodes
    → node ≡ get_or nodes i node → text ≡ before ++ node_lines (take i nodes) → text' ≡ text ++ node_line node
    → text' ≡ before ++ node_lines (take (i + 1) nodes)
node_lines_more nodes i node text text' before lt is so_far added =
    added ∙ ap (λ (t : List ℕ). t ++ node_line node) so_far
    ∙ append_assoc before (node_lines (take i nodes)) (node_line node)
    ∙ ap (λ (t : List ℕ). before ++ t)
    (ap (λ (t : List ℕ). node_lines (take i nodes) ++ t) (sym (append-nil (node_line node)))
    ∙ sym (node_lines-snoc (take i nodes) node []) ∙ append-nil _
    ∙ ap node_lines (ap (λ (n : Node). take i nodes ++ n ∷ []) is ∙ sym (take-suc nodes i node lt)
    ∙ ap (λ (k : ℕ). take k nodes) (sym (add-one i))))

pub lines_behind : (format : CertFormat) (claims : List ℕ) (nodes : List Node) (rest : List ℕ)
    → lines_of format claims nodes ++ rest
    ≡ version_line format ++ (claim_line claims ++ (node_lines nodes ++ rest))
lines_behind format claims nodes rest =
    append_assoc (version_line format) (claim_line claims ++ node_lines nodes) rest
    ∙ ap (λ (t : List ℕ). version_line format ++ t) (append_assoc (claim_line claims) (node_lines nodes) rest)

pub lines_of-snoc : (format : CertFormat) (claims : List ℕ) (nodes : List Node)
    (node : Node) (rest : List ℕ)
    → lines_of format claims (nodes ++ node ∷ []) ++ rest
    ≡ lines_of format claims nodes ++ (node_line node ++ rest)
lines_of-snoc format claims nodes node rest =
    lines_behind format claims (nodes ++ node ∷ []) rest
    ∙ ap (λ (t : List ℕ). version_line format ++ (claim_line claims ++ t)) (node_lines-snoc nodes node rest)
    ∙ sym (lines_behind format claims nodes (node_line node ++ rest))

-- the nodes that a text begins with, and one more
pub begins_more : (format : CertFormat) (text claims : List ℕ) (nodes : List Node)
    (n m : ℕ) (rest behind : List ℕ)
    (node : Node) → Begins format text claims nodes n rest → rest ≡ node_line node ++ behind
    → IsNode format.kind (length claims) node
    → open_from n (node ∷ []) ≡ Some m → leaf_count nodes + leaf_count (node ∷ []) ≤ 4096
    → Begins format text claims (nodes ++ node ∷ []) m behind
begins_more format text claims nodes n m rest behind node begins line good left few = record {
  lines = begins.lines ∙ ap (λ (t : List ℕ). lines_of format claims nodes ++ t) line
      ∙ sym (lines_of-snoc format claims nodes node behind);
  good_claims = begins.good_claims;
  good_nodes = All-append (IsNode format.kind (length claims)) nodes (node ∷ []) begins.good_nodes
      (All-cons (IsNode format.kind (length claims)) node [] good (All-nil (IsNode format.kind (length claims))));
  left_open = open_from-append 1 n nodes (node ∷ []) begins.left_open ∙ left;
  few_leaves = omega (arith, leaf_count-append nodes (node ∷ []), few);
}
