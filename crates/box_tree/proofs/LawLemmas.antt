-- A text has one certificate.
use Rattle.std.proofs.Common.{◌≡◌, ℕ, List, [], ◌∷◌, ◌++◌, length, get_or, All, refl, sym, ◌∙◌, ap, arith, subst}
use Rattle.std.specs.Prelude.{codes}
use Rattle.std.proofs.lemmas.List.Elements.{All-head, All-tail}
use Rattle.box_tree.specs.declared.{cert.CertFormat.CertFormat, cert.CertKind.CertKind, cert.LeafLine.LeafLine}
use Rattle.box_tree.specs.declared.cert.CertKind.TheVariants.{Named, Tight}
use Rattle.box_tree.specs.declared.cert.LeafLine.TheVariants as stated
use Rattle.box_tree.specs.declared.{cert.Node.Node, cert.Cert.Cert}
use Rattle.box_tree.specs.declared.cert.Node.TheVariants.{Split, Leaf}
use Rattle.box_tree.specs.{Certificates.IsLeaf, Certificates.IsNode, Laws.CertsAreOne}
use Rattle.box_tree.specs.Texts.{claim_line, leaf_line, node_line, node_lines, pair_numbers}
use Rattle.box_tree.proofs.{HeaderLemmas.one_claim_line, HeaderLemmas.one_version, PairLemmas.pairs_are_one}
use Rattle.box_tree.proofs.NodeLemmas.{cut_is_small, leaf_is_no_cut, line_is_one, pairs_are_small}

abbrev the_pairs : List (ℕ × ℕ) → LeafLine
the_pairs pairs = stated.Pairs (record { items = pairs })

one_leaf : (kind : CertKind) (width other : ℕ) (a b : LeafLine) (x y : List ℕ) → IsLeaf kind width a
    → IsLeaf kind other b → leaf_line a ++ x ≡ leaf_line b ++ y → (a ≡ b) × (x ≡ y)
one_leaf Named width other (stated.Pairs pairs) (stated.Pairs others) x y a_good b_good same =
    let one = line_is_one (codes "leaf") (pair_numbers pairs.items) (pair_numbers others.items) x y
    (pairs_are_small pairs.items a_good.1) (pairs_are_small others.items b_good.1) same in
    (ap the_pairs (pairs_are_one pairs.items others.items one.0), one.1)
one_leaf Named width other (stated.Pairs pairs) stated.Tight x y a_good b_good same = absurd b_good
one_leaf Named width other (stated.Pairs pairs) stated.Cells x y a_good b_good same = absurd b_good
one_leaf Named width other stated.Tight b x y a_good b_good same = absurd a_good
one_leaf Named width other stated.Cells b x y a_good b_good same = absurd a_good
one_leaf Tight width other (stated.Pairs pairs) b x y a_good b_good same = absurd a_good
one_leaf Tight width other stated.Tight (stated.Pairs pairs) x y a_good b_good same = absurd b_good
one_leaf Tight width other stated.Tight stated.Tight x y a_good b_good same = (refl, cc)
one_leaf Tight width other stated.Tight stated.Cells x y a_good b_good same =
    let first_letters : 108 ≡ 99 = ap (λ (t : List ℕ). get_or t 0 0) same in absurd (omega (arith, first_letters))
one_leaf Tight width other stated.Cells (stated.Pairs pairs) x y a_good b_good same = absurd b_good
one_leaf Tight width other stated.Cells stated.Tight x y a_good b_good same =
    let first_letters : 99 ≡ 108 = ap (λ (t : List ℕ). get_or t 0 0) same in absurd (omega (arith, first_letters))
one_leaf Tight width other stated.Cells stated.Cells x y a_good b_good same = (refl, cc)

pub one_node : (kind : CertKind) (width other : ℕ) (a b : Node) (x y : List ℕ) → IsNode kind width a
    → IsNode kind other b → node_line a ++ x ≡ node_line b ++ y → (a ≡ b) × (x ≡ y)
one_node kind width other (Split i c) (Split j d) x y a_good b_good same =
    let one = line_is_one (codes "split") (i ∷ c ∷ []) (j ∷ d ∷ []) x y (cut_is_small i c a_good)
    (cut_is_small j d b_good) same in
    let numbers : i ∷ c ∷ [] ≡ j ∷ d ∷ [] = one.0 in
    let inputs : i ≡ j = cc in
    let cuts : c ≡ d = cc in
    (ap (λ (n : ℕ). Split n c) inputs ∙ ap (λ (n : ℕ). Split j n) cuts, one.1)
one_node kind width other (Split i c) (Leaf leaf) x y a_good b_good same =
    absurd (leaf_is_no_cut leaf (i ∷ c ∷ []) x y same)
one_node kind width other (Leaf leaf) (Split j d) x y a_good b_good same =
    absurd (leaf_is_no_cut leaf (j ∷ d ∷ []) y x (sym same))
one_node kind width other (Leaf a) (Leaf b) x y a_good b_good same =
    let one = one_leaf kind width other a b x y a_good b_good same in (ap (λ (l : LeafLine). Leaf l) one.0, one.1)

pub line_is_some : (node : Node) (rest : List ℕ) → [] ≡ node_line node ++ rest → ⊥
line_is_some (Split i c) rest same = cc
line_is_some (Leaf (stated.Pairs pairs)) rest same = cc
line_is_some (Leaf stated.Tight) rest same = cc
line_is_some (Leaf stated.Cells) rest same = cc

nodes_are_one : (kind : CertKind) (width other : ℕ) (ns ms : List Node) → All (IsNode kind width) ns
    → All (IsNode kind other) ms
    → node_lines ns ≡ node_lines ms → ns ≡ ms
nodes_are_one kind width other [] [] ns_good ms_good same = refl
nodes_are_one kind width other [] (m ∷ ms) ns_good ms_good same = absurd (line_is_some m (node_lines ms) same)
nodes_are_one kind width other (n ∷ ns) [] ns_good ms_good same = absurd (line_is_some n (node_lines ns) (sym same))
nodes_are_one kind width other (n ∷ ns) (m ∷ ms) ns_good ms_good same =
    let one = one_node kind width other n m (node_lines ns) (node_lines ms) (All-head (IsNode kind width) n ns ns_good)
    (All-head (IsNode kind other) m ms ms_good) same in
    ap (λ (k : Node). k ∷ ns) one.0
    ∙ ap (λ (l : List Node). m ∷ l)
    (nodes_are_one kind width other ns ms (All-tail (IsNode kind width) n ns ns_good)
    (All-tail (IsNode kind other) m ms ms_good) one.1)

abbrev the_cert : List ℕ → List Node → Cert
the_cert claims nodes = record { claims = claims; nodes = nodes }

pub certs_are_one : CertsAreOne
certs_are_one f g text a b first second =
    let versions = one_version f g (claim_line a.claims ++ node_lines a.nodes)
    (claim_line b.claims ++ node_lines b.nodes) (sym first.lines ∙ second.lines) in
    let claims = one_claim_line a.claims b.claims (node_lines a.nodes) (node_lines b.nodes) first.good.claims
    second.good.claims versions.1 in
    let good = subst (λ (l : CertFormat). All (IsNode l.kind (length b.claims)) b.nodes) (sym versions.0)
    second.good.nodes in
    let nodes = nodes_are_one f.kind (length a.claims) (length b.claims) a.nodes b.nodes first.good.nodes good claims.1 in (
      versions.0,
      ap (λ (cs : List ℕ). the_cert cs a.nodes) claims.0
          ∙ ap (λ (ns : List Node). the_cert b.claims ns) nodes,
    )
