-- Where a text stops: at the end of its certificate, or at its first fault.
use Rattle.std.proofs.Common.{◌≡◌, ◌≢◌, ◌<◌, ◌+◌, ◌≤◌, ◌⊎◌, inl, inr, ℕ, zero, suc, List, [], ◌∷◌, ◌++◌, length, All}
use Rattle.std.proofs.Common.{Option, Some, None, refl, sym, ◌∙◌, ap, subst, arith, append_assoc}
use Rattle.std.proofs.lemmas.List.{append_cancel_left, append-nil}
use Rattle.std.proofs.lemmas.List.Elements.{All-head, All-tail}
use Rattle.box_tree.specs.declared.{cert.CertFormat.CertFormat, cert.CertKind.CertKind, cert.LeafLine.LeafLine}
use Rattle.box_tree.specs.declared.{cert.Node.Node, cert.Node.TheVariants.Leaf, cert.Cert.Cert}
use Rattle.box_tree.specs.declared.cert.CertFault.{CertFault}
use Rattle.box_tree.specs.declared.cert.CertFault.TheVariants.{BadLine, Early, Late, TooManyLeaves}
use Rattle.box_tree.specs.Texts.{version_line, claim_line, node_line, node_lines}
use Rattle.box_tree.specs.{Trees.open_from, Trees.leaf_count, Laws.FaultsAreOne, Laws.CertTextsHaveNoFault}
use Rattle.box_tree.specs.Certificates.{IsNode, Begins, CertText, HasNoClaims, HasNoNode, line_behind, HasFault}
use Rattle.box_tree.specs.Certificates.{bad_version, no_version, bad_claims, no_claims, bad_node, left_open, late}
use Rattle.box_tree.specs.Certificates.{many_leaves}
use Rattle.box_tree.proofs.{HeaderLemmas.one_claim_line, LineLemmas.at_seam}
use Rattle.box_tree.proofs.LawLemmas.{one_node, line_is_some}
use Rattle.box_tree.proofs.TreeLemmas.{lines_behind, open_from-append, leaf_count-append}

-- why no node follows those that were read, of which this many boxes are open: the tree is whole, or there is a fault
data Stops (kind : CertKind) (width : ℕ) (nodes : List Node) (n : ℕ) (rest : List ℕ) : Option CertFault → Type 0 where
  whole : rest ≡ [] → n ≡ 0 → Stops kind width nodes n rest None
  bad : HasNoNode kind width rest → Stops kind width nodes n rest (Some (BadLine (line_behind nodes)))
  early : rest ≡ [] → 0 < n → Stops kind width nodes n rest (Some Early)
  past : (node : Node) (behind : List ℕ) → n ≡ 0 → rest ≡ node_line node ++ behind → IsNode kind width node
      → Stops kind width nodes n rest (Some (Late (line_behind nodes)))
  full : (leaf : LeafLine) (behind : List ℕ) → 0 < n → rest ≡ node_line (Leaf leaf) ++ behind
      → IsNode kind width (Leaf leaf)
      → leaf_count nodes ≡ 4096 → Stops kind width nodes n rest (Some (TooManyLeaves (line_behind nodes)))

line_is_not_nothing : (node : Node) (behind rest : List ℕ) → rest ≡ [] → rest ≡ node_line node ++ behind → ⊥
line_is_not_nothing node behind rest nothing line = line_is_some node behind (sym nothing ∙ line)

-- a text stops for one reason
one_stop : (kind : CertKind) (width : ℕ) (nodes : List Node) (n : ℕ) (rest : List ℕ) (a b : Option CertFault)
    → Stops kind width nodes n rest a
    → Stops kind width nodes n rest b → a ≡ b
one_stop kind width nodes n rest _ _ (whole r z) (whole s y) = refl
one_stop kind width nodes n rest _ _ (whole r z) (bad s) = absurd (s.0 r)
one_stop kind width nodes n rest _ _ (whole r z) (early s y) = absurd (omega arith)
one_stop kind width nodes n rest _ _ (whole r z) (past k c y s g) = absurd (line_is_not_nothing k c rest r s)
one_stop kind width nodes n rest _ _ (whole r z) (full p c y s g l) = absurd (line_is_not_nothing (Leaf p) c rest r s)
one_stop kind width nodes n rest _ _ (bad r) (whole s y) = absurd (r.0 s)
one_stop kind width nodes n rest _ _ (bad r) (bad s) = refl
one_stop kind width nodes n rest _ _ (bad r) (early s y) = absurd (r.0 s)
one_stop kind width nodes n rest _ _ (bad r) (past k c y s g) = absurd (r.1 k c g s)
one_stop kind width nodes n rest _ _ (bad r) (full p c y s g l) = absurd (r.1 (Leaf p) c g s)
one_stop kind width nodes n rest _ _ (early r z) (whole s y) = absurd (omega arith)
one_stop kind width nodes n rest _ _ (early r z) (bad s) = absurd (s.0 r)
one_stop kind width nodes n rest _ _ (early r z) (early s y) = refl
one_stop kind width nodes n rest _ _ (early r z) (past k c y s g) = absurd (omega arith)
one_stop kind width nodes n rest _ _ (early r z) (full p c y s g l) = absurd (line_is_not_nothing (Leaf p) c rest r s)
one_stop kind width nodes n rest _ _ (past j d z r h) (whole s y) = absurd (line_is_not_nothing j d rest s r)
one_stop kind width nodes n rest _ _ (past j d z r h) (bad s) = absurd (s.1 j d h r)
one_stop kind width nodes n rest _ _ (past j d z r h) (early s y) = absurd (omega arith)
one_stop kind width nodes n rest _ _ (past j d z r h) (past k c y s g) = refl
one_stop kind width nodes n rest _ _ (past j d z r h) (full p c y s g l) = absurd (omega arith)
one_stop kind width nodes n rest _ _ (full q d z r h m) (whole s y) = absurd (omega arith)
one_stop kind width nodes n rest _ _ (full q d z r h m) (bad s) = absurd (s.1 (Leaf q) d h r)
one_stop kind width nodes n rest _ _ (full q d z r h m) (early s y) = absurd (line_is_not_nothing (Leaf q) d rest s r)
one_stop kind width nodes n rest _ _ (full q d z r h m) (past k c y s g) = absurd (omega arith)
one_stop kind width nodes n rest _ _ (full q d z r h m) (full p c y s g l) = refl

-- more nodes follow the first
record GoesOn (first nodes : List Node) (rest rest' : List ℕ) : Type 0 where
  node : Node
  more : List Node
  nodes_are : nodes ≡ first ++ node ∷ more
  rest_is : rest ≡ node_line node ++ (node_lines more ++ rest')

node_lines_front : (node : Node) (nodes : List Node) (rest : List ℕ)
    → node_lines (node ∷ nodes) ++ rest ≡ node_line node ++ (node_lines nodes ++ rest)
node_lines_front node nodes rest = append_assoc (node_line node) (node_lines nodes) rest

-- of two lists of nodes that a text begins with, one begins with the other
compared : (kind : CertKind) (width : ℕ) (ns ms : List Node) (r s : List ℕ) → All (IsNode kind width) ns
    → All (IsNode kind width) ms
    → node_lines ns ++ r ≡ node_lines ms ++ s
    → ((ns ≡ ms) × (r ≡ s)) ⊎ (GoesOn ns ms r s ⊎ GoesOn ms ns s r)
compared kind width [] [] r s ns_good ms_good same = inl (refl, same)
compared kind width [] (m ∷ ms) r s ns_good ms_good same =
    inr (inl (record { node = m; more = ms; nodes_are = refl; rest_is = same ∙ node_lines_front m ms s }))
compared kind width (n ∷ ns) [] r s ns_good ms_good same =
    inr (inr (record { node = n; more = ns; nodes_are = refl; rest_is = sym same ∙ node_lines_front n ns r }))
compared kind width (n ∷ ns) (m ∷ ms) r s ns_good ms_good same =
    let one = one_node kind width width n m (node_lines ns ++ r) (node_lines ms ++ s)
    (All-head (IsNode kind width) n ns ns_good) (All-head (IsNode kind width) m ms ms_good)
    (sym (node_lines_front n ns r) ∙ same ∙ node_lines_front m ms s) in
    both one.0 (compared kind width ns ms r s (All-tail (IsNode kind width) n ns ns_good)
    (All-tail (IsNode kind width) m ms ms_good) one.1)
  where
    behind : (a b : Node) (xs ys : List Node) (x y : List ℕ) → a ≡ b → GoesOn xs ys x y → GoesOn (a ∷ xs) (b ∷ ys) x y
    behind a b xs ys x y e g = record {
      node = g.node;
      more = g.more;
      nodes_are = ap (λ (l : List Node). b ∷ l) g.nodes_are ∙ ap (λ (c : Node). c ∷ (xs ++ g.node ∷ g.more)) (sym e);
      rest_is = g.rest_is;
    }

    both : n ≡ m → ((ns ≡ ms) × (r ≡ s)) ⊎ (GoesOn ns ms r s ⊎ GoesOn ms ns s r)
        → ((n ∷ ns ≡ m ∷ ms) × (r ≡ s)) ⊎ (GoesOn (n ∷ ns) (m ∷ ms) r s ⊎ GoesOn (m ∷ ms) (n ∷ ns) s r)
    both e (inl (f, g)) = inl (ap (λ (c : Node). c ∷ ns) e ∙ ap (λ (l : List Node). m ∷ l) f, g)
    both e (inr (inl g)) = inr (inl (behind n m ns ms r s e g))
    both e (inr (inr g)) = inr (inr (behind m n ms ns s r (sym e) g))

-- what an answer about a text's nodes rests on
record StopsAt (format : CertFormat) (text : List ℕ) (answer : Option CertFault) : Type 0 where
  claims : List ℕ
  nodes : List Node
  n : ℕ
  rest : List ℕ
  begins : Begins format text claims nodes n rest
  stops : Stops format.kind (length claims) nodes n rest answer

no_more : (format : CertFormat) (text claims : List ℕ) (ns ms : List Node)
    (n m : ℕ) (r s : List ℕ) (answer : Option CertFault)
    → Begins format text claims ns n r → Begins format text claims ms m s
    → Stops format.kind (length claims) ns n r answer
    → GoesOn ns ms r s → ⊥
no_more format text claims ns ms n m r s answer first second stop on = by answer stop
  where
    behind : List ℕ
    behind = node_lines on.more ++ s

    good : IsNode format.kind (length claims) on.node
    good = at_seam (IsNode format.kind (length claims)) ns on.node on.more
        (subst (All (IsNode format.kind (length claims))) on.nodes_are second.good_nodes)

    opens : open_from n (on.node ∷ on.more) ≡ Some m
    opens = sym (open_from-append 1 n ns (on.node ∷ on.more) first.left_open)
        ∙ ap (λ (l : List Node). open_from 1 l) (sym on.nodes_are) ∙ second.left_open

    closed : (k : ℕ) (node : Node) (more : List Node) → k ≡ 0 → open_from k (node ∷ more) ≡ Some m → ⊥
    closed zero node more e f = cc
    closed (suc k) node more e f = omega arith

    leaves : leaf_count ns + leaf_count (on.node ∷ on.more) ≤ 4096
    leaves = omega (arith, leaf_count-append ns (on.node ∷ on.more), ap leaf_count on.nodes_are, second.few_leaves)

    too_many : (leaf : LeafLine) → on.node ≡ Leaf leaf → leaf_count ns ≡ 4096 → ⊥
    too_many leaf e l = omega (arith, leaves, l, ap (λ (k : Node). leaf_count (k ∷ on.more)) e)

    by : (reason : Option CertFault) → Stops format.kind (length claims) ns n r reason → ⊥
    by _ (whole e z) = line_is_not_nothing on.node behind r e on.rest_is
    by _ (bad h) = h.1 on.node behind good on.rest_is
    by _ (early e z) = line_is_not_nothing on.node behind r e on.rest_is
    by _ (past k c z e g) = closed n on.node on.more z opens
    by _ (full p c z e g l) =
        too_many p
        ((one_node format.kind (length claims) (length claims) on.node (Leaf p) behind c good g (sym on.rest_is ∙ e)).0) l

stops_are_one : (format : CertFormat) (text : List ℕ) (a b : Option CertFault)
    → StopsAt format text a
    → StopsAt format text b → a ≡ b
stops_are_one format text a b p q =
    let front = append_cancel_left (version_line format) (claim_line p.claims ++ (node_lines p.nodes ++ p.rest))
    (claim_line q.claims ++ (node_lines q.nodes ++ q.rest))
    (sym (p.begins.lines ∙ lines_behind format p.claims p.nodes p.rest)
    ∙ (q.begins.lines ∙ lines_behind format q.claims q.nodes q.rest)) in
    let claims = one_claim_line p.claims q.claims (node_lines p.nodes ++ p.rest)
    (node_lines q.nodes ++ q.rest) p.begins.good_claims q.begins.good_claims front in
    let begins = subst (λ (cs : List ℕ). Begins format text cs q.nodes q.n q.rest) (sym claims.0) q.begins in
    let stops = subst (λ (cs : List ℕ). Stops format.kind (length cs) q.nodes q.n q.rest b) (sym claims.0) q.stops in
    by p.claims p.nodes q.nodes p.n q.n p.rest q.rest p.begins begins p.stops stops
    (compared format.kind (length p.claims) p.nodes q.nodes p.rest q.rest p.begins.good_nodes begins.good_nodes claims.1)
  where
    same : (claims : List ℕ) (ns ms : List Node) (n m : ℕ) (r s : List ℕ) → Begins format text claims ns n r
        → Begins format text claims ms m s → ns ≡ ms → n ≡ m
    same claims ns ms n m r s first second e =
        let opens : Some n ≡ Some m = sym first.left_open ∙ ap (λ (l : List Node). open_from 1 l) e
        ∙ second.left_open in
        cc

    by : (claims : List ℕ) (ns ms : List Node) (n m : ℕ) (r s : List ℕ) → Begins format text claims ns n r
        → Begins format text claims ms m s → Stops format.kind (length claims) ns n r a
        → Stops format.kind (length claims) ms m s b
        → ((ns ≡ ms) × (r ≡ s)) ⊎ (GoesOn ns ms r s ⊎ GoesOn ms ns s r) → a ≡ b
    by claims ns ms n m r s first second one other (inl (e, f)) =
        let opens = same claims ns ms n m r s first second e in
        one_stop format.kind (length claims) ms m s a b
        (subst (λ (l : List Node). Stops format.kind (length claims) l m s a) e
        (subst (λ (k : ℕ). Stops format.kind (length claims) ns k s a) opens
        (subst (λ (t : List ℕ). Stops format.kind (length claims) ns n t a) f one))) other
    by claims ns ms n m r s first second one other (inr (inl on)) =
        absurd (no_more format text claims ns ms n m r s a first second one on)
    by claims ns ms n m r s first second one other (inr (inr on)) =
        absurd (no_more format text claims ms ns m n s r b second first other on)

-- ---- the first two lines too

data Ends (format : CertFormat) (text : List ℕ) : Option CertFault → Type 0 where
  other_version : text ≢ [] → ((rest : List ℕ) → text ≢ version_line format ++ rest)
      → Ends format text (Some (BadLine 1))
  nothing : text ≡ [] → Ends format text (Some Early)
  other_claims : (rest : List ℕ) → text ≡ version_line format ++ rest → HasNoClaims rest
      → Ends format text (Some (BadLine 2))
  just_version : text ≡ version_line format → Ends format text (Some Early)
  in_nodes : (answer : Option CertFault) → StopsAt format text answer → Ends format text answer

version_is_some : (format : CertFormat) (rest : List ℕ) → [] ≡ version_line format ++ rest → ⊥
version_is_some format rest same = cc

claims_are_some : (claims rest : List ℕ) → [] ≡ claim_line claims ++ rest → ⊥
claims_are_some claims rest same = cc

no_rest : (format : CertFormat) (text : List ℕ) → text ≡ version_line format
    → text ≡ version_line format ++ []
no_rest format text same = same ∙ sym (append-nil (version_line format))

nodes_front : (format : CertFormat) (text : List ℕ) (answer : Option CertFault)
    (p : StopsAt format text answer)
    → text ≡ version_line format ++ (claim_line p.claims ++ (node_lines p.nodes ++ p.rest))
nodes_front format text answer p = p.begins.lines ∙ lines_behind format p.claims p.nodes p.rest

nodes_apart_nothing : (format : CertFormat) (text : List ℕ) (answer : Option CertFault)
    → StopsAt format text answer
    → text ≡ [] → ⊥
nodes_apart_nothing format text answer p none =
    version_is_some format (claim_line p.claims ++ (node_lines p.nodes ++ p.rest))
    (sym none ∙ nodes_front format text answer p)

nodes_apart_claims : (format : CertFormat) (text : List ℕ) (answer : Option CertFault)
    (rest : List ℕ)
    → StopsAt format text answer → text ≡ version_line format ++ rest → HasNoClaims rest → ⊥
nodes_apart_claims format text answer rest p is none =
    none.1 p.claims (node_lines p.nodes ++ p.rest) p.begins.good_claims
    (append_cancel_left (version_line format) rest (claim_line p.claims ++ (node_lines p.nodes ++ p.rest))
    (sym is ∙ nodes_front format text answer p))

nodes_apart_version : (format : CertFormat) (text : List ℕ) (answer : Option CertFault)
    → StopsAt format text answer
    → text ≡ version_line format → ⊥
nodes_apart_version format text answer p is =
    claims_are_some p.claims (node_lines p.nodes ++ p.rest)
    (append_cancel_left (version_line format) [] (claim_line p.claims ++ (node_lines p.nodes ++ p.rest))
    (sym (no_rest format text is) ∙ nodes_front format text answer p))

claims_apart_version : (format : CertFormat) (text rest : List ℕ)
    → text ≡ version_line format ++ rest → HasNoClaims rest
    → text ≡ version_line format → ⊥
claims_apart_version format text rest is none just =
    none.0 (append_cancel_left (version_line format) rest [] (sym is ∙ no_rest format text just))

ends_are_one : (format : CertFormat) (text : List ℕ) (a b : Option CertFault)
    → Ends format text a
    → Ends format text b → a ≡ b
ends_are_one format text _ _ (other_version r s) (other_version u w) = refl
ends_are_one format text _ _ (other_version r s) (nothing u) = absurd (r u)
ends_are_one format text _ _ (other_version r s) (other_claims t u w) = absurd (s t u)
ends_are_one format text _ _ (other_version r s) (just_version u) = absurd (s [] (no_rest format text u))
ends_are_one format text _ _ (other_version r s) (in_nodes b q) =
    absurd (s (claim_line q.claims ++ (node_lines q.nodes ++ q.rest)) (nodes_front format text b q))
ends_are_one format text _ _ (nothing r) (other_version u w) = absurd (u r)
ends_are_one format text _ _ (nothing r) (nothing u) = refl
ends_are_one format text _ _ (nothing r) (other_claims t u w) =
    absurd (version_is_some format t (sym r ∙ u))
ends_are_one format text _ _ (nothing r) (just_version u) = refl
ends_are_one format text _ _ (nothing r) (in_nodes b q) = absurd (nodes_apart_nothing format text b q r)
ends_are_one format text _ _ (other_claims l r s) (other_version u w) = absurd (w l r)
ends_are_one format text _ _ (other_claims l r s) (nothing u) =
    absurd (version_is_some format l (sym u ∙ r))
ends_are_one format text _ _ (other_claims l r s) (other_claims t u w) = refl
ends_are_one format text _ _ (other_claims l r s) (just_version u) =
    absurd (claims_apart_version format text l r s u)
ends_are_one format text _ _ (other_claims l r s) (in_nodes b q) =
    absurd (nodes_apart_claims format text b l q r s)
ends_are_one format text _ _ (just_version r) (other_version u w) = absurd (w [] (no_rest format text r))
ends_are_one format text _ _ (just_version r) (nothing u) = refl
ends_are_one format text _ _ (just_version r) (other_claims t u w) =
    absurd (claims_apart_version format text t u w r)
ends_are_one format text _ _ (just_version r) (just_version u) = refl
ends_are_one format text _ _ (just_version r) (in_nodes b q) =
    absurd (nodes_apart_version format text b q r)
ends_are_one format text _ _ (in_nodes a p) (other_version u w) =
    absurd (w (claim_line p.claims ++ (node_lines p.nodes ++ p.rest)) (nodes_front format text a p))
ends_are_one format text _ _ (in_nodes a p) (nothing u) = absurd (nodes_apart_nothing format text a p u)
ends_are_one format text _ _ (in_nodes a p) (other_claims t u w) =
    absurd (nodes_apart_claims format text a t p u w)
ends_are_one format text _ _ (in_nodes a p) (just_version u) =
    absurd (nodes_apart_version format text a p u)
ends_are_one format text _ _ (in_nodes a p) (in_nodes b q) = stops_are_one format text a b p q

fault_ends : (format : CertFormat) (text : List ℕ) (f : CertFault) → HasFault format text f
    → Ends format text (Some f)
fault_ends format text _ (bad_version some none) = other_version some none
fault_ends format text _ (no_version none) = nothing none
fault_ends format text _ (bad_claims rest is none) = other_claims rest is none
fault_ends format text _ (no_claims is) = just_version is
fault_ends format text _ (bad_node claims nodes n rest begins none) =
    in_nodes (Some (BadLine (line_behind nodes)))
    (record { claims = claims; nodes = nodes; n = n; rest = rest; begins = begins; stops = bad none })
fault_ends format text _ (left_open claims nodes n begins some) =
    in_nodes (Some Early)
    (record { claims = claims; nodes = nodes; n = n; rest = []; begins = begins; stops = early refl some })
fault_ends format text _ (late claims nodes node behind begins good) =
    in_nodes (Some (Late (line_behind nodes)))
    (record {
      claims = claims;
      nodes = nodes;
      n = 0;
      rest = node_line node ++ behind;
      begins = begins;
      stops =
          past node behind refl refl good;
    })
fault_ends format text _ (many_leaves claims nodes n leaf behind begins good some all) =
    in_nodes (Some (TooManyLeaves (line_behind nodes)))
    (record {
      claims = claims;
      nodes = nodes;
      n = n;
      rest = node_line (Leaf leaf) ++ behind;
      begins = begins;
      stops =
          full leaf behind some refl good all;
    })

cert_ends : (format : CertFormat) (text : List ℕ) (cert : Cert) → CertText format text cert
    → Ends format text None
cert_ends format text cert spelled = in_nodes None (record {
  claims = cert.claims;
  nodes = cert.nodes;
  n = 0;
  rest = [];
  begins = record {
    lines = spelled.lines ∙ sym (append-nil _);
    good_claims = spelled.good.claims;
    good_nodes = spelled.good.nodes;
    left_open = spelled.good.tree;
    few_leaves = spelled.good.few_leaves;
  };
  stops = whole refl refl;
})

pub faults_are_one : FaultsAreOne
faults_are_one format text f g first second =
    let same : Some f ≡ Some g = ends_are_one format text (Some f) (Some g)
    (fault_ends format text f first) (fault_ends format text g second) in
    cc

pub cert_texts_have_no_fault : CertTextsHaveNoFault
cert_texts_have_no_fault format text cert f spelled fault =
    let same : None ≡ Some f = ends_are_one format text None (Some f)
    (cert_ends format text cert spelled) (fault_ends format text f fault) in
    cc
