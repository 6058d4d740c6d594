-- Each text is that of a certificate or has a first fault.
use Rattle.std.proofs.Common.{arith, ◌≡◌, ◌⊎◌, ◌<◌, ◌≤◌, ◌+◌, ◌-◌, ◌↔◌, ℕ, zero, suc, List, [], ◌∷◌, ◌++◌, length, refl}
use Rattle.std.proofs.Common.{sym, ap, ◌∙◌, inl, inr, subst}
use Rattle.std.specs.Prelude.{Some}
use Rattle.std.proofs.lemmas.Bool.{cases_lt}
use Rattle.std.proofs.lemmas.List.{append-nil, length-append}
use Rattle.std.proofs.lemmas.List.Elements.{All-nil}
use Rattle.box_tree.specs.declared.{cert.CertFormat.CertFormat, cert.CertKind.CertKind, cert.LeafLine.LeafLine}
use Rattle.box_tree.specs.declared.cert.CertKind.TheVariants.{Named, Tight}
use Rattle.box_tree.specs.declared.cert.LeafLine.TheVariants as stated
use Rattle.box_tree.specs.declared.{cert.Node.Node, cert.Cert.Cert, cert.CertFault.CertFault}
use Rattle.box_tree.specs.declared.cert.Node.TheVariants.{Split, Leaf}
use Rattle.box_tree.specs.declared.cert.CertFault.TheVariants.{BadLine, Early, Late, TooManyLeaves}
use Rattle.box_tree.specs.Certificates.{AreClaims, Begins, CertText, HasFault, IsCut, IsLeaf, IsNode, IsPair}
use Rattle.box_tree.specs.Certificates.{bad_claims, bad_node, bad_version, late, left_open, line_behind, many_leaves}
use Rattle.box_tree.specs.Certificates.{no_claims, no_version}
use Rattle.box_tree.specs.{Laws.EachTextIsJudged, Trees.leaf_count, Trees.open_from}
use Rattle.box_tree.specs.Texts.{claim_line, lines_of, node_line, version_line}
use Rattle.box_tree.proofs.Searching.{AreSo, Decided, IsSearchable, as_decided, at_most_decided, both_decided}
use Rattle.box_tree.proofs.Searching.{either_decided, front_decided, lists_searchable, numbers_searchable}
use Rattle.box_tree.proofs.TreeLemmas.{begins_more, lines_behind, open_leaf, open_split}

-- ---- claims and nodes can be looked through

zeros_decided : (a b : ℕ) → Decided ((a ≡ 0) ↔ (b ≡ 0))
zeros_decided zero zero = inl ((λ e. refl), (λ e. refl))
zeros_decided zero (suc b) = inr (λ both. omega (arith, both.0 refl))
zeros_decided (suc a) zero = inr (λ both. omega (arith, both.1 refl))
zeros_decided (suc a) (suc b) = inl ((λ e. absurd (omega (arith, e))), (λ e. absurd (omega (arith, e))))

pairs_searchable : IsSearchable (ℕ × ℕ) IsPair
pairs_searchable Q judge =
    as_decided to from
    (numbers_searchable 256 (λ a. (b : ℕ) × (b ≤ 255) × (((a ≡ 0) ↔ (b ≡ 0)) × Q (a, b)))
    (λ a. numbers_searchable 255 (λ b. ((a ≡ 0) ↔ (b ≡ 0)) × Q (a, b))
    (λ b. both_decided (zeros_decided a b) (judge (a, b)))))
  where
    to : (a : ℕ) × (a ≤ 256) × ((b : ℕ) × (b ≤ 255) × (((a ≡ 0) ↔ (b ≡ 0)) × Q (a, b)))
        → (p : ℕ × ℕ) × IsPair p × Q p
    to (a, rule, (b, part, (both, q))) = ((a, b), record { rule = rule; part = part; both = both }, q)

    from : (p : ℕ × ℕ) × IsPair p × Q p
        → (a : ℕ) × (a ≤ 256) × ((b : ℕ) × (b ≤ 255) × (((a ≡ 0) ↔ (b ≡ 0)) × Q (a, b)))
    from ((a, b), good, q) = (a, good.rule, (b, good.part, (good.both, q)))

claims_searchable : IsSearchable (List ℕ) AreClaims
claims_searchable Q judge =
    as_decided to from
    (numbers_searchable 4 (λ n. (1 ≤ n) × ((claims : List ℕ) × AreSo (λ e. e ≤ 1000000) n claims × Q claims))
    (λ n. both_decided (at_most_decided 1 n)
    (lists_searchable (λ e. e ≤ 1000000) (numbers_searchable 1000000) n Q judge)))
  where
    to : (n : ℕ) × (n ≤ 4) × ((1 ≤ n) × ((claims : List ℕ) × AreSo (λ e. e ≤ 1000000) n claims × Q claims))
        → (claims : List ℕ) × AreClaims claims × Q claims
    to (n, few, (some, (claims, so, q))) = (
      claims,
      record { some = omega (arith, some, so.0); few = omega (arith, few, so.0); millionths = so.1 },
      q,
    )

    from : (claims : List ℕ) × AreClaims claims × Q claims
        → (n : ℕ) × (n ≤ 4) × ((1 ≤ n) × ((claims : List ℕ) × AreSo (λ e. e ≤ 1000000) n claims × Q claims))
    from (claims, good, q) = (length claims, good.few, (good.some, (claims, (refl, good.millionths), q)))

cuts_searchable : (Q : ℕ → ℕ → Type 0) → ((input cut : ℕ) → Decided (Q input cut))
    → Decided ((input : ℕ) × (cut : ℕ) × IsCut input cut × Q input cut)
cuts_searchable Q judge =
    as_decided to from
    (numbers_searchable 8 (λ i. (1 ≤ i) × ((c : ℕ) × (c ≤ 255) × Q i c))
    (λ i. both_decided (at_most_decided 1 i) (numbers_searchable 255 (Q i) (judge i))))
  where
    to : (i : ℕ) × (i ≤ 8) × ((1 ≤ i) × ((c : ℕ) × (c ≤ 255) × Q i c))
        → (input : ℕ) × (cut : ℕ) × IsCut input cut × Q input cut
    to (i, few, (some, (c, byte, q))) = (i, c, record { some = some; few = few; byte = byte }, q)

    from : (input : ℕ) × (cut : ℕ) × IsCut input cut × Q input cut
        → (i : ℕ) × (i ≤ 8) × ((1 ≤ i) × ((c : ℕ) × (c ≤ 255) × Q i c))
    from (i, c, good, q) = (i, good.few, (good.some, (c, good.byte, q)))

leaves_searchable : (kind : CertKind) (width : ℕ) → IsSearchable LeafLine (IsLeaf kind width)
leaves_searchable Named width Q judge =
    as_decided to from (lists_searchable IsPair pairs_searchable width (λ pairs. Q (stated.Pairs (record { items = pairs })))
    (λ pairs. judge (stated.Pairs (record { items = pairs }))))
  where
    to : (pairs : List (ℕ × ℕ)) × AreSo IsPair width pairs × Q (stated.Pairs (record { items = pairs }))
        → (leaf : LeafLine) × IsLeaf Named width leaf × Q leaf
    to (pairs, so, q) = (stated.Pairs (record { items = pairs }), so, q)

    from : (leaf : LeafLine) × IsLeaf Named width leaf × Q leaf
        → (pairs : List (ℕ × ℕ)) × AreSo IsPair width pairs × Q (stated.Pairs (record { items = pairs }))
    from (stated.Pairs pairs, good, q) = (pairs.items, good, q)
    from (stated.Tight, good, q) = absurd good
    from (stated.Cells, good, q) = absurd good
leaves_searchable Tight width Q judge = as_decided to from (either_decided (judge stated.Tight) (judge stated.Cells))
  where
    to : Q stated.Tight ⊎ Q stated.Cells → (leaf : LeafLine) × IsLeaf Tight width leaf × Q leaf
    to (inl q) = (stated.Tight, tt, q)
    to (inr q) = (stated.Cells, tt, q)

    from : (leaf : LeafLine) × IsLeaf Tight width leaf × Q leaf → Q stated.Tight ⊎ Q stated.Cells
    from (stated.Pairs pairs, good, q) = absurd good
    from (stated.Tight, good, q) = inl q
    from (stated.Cells, good, q) = inr q

nodes_searchable : (kind : CertKind) (width : ℕ) → IsSearchable Node (IsNode kind width)
nodes_searchable kind width Q judge =
    as_decided to from
    (either_decided (cuts_searchable (λ i c. Q (Split i c)) (λ i c. judge (Split i c)))
    (leaves_searchable kind width (λ leaf. Q (Leaf leaf)) (λ leaf. judge (Leaf leaf))))
  where
    to : ((i : ℕ) × (c : ℕ) × IsCut i c × Q (Split i c)) ⊎ ((leaf : LeafLine) × IsLeaf kind width leaf × Q (Leaf leaf))
        → (node : Node) × IsNode kind width node × Q node
    to (inl (i, c, good, q)) = (Split i c, good, q)
    to (inr (leaf, good, q)) = (Leaf leaf, good, q)

    from : (node : Node) × IsNode kind width node × Q node
        → ((i : ℕ) × (c : ℕ) × IsCut i c × Q (Split i c)) ⊎ ((leaf : LeafLine) × IsLeaf kind width leaf × Q (Leaf leaf))
    from (Split i c, good, q) = inl (i, c, good, q)
    from (Leaf leaf, good, q) = inr (leaf, good, q)

-- ---- node by node

module _ (format : CertFormat) (text : List ℕ) where
  abbrev IsJudged : Type 0
  IsJudged = ((cert : Cert) × CertText format text cert) ⊎ ((f : CertFault) × HasFault format text f)

  module _ (claims : List ℕ) where
    abbrev IsNext : List ℕ → Type 0
    IsNext rest = (node : Node) × IsNode format.kind (length claims) node × ((behind : List ℕ) × (rest ≡ node_line node ++ behind))

    next_decided : (rest : List ℕ) → Decided (IsNext rest)
    next_decided rest = nodes_searchable format.kind (length claims) (λ node. (behind : List ℕ) × (rest ≡ node_line node ++ behind))
        (λ node. front_decided rest (node_line node))

    ended : (nodes : List Node) (n : ℕ) → Begins format text claims nodes n [] → IsJudged
    ended nodes zero begins = inl (
      record { claims = claims; nodes = nodes },
      record {
        good = record {
          claims = begins.good_claims;
          nodes = begins.good_nodes;
          tree = begins.left_open;
          few_leaves = begins.few_leaves;
        };
        lines = begins.lines ∙ append-nil (lines_of format claims nodes);
      },
    )
    ended nodes (suc n) begins = inr (Early, left_open claims nodes (suc n) begins (omega arith))

    node_is_some : (node : Node) → 0 < length (node_line node)
    node_is_some (Split i c) = omega arith
    node_is_some (Leaf (stated.Pairs pairs)) = omega arith
    node_is_some (Leaf stated.Tight) = omega arith
    node_is_some (Leaf stated.Cells) = omega arith

    -- what is left is at most so long
    from_node : (room : ℕ) (nodes : List Node) (n : ℕ) (rest : List ℕ) → length rest ≤ room
        → Begins format text claims nodes n rest → IsJudged
    from_node room nodes n [] short begins = ended nodes n begins
    from_node zero nodes n (c ∷ rest) short begins = absurd (omega (arith, short))
    from_node (suc room) nodes n (c ∷ rest) short begins = elim (next_decided (c ∷ rest)) [
      | inr none ↦ inr (
        BadLine (line_behind nodes),
        bad_node claims nodes n (c ∷ rest) begins
            ((λ is. (let bad : c ∷ rest ≡ [] = is in cc)), (λ node behind good is. none (node, good, (behind, is)))),
      )
      | inl next ↦ met (from_node room) n next.0 next.2.0 begins next.1 next.2.1
    ]
      where
        Rest : Type 0
        Rest = (nodes : List Node) (n : ℕ) (rest : List ℕ) → length rest ≤ room
            → Begins format text claims nodes n rest → IsJudged

        go_on : Rest → (n m : ℕ) (node : Node) (behind : List ℕ) → Begins format text claims nodes n (c ∷ rest)
            → IsNode format.kind (length claims) node → c ∷ rest ≡ node_line node ++ behind
            → open_from n (node ∷ []) ≡ Some m → leaf_count nodes + leaf_count (node ∷ []) ≤ 4096 → IsJudged
        go_on on n m node behind begins good is left few =
            on (nodes ++ node ∷ []) m behind
            (omega (arith, short, ap length is, length-append (node_line node) behind, node_is_some node))
            (begins_more format text claims nodes n m (c ∷ rest) behind node begins is good left few)

        met : Rest → (n : ℕ) (node : Node) (behind : List ℕ) → Begins format text claims nodes n (c ∷ rest)
            → IsNode format.kind (length claims) node → c ∷ rest ≡ node_line node ++ behind → IsJudged
        met on zero node behind begins good is = inr (
          Late (line_behind nodes),
          late claims nodes node behind (subst (λ (r : List ℕ). Begins format text claims nodes zero r) is begins)
              good,
        )
        met on (suc n) (Split i k) behind begins good is =
            go_on on (suc n) (suc n + 1) (Split i k) behind begins good is (open_split (suc n) i k (omega arith))
            (omega (arith, begins.few_leaves))
        met on (suc n) (Leaf leaf) behind begins good is = elim (cases_lt (leaf_count nodes) 4096) [
          | inl few ↦ go_on on (suc n) (suc n - 1) (Leaf leaf) behind begins good is
              (open_leaf (suc n) leaf (omega arith)) (omega (arith, few))
          | inr full ↦ inr (
            TooManyLeaves (line_behind nodes),
            many_leaves claims nodes (suc n) leaf behind
                (subst (λ (r : List ℕ). Begins format text claims nodes (suc n) r) is begins) good (omega arith)
                (omega (arith, full, begins.few_leaves)),
          )
        ]

  -- ---- the lines before the nodes

  claims_decided : (rest : List ℕ)
      → Decided ((claims : List ℕ) × AreClaims claims × ((behind : List ℕ) × (rest ≡ claim_line claims ++ behind)))
  claims_decided rest = claims_searchable (λ claims. (behind : List ℕ) × (rest ≡ claim_line claims ++ behind))
      (λ claims. front_decided rest (claim_line claims))

  from_claims : (rest : List ℕ) → text ≡ version_line format ++ rest → IsJudged
  from_claims [] is = inr (Early, no_claims (is ∙ append-nil (version_line format)))
  from_claims (c ∷ rest) is = elim (claims_decided (c ∷ rest)) [
    | inr none ↦ inr (
      BadLine 2,
      bad_claims (c ∷ rest) is
          ((λ e. (let bad : c ∷ rest ≡ [] = e in cc)), (λ claims behind good line. none (claims, good, (behind, line)))),
    )
    | inl (claims, good, (behind, line)) ↦
        from_node claims (length behind) [] 1 behind (omega arith) (record {
          lines = is ∙ ap (λ (t : List ℕ). version_line format ++ t) line ∙ first_lines claims behind;
          good_claims = good;
          good_nodes = All-nil (IsNode format.kind (length claims));
          left_open = refl;
          few_leaves = omega arith;
        })
  ]
    where
      first_lines : (claims behind : List ℕ)
          → version_line format ++ (claim_line claims ++ behind) ≡ lines_of format claims [] ++ behind
      first_lines claims behind = sym (lines_behind format claims [] behind)

  from_version : (found : Decided ((rest : List ℕ) × (text ≡ version_line format ++ rest))) → IsJudged
  from_version (inl found) = from_claims found.0 found.1
  from_version (inr none) = empty_or_bad text refl
    where
      empty_or_bad : (t : List ℕ) → text ≡ t → IsJudged
      empty_or_bad [] is = inr (Early, no_version is)
      empty_or_bad (c ∷ t) is = inr (
        BadLine 1,
        bad_version (λ e. (let bad : c ∷ t ≡ [] = sym is ∙ e in cc)) (λ rest line. none (rest, line)),
      )

pub each_text_judged : EachTextIsJudged
each_text_judged format text = from_version format text (front_decided text (version_line format))
