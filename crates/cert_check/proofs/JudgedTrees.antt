-- Each certificate is accepted or has a fault, and so each text.
use Rattle.std.proofs.Common.{◌≡◌, ◌⊎◌, inl, inr, ℕ, zero, suc, ◌+◌, ◌-◌, ◌<◌, ◌≤◌, List, [], ◌∷◌, ◌++◌, length}
use Rattle.std.proofs.Common.{Some, refl, ◌∙◌, subst, arith}
use Rattle.std.proofs.{lemmas.Bool.cases_lt, lemmas.Bool.cases_eq, lemmas.Option.slice_get_within}
use Rattle.std.proofs.lemmas.List.Elements.{All-append}
use Rattle.std.specs.Prelude.{All, slice_get, Ok, Err}
use Rattle.fuzzy_meaning.specs.{declared.block.Output.Output, declared.block.Block.Block}
use Rattle.fuzzy_meaning.specs.Blocks.{IsValid, output_at}
use Rattle.error_bound.specs.declared.boxes.Interval.{Interval}
use Rattle.error_bound.specs.{Boxes.IsBoxOf, Faults.EachLeafIsJudged, Laws.TermErrorsAre}
use Rattle.error_bound.specs.TightLaws.{EachBoxHasATightCount}
use Rattle.box_tree.specs.declared.{cert.CertKind.CertKind, cert.LeafLine.LeafLine, cert.Node.Node, cert.Cert.Cert}
use Rattle.box_tree.specs.declared.cert.Node.TheVariants.{Split, Leaf}
use Rattle.box_tree.specs.{Certificates.IsCert, Certificates.IsNode, Trees.open_from, Laws.EachTextIsJudged}
use Rattle.cell_bounds.specs.CellBounds.{EachBoxHasACellsBound}
use Rattle.cert_check.specs.declared.checker.CheckFault.{CheckFault}
use Rattle.cert_check.specs.declared.checker.CheckFault.TheVariants as fault
use Rattle.cert_check.specs.declared.text.TextFault.TheVariants as refusal
use Rattle.cert_check.specs.Trees.{Part, part_of, IsTree, leaf, split, left_of, right_of, IsCut, whole}
use Rattle.cert_check.specs.Acceptance.{HasBound, IsGreatestBound, IsAccepted}
use Rattle.cert_check.specs.Faults.{AllHold, Reaches, root, in_left, in_right, line_at, HasPartFault, bad_cut, bad_leaf}
use Rattle.cert_check.specs.Faults.{AreClaimed, IsFirstOver, HasCheckFault, outputs as other_outputs, tree, claimed}
use Rattle.cert_check.specs.TextFaults.{of_text, of_cert}
use Rattle.cert_check.specs.Laws.{BoundedTreesAreAccepted, EachCertIsJudged, EachCertTextIsJudged}
use Rattle.cert_check.proofs.FaultLemmas.{left_count, right_count}
use Rattle.cert_check.proofs.TreeLemmas.{IsBox-halves, whole_is, one_of, All-tail, listed, some_leaf}
use Rattle.cert_check.proofs.JudgedLeaves.{part_judged}

-- ---- a tree with a Bound at each leaf is accepted

module _ (b : Block) (h o : ℕ) (x : Output) where
  abbrev IsBounded : Part → Type 0
  IsBounded p = (n : ℕ) × HasBound b o x h p n

  -- the greatest of their Bounds
  greatest : (p : Part) (ps : List Part) → All IsBounded (p ∷ ps) → (e : ℕ) × IsGreatestBound b o x h (p ∷ ps) e
  greatest p [] all =
      let first = all 0 p (omega arith) in (
        first.0,
        record {
          each = one_of (λ q. (n : ℕ) × HasBound b o x h q n × (n ≤ first.0)) p (first.0, first.1, omega arith);
          some = (0, p, omega arith, refl, first.1);
        },
      )
  greatest p (q ∷ ps) all =
      let first = all 0 p (omega arith) in
      let rest = greatest q ps (All-tail IsBounded p (q ∷ ps) all) in
      elim (cases_lt rest.0 first.0) [
        | inl above ↦ (
          first.0,
          record {
            each = each first.0 first.0 rest.0 first.1 (omega arith) rest.1 (omega (arith, above));
            some = (0, p, omega arith, refl, first.1);
          },
        )
        | inr below ↦
            let there = rest.1.some in
            let within = there.2 in (
              rest.0,
              record {
                each = each rest.0 first.0 rest.0 first.1 below rest.1 (omega arith);
                some = (suc there.0, there.1, omega (arith, within), there.3, there.4);
              },
            )
      ]
    where
      each : (e n m : ℕ) → HasBound b o x h p n → n ≤ e → IsGreatestBound b o x h (q ∷ ps) m → m ≤ e
          → All (λ r. (k : ℕ) × HasBound b o x h r k × (k ≤ e)) (p ∷ (q ∷ ps))
      each e n m first few rest up zero d l = (n, first, few)
      each e n m first few rest up (suc k) d l =
          let r = rest.each k d (omega (arith, l)) in
          let le = r.2 in
          (r.0, r.1, omega (arith, le, up))

  of_some : (ps : List Part) → 0 < length ps → All IsBounded ps → (e : ℕ) × IsGreatestBound b o x h ps e
  of_some [] some all = absurd (omega (arith, some))
  of_some (p ∷ ps) some all = greatest p ps all

pub bounded_accepted : BoundedTreesAreAccepted
bounded_accepted b h nodes parts is_tree bounds =
    let found = listed (λ j x e. IsGreatestBound b (j + 1) x h parts e) b.outputs (λ j x at.
    let back : j ≡ j + 1 - 1 = omega arith in
    of_some b h (j + 1) x parts (some_leaf (whole b) nodes parts [] is_tree)
    (bounds (j + 1) x (omega arith) (subst (λ k. slice_get b.outputs k ≡ Some x) back at))) in (
      found.0,
      record {
        claims_count = found.1;
        errors_count = found.1;
        parts = parts;
        tree = is_tree;
        greatest = λ o x e from ex ee.
            let same : o - 1 + 1 ≡ o = omega (arith, from) in
            subst (λ k. IsGreatestBound b k x h parts e) same (found.2 (o - 1) x e ex ee);
        claimed = λ k e c ee ec. (let same : e ≡ c = cc in omega (arith, same));
      },
    )

-- ---- errors and claims

over_or : (es cs : List ℕ) → AreClaimed es cs ⊎ ((k : ℕ) × IsFirstOver es cs k)
over_or [] cs = inl (λ k e c ee ec. absurd (let z : ⊥ = cc in z))
over_or (e ∷ es) [] = inl (λ k f c ee ec. absurd (let z : ⊥ = cc in z))
over_or (e ∷ es) (c ∷ cs) = elim (cases_lt c e) [
  | inl above ↦ inr (
    0,
    record {
      error = e;
      claim = c;
      error_is = refl;
      claim_is = refl;
      over = above;
      before = λ j f d less. absurd (omega (arith, less));
    },
  )
  | inr few ↦ elim (over_or es cs) [
    | inl all ↦ inl (all_of few all)
    | inr (k, first) ↦ inr (
      suc k,
      record {
        error = first.error;
        claim = first.claim;
        error_is = first.error_is;
        claim_is = first.claim_is;
        over = first.over;
        before = before few k first;
      },
    )
  ]
]
  where
    all_of : e ≤ c → AreClaimed es cs → AreClaimed (e ∷ es) (c ∷ cs)
    all_of few all zero f d ef ed =
        let same : e ≡ f = cc in let alike : c ≡ d = cc in omega (arith, few, same, alike)
    all_of few all (suc k) f d ef ed = all k f d ef ed

    before : e ≤ c → (k : ℕ) → IsFirstOver es cs k → (j f d : ℕ) → j < suc k → slice_get (e ∷ es) j ≡ Some f
        → slice_get (c ∷ cs) j ≡ Some d → f ≤ d
    before few k first zero f d less ef ed =
        let same : e ≡ f = cc in let alike : c ≡ d = cc in omega (arith, few, same, alike)
    before few k first (suc j) f d less ef ed = first.before j f d (omega (arith, less)) ef ed

-- ---- node by node

module _ (b : Block) (h : ℕ) (kind : CertKind) (valid : IsValid b) (hh : 1 ≤ h) (leaves : EachLeafIsJudged)
    (errors : TermErrorsAre) (tight : EachBoxHasATightCount) (cells : EachBoxHasACellsBound) where
  abbrev IsGoodNode : Node → Type 0
  IsGoodNode = IsNode kind (length b.outputs)

  -- a leaf that holds, with a Bound for each output
  record IsGood (p : Part) : Type 0 where
    holds : AllHold b h p
    bounds : (o : ℕ) (x : Output) → 1 ≤ o → output_at b o ≡ Some x → (n : ℕ) × HasBound b o x h p n

  -- nodes begin with a tree of such leaves, or in their tree one is the first at fault
  record IsWalked (n : ℕ) (box : List Interval) (nodes : List Node) : Type 0 where
    parts : List Part
    mid : List Node
    is_tree : IsTree box nodes parts mid
    good : All IsGood parts
    opens : open_from n mid ≡ Some 0
    good_nodes : All IsGoodNode mid
    shorter : length mid < length nodes

  data IsFaulty (box : List Interval) : List Node → Type 0 where
    of_cut : (i c : ℕ) (rest : List Node) → (IsCut (i - 1) c box → ⊥) → IsFaulty box (Split i c ∷ rest)
    of_leaf : (stated : LeafLine) (rest : List Node)
        → ((line : ℕ) → (f : CheckFault) × HasPartFault b h (part_of box stated) line f) → IsFaulty box (Leaf stated ∷ rest)

  record HasFailed (box : List Interval) (nodes : List Node) : Type 0 where
    found : List Interval
    rest : List Node
    reached : Reaches b h box nodes found rest
    faulty : IsFaulty found rest

  abbrev Walks : ℕ → Type 0
  Walks room =
      (n : ℕ) (box : List Interval) (nodes : List Node) → length nodes ≤ room → open_from (suc n) nodes ≡ Some 0
      → All IsGoodNode nodes → IsBoxOf b box → IsWalked n box nodes ⊎ HasFailed box nodes

  leaf_walked : (n : ℕ) (box : List Interval) (stated : LeafLine) (nodes : List Node)
      → open_from n nodes ≡ Some 0 → All IsGoodNode (Leaf stated ∷ nodes) → IsBoxOf b box
      → IsWalked n box (Leaf stated ∷ nodes) ⊎ HasFailed box (Leaf stated ∷ nodes)
  leaf_walked n box stated nodes opens all is =
      elim (part_judged b h kind (part_of box stated) valid is hh (all 0 (Leaf stated) (omega arith)) leaves errors tight
      cells) [
        | inl (holds, bounds) ↦ inl (record {
          parts = part_of box stated ∷ [];
          mid = nodes;
          is_tree = leaf box stated nodes;
          good = one_of IsGood (part_of box stated) (record {
            holds = holds;
            bounds = λ o x from ex.
                let l = slice_get_within b.outputs (o - 1) x ex in bounds o x from (omega (arith, from, l)) ex;
          });
          opens = opens;
          good_nodes = All-tail IsGoodNode (Leaf stated) nodes all;
          shorter = omega arith;
        })
        | inr faulty ↦ inr (record {
          found = box;
          rest = Leaf stated ∷ nodes;
          reached = root box (Leaf stated ∷ nodes);
          faulty = of_leaf stated nodes faulty;
        })
      ]

  abbrev half : (side : ℕ → ℕ → List Interval → List Interval) → Type 0
  half side = (k c : ℕ) (box : List Interval) → IsBoxOf b box → IsCut k c box → IsBoxOf b (side k c box)

  left_half : half left_of
  left_half k c box is cut =
      record { count = left_count k c box ∙ is.count; intervals = (IsBox-halves k c box is.intervals cut).0 }

  right_half : half right_of
  right_half k c box is cut =
      record { count = right_count k c box ∙ is.count; intervals = (IsBox-halves k c box is.intervals cut).1 }

  cut_or : (k c : ℕ) (box : List Interval) → IsCut k c box ⊎ (IsCut k c box → ⊥)
  cut_or k c [] = inr (λ cut. cut)
  cut_or zero c (v ∷ vs) = elim (cases_lt v.from c) [
    | inr low ↦ inr (λ cut. (let from = cut.0 in omega (arith, low, from)))
    | inl from ↦ elim (cases_lt v.to c) [
      | inl high ↦ inr (λ cut. (let to = cut.1 in omega (arith, high, to)))
      | inr to ↦ inl (from, to)
    ]
  ]
  cut_or (suc k) c (v ∷ vs) = cut_or k c vs

  split_walked : (room : ℕ) → Walks room → (n i c : ℕ) (box : List Interval) (nodes : List Node)
      → length nodes ≤ room → open_from (suc (suc n)) nodes ≡ Some 0 → All IsGoodNode (Split i c ∷ nodes)
      → IsBoxOf b box → IsWalked n box (Split i c ∷ nodes) ⊎ HasFailed box (Split i c ∷ nodes)
  split_walked room walks n i c box nodes few opens all is = elim (cut_or (i - 1) c box) [
    | inr none ↦ inr (record {
      found = box;
      rest = Split i c ∷ nodes;
      reached = root box (Split i c ∷ nodes);
      faulty = of_cut i c nodes none;
    })
    | inl cut ↦ elim (walks (suc n) (left_of (i - 1) c box) nodes few opens (All-tail IsGoodNode (Split i c) nodes all)
        (left_half (i - 1) c box is cut)) [
          | inr failed ↦ inr (record {
            found = failed.found;
            rest = failed.rest;
            reached = in_left box i c nodes failed.found failed.rest from cut failed.reached;
            faulty = failed.faulty;
          })
          | inl lower ↦ behind cut lower
        ]
  ]
    where
      from : 1 ≤ i
      from = (all 0 (Split i c) (omega arith)).some

      behind : IsCut (i - 1) c box → IsWalked (suc n) (left_of (i - 1) c box) nodes
          → IsWalked n box (Split i c ∷ nodes) ⊎ HasFailed box (Split i c ∷ nodes)
      behind cut lower =
          let shorter = lower.shorter in
          elim (walks n (right_of (i - 1) c box) lower.mid (omega (arith, shorter, few)) lower.opens lower.good_nodes
          (right_half (i - 1) c box is cut)) [
            | inr failed ↦ inr (record {
              found = failed.found;
              rest = failed.rest;
              reached = in_right box i c nodes lower.mid lower.parts failed.found failed.rest from cut lower.is_tree
                  (λ k d l. (lower.good k d l).holds) failed.reached;
              faulty = failed.faulty;
            })
            | inl upper ↦
                let shorter_still = upper.shorter in
                inl (record {
                  parts = lower.parts ++ upper.parts;
                  mid = upper.mid;
                  is_tree = split box i c nodes lower.mid upper.mid lower.parts upper.parts from cut lower.is_tree
                      upper.is_tree;
                  good = All-append IsGood lower.parts upper.parts lower.good upper.good;
                  opens = upper.opens;
                  good_nodes = upper.good_nodes;
                  shorter = omega (arith, shorter, shorter_still);
                })
          ]

  walk : (room : ℕ) → Walks room
  walk room n box [] few opens all is = absurd (let z : ⊥ = cc in z)
  walk zero n box (node ∷ nodes) few opens all is = absurd (omega (arith, few))
  walk (suc room) n box (Split i c ∷ nodes) few opens all is =
      split_walked room (walk room) n i c box nodes (omega (arith, few)) opens all is
  walk (suc room) n box (Leaf stated ∷ nodes) few opens all is = leaf_walked n box stated nodes opens all is

  -- ---- the whole tree

  none_left : (nodes : List Node) → open_from 0 nodes ≡ Some 0 → nodes ≡ []
  none_left [] e = refl
  none_left (node ∷ nodes) e = absurd (let z : ⊥ = cc in z)

  abbrev IsJudged : Cert → Type 0
  IsJudged cert =
      ((errors : List ℕ) × IsAccepted b h cert errors) ⊎ ((f : CheckFault) × HasCheckFault b h cert f)

  failed : (cert : Cert) → length cert.claims ≡ length b.outputs → HasFailed (whole b) cert.nodes → IsJudged cert
  failed cert count f = by_node f.rest f.reached f.faulty
    where
      by_node : (rest : List Node) → Reaches b h (whole b) cert.nodes f.found rest → IsFaulty f.found rest → IsJudged cert
      by_node _ reached (of_cut i c rest none) = inr (
        fault.BadCut (line_at cert.nodes (Split i c ∷ rest)),
        tree (fault.BadCut (line_at cert.nodes (Split i c ∷ rest))) count (bad_cut f.found i c rest reached none),
      )
      by_node _ reached (of_leaf stated rest has) =
          let line = line_at cert.nodes (Leaf stated ∷ rest) in
          inr ((has line).0, tree (has line).0 count (bad_leaf f.found stated rest (has line).0 reached (has line).1))

  walked : (cert : Cert) → length cert.claims ≡ length b.outputs → IsWalked 0 (whole b) cert.nodes → IsJudged cert
  walked cert count w =
      let is_tree : IsTree (whole b) cert.nodes w.parts [] =
      subst (IsTree (whole b) cert.nodes w.parts) (none_left w.mid w.opens) w.is_tree in
      let a = bounded_accepted b h cert.nodes w.parts is_tree (λ o x from ex k d l. (w.good k d l).bounds o x from ex) in
      elim (over_or a.0 cert.claims) [
        | inl few ↦ inl (
          a.0,
          record {
            claims_count = count;
            errors_count = a.1.errors_count;
            parts = a.1.parts;
            tree = a.1.tree;
            greatest = a.1.greatest;
            claimed = few;
          },
        )
        | inr (k, first) ↦ inr (fault.Claimed (k + 1) first.claim first.error, claimed a.0 k first count a.1)
      ]

  judged : (cert : Cert) → IsCert kind cert → IsJudged cert
  judged cert good = elim (cases_eq (length cert.claims) (length b.outputs)) [
    | inr other ↦ inr (fault.Outputs (length cert.claims) (length b.outputs), other_outputs other)
    | inl count ↦
        elim (walk (length cert.nodes) 0 (whole b) cert.nodes (omega arith) good.tree
        (subst (λ width. All (IsNode kind width) cert.nodes) count good.nodes) (whole_is b)) [
          | inl w ↦ walked cert count w
          | inr f ↦ failed cert count f
        ]
  ]

pub certs_judged : EachLeafIsJudged → TermErrorsAre → EachBoxHasATightCount → EachBoxHasACellsBound → EachCertIsJudged
certs_judged leaves errors tight cells b h kind cert valid hh good =
    judged b h kind valid hh leaves errors tight cells cert good

pub texts_judged : EachTextIsJudged → EachCertIsJudged → EachCertTextIsJudged
texts_judged texts certs b h format text valid hh = elim (texts format text) [
  | inr (f, has) ↦ (Err (refusal.Text f), of_text f has)
  | inl (cert, spelled) ↦ elim (certs b h format.kind cert valid hh spelled.good) [
    | inl (errors, accepted) ↦ (Ok errors, record { cert = cert; spelled = spelled; accepted = accepted })
    | inr (f, has) ↦ (Err (refusal.Check f), of_cert cert f spelled has)
  ]
]
