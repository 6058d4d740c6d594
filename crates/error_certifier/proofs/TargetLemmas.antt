-- The certificate of a halving is a good one, within its targets.
use Rattle.std.proofs.Common.{◌≡◌, ℕ, ◌+◌, ◌-◌, ◌≤◌, List, [], ◌∷◌, ◌++◌, length, get_or}
use Rattle.std.proofs.Common.{Some, refl, sym, ap, ◌∙◌, subst, arith}
use Rattle.std.proofs.Common.{append_assoc}
use Rattle.std.proofs.lemmas.List.{append-nil}
use Rattle.std.specs.Prelude.{slice_index, slice_get, All}
use Rattle.std.specs.List.{AllByRecursion}
use Rattle.std.specs.Option.{option_map}
use Rattle.std.proofs.lemmas.Option.{slice_get_within, slice_get-get_or}
use Rattle.std.proofs.lemmas.List.Elements.{All-append, All-from_recursion, recursion_from_All}
use Rattle.fz_list.proofs.Algebra.{All-cons, some_at}
use Rattle.fuzzy_meaning.specs.declared.{block.Block.Block, block.Output.Output}
use Rattle.fuzzy_meaning.specs.Blocks.{IsValid}
use Rattle.error_bound.specs.{declared.boxes.Interval.Interval, Boxes.IsBoxOf}
use Rattle.error_bound.specs.{Leaves.Holds, Leaves.strong, Leaves.silent}
use Rattle.box_tree.specs.declared.{cert.CertKind.CertKind, cert.LeafLine.LeafLine, cert.Node.Node, cert.Cert.Cert}
use Rattle.box_tree.specs.declared.cert.CertKind.TheVariants.{Named, Tight}
use Rattle.box_tree.specs.declared.cert.Node.TheVariants.{Split, Leaf}
use Rattle.box_tree.specs.{Certificates.IsNode, Certificates.IsLeaf, Certificates.IsPair, Certificates.IsCert}
use Rattle.box_tree.specs.Laws.{OpenBoxesGoOn}
use Rattle.cell_bounds.specs.{declared.claims.Claim.Claim, Claims.HasClaimBound, Claims.ClaimBoundsAreOne}
use Rattle.cert_check.specs.{Trees.Part, Trees.IsTree, Trees.leaf, Trees.split, Trees.whole, Trees.left_of}
use Rattle.cert_check.specs.{Trees.right_of, BoxLaws.CutsHaveHalves}
use Rattle.cert_check.specs.Acceptance.{IsAccepted, IsGreatestBound, claim_at}
use Rattle.cert_check.proofs.Algebra.{whole_is}
use Rattle.error_certifier.specs.Halving.{Halves, leaf as halved_leaf, split as halved_split, IsHalvingFor, IsSettled}
use Rattle.error_certifier.specs.Laws.{AreWithin}
use Rattle.error_certifier.proofs.BoxLemmas.{left_box, right_box, split_node, middle_inside}
use Rattle.error_certifier.proofs.CertLemmas.{halved_open, halved_leaves}
use Rattle.error_bound.specs.declared.boxes.Leaf as the
use Rattle.box_tree.specs.declared.cert.LeafLine.TheVariants as leaf_line
use Rattle.cell_bounds.specs.declared.claims.Claim.TheVariants as claim

-- ---- leaves

pair_held : (b : Block) (box : List Interval) (o : ℕ) (l : the.Leaf) → IsValid b → Holds b box o l
    → IsPair (l.rule, l.k)
pair_held b box o l valid (strong r from some small at is) =
    let within = slice_get_within b.rules (l.rule - 1) r at in
    let few = valid.few_rules in
    record { rule = omega arith; part = small; both = (λ z. absurd (omega arith), λ z. absurd (omega arith)) }
pair_held b box o l valid (silent rule k still) =
    record { rule = omega arith; part = omega arith; both = (λ z. k, λ z. rule) }

-- what a line of pairs says at a place
claim_of : (pairs : List (ℕ × ℕ)) (k : ℕ) (p : ℕ × ℕ) (c : Claim) → slice_get pairs k ≡ Some p
    → option_map (λ (q : ℕ × ℕ). claim.Pair (record { rule = q.0; k = q.1 })) (slice_get pairs k) ≡ Some c
    → c ≡ claim.Pair (record { rule = p.0; k = p.1 })
claim_of pairs k p c at is =
    let said : Some (claim.Pair (record { rule = p.0; k = p.1 })) ≡ Some c =
    sym (ap (option_map (λ (q : ℕ × ℕ). claim.Pair (record { rule = q.0; k = q.1 }))) at) ∙ is in
    cc

-- what a leaf on a box says of each output, with its Bounds
abbrev HasBounds : Block → ℕ → Part → Type 0
HasBounds b h p = (k : ℕ) (x : Output) → slice_get b.outputs k ≡ Some x
    → (c : Claim) × (n : ℕ) × (claim_at p.stated k ≡ Some c) × HasClaimBound b p.box (k + 1) x h c n

leaf_good : (kind : CertKind) (b : Block) (h : ℕ) (targets : List ℕ) (box : List Interval) (f : LeafLine) → IsValid b
    → IsSettled kind b h targets box f → HasBounds b h (record { box = box; stated = f })
    → IsLeaf kind (length b.outputs) f
leaf_good Named b h targets box (leaf_line.Pairs pairs) valid settled bounds = (
  settled.count,
  λ k d l.
      let count = settled.count in
      let p = get_or pairs.items k d in
      let x = some_at b.outputs k (omega (arith, l, count)) in
      let said = bounds k x.0 x.1 in
      let same = claim_of pairs.items k p said.0 (slice_get-get_or pairs.items k d l) said.2 in
      let named : HasClaimBound b box (k + 1) x.0 h (claim.Pair (record { rule = p.0; k = p.1 })) said.1 =
      subst (λ (c : Claim). HasClaimBound b box (k + 1) x.0 h c said.1) same said.3 in
      pair_held b box (k + 1) (record { rule = p.0; k = p.1 }) valid named.0,
)
leaf_good Named b h targets box leaf_line.Tight valid settled bounds = absurd settled
leaf_good Named b h targets box leaf_line.Cells valid settled bounds = absurd settled
leaf_good Tight b h targets box (leaf_line.Pairs pairs) valid settled bounds = absurd settled
leaf_good Tight b h targets box leaf_line.Tight valid settled bounds = tt
leaf_good Tight b h targets box leaf_line.Cells valid settled bounds = tt

module _ (one : ClaimBoundsAreOne) (b : Block) (h : ℕ) (targets : List ℕ) (valid : IsValid b) where
  -- of one claim
  one_within : (box : List Interval) (o : ℕ) (x : Output) (c d : Claim) (n e target : ℕ)
      → length box ≡ length b.inputs → HasClaimBound b box o x h c n → n ≤ target → HasClaimBound b box o x h d e
      → d ≡ c → e ≤ target
  one_within box o x c d n e target count has within other same =
      let again = one b box o x h c n e valid count has
      (subst (λ (y : Claim). HasClaimBound b box o x h y e) same other) in
      omega (arith, again, within)

  -- the Bound of what a settled leaf says
  leaf_within : (kind : CertKind) (box : List Interval) (f : LeafLine) → IsBoxOf b box
      → IsSettled kind b h targets box f
      → (k : ℕ) (x : Output) → slice_get b.outputs k ≡ Some x → (c : Claim) (e : ℕ) → claim_at f k ≡ Some c
      → HasClaimBound b box (k + 1) x h c e → e ≤ slice_index targets k
  leaf_within Named box (leaf_line.Pairs pairs) is settled k x out c e at has =
      let best = settled.each k x out in
      let leaf_is : the.Leaf = record { rule = best.0.0; k = best.0.1 } in
      let same = claim_of pairs.items k best.0 c best.2 at in
      let here : HasClaimBound b box (k + 1) x h (claim.Pair leaf_is) e =
      subst (λ (y : Claim). HasClaimBound b box (k + 1) x h y e) same has in
      let again = one b box (k + 1) x h (claim.Pair leaf_is) best.1 e valid is.count (here.0, best.3.bound) here in
      omega (arith, again, best.3.within)
  leaf_within Named box leaf_line.Tight is settled k x out c e at has = absurd settled
  leaf_within Named box leaf_line.Cells is settled k x out c e at has = absurd settled
  leaf_within Tight box (leaf_line.Pairs pairs) is settled k x out c e at has = absurd settled
  leaf_within Tight box leaf_line.Tight is settled k x out c e at has =
      let best = settled k x out in
      let same : c ≡ claim.Tight = cc in
      one_within box (k + 1) x claim.Tight c best.0 e (slice_index targets k) is.count best.1 best.2 has same
  leaf_within Tight box leaf_line.Cells is settled k x out c e at has =
      let best = settled.2 k x out in
      let same : c ≡ claim.Cells = cc in
      one_within box (k + 1) x claim.Cells c best.0 e (slice_index targets k) is.count best.1 best.2 has same

-- ---- the nodes of a halving and the leaves of its tree

front : {X : Type 0} (P : X → Type 0) (xs ys : List X) → AllByRecursion P (xs ++ ys) → AllByRecursion P xs
front P [] ys all = tt
front P (x ∷ xs) ys all = (all.0, front P xs ys all.1)

back : {X : Type 0} (P : X → Type 0) (xs ys : List X) → AllByRecursion P (xs ++ ys) → AllByRecursion P ys
back P [] ys all = all
back P (x ∷ xs) ys all = back P xs ys all.1

module _ (cuts : CutsHaveHalves) (kind : CertKind) (b : Block) (h : ℕ) (targets : List ℕ) (valid : IsValid b) where
  abbrev IsGood : Part → Type 0
  IsGood p = IsBoxOf b p.box × IsSettled kind b h targets p.box p.stated

  abbrev IsGoodNode : Node → Type 0
  IsGoodNode = IsNode kind (length b.outputs)

  abbrev AreGood : List Part → List Node → List Node → List Node → Type 0
  AreGood parts rest more nodes = All IsGood parts × (rest ≡ more) × All IsGoodNode nodes

  told : (box around : List Interval) (n m : ℕ) (nodes all more rest : List Node) (parts : List Part)
      → Halves kind b h targets box n nodes m → IsTree around all parts rest → around ≡ box → all ≡ nodes ++ more
      → IsBoxOf b box → AllByRecursion (HasBounds b h) parts
      → AreGood parts rest more nodes
  told _ _ _ _ _ _ more _ _ (halved_leaf box n f settled few) (leaf around g rest) same nodes is bounds =
      let line_is : g ≡ f = cc in
      let rest_is : rest ≡ more = cc in
      let there : IsSettled kind b h targets around g =
      subst (λ (y : List Interval). IsSettled kind b h targets y g) (sym same)
      (subst (λ (y : LeafLine). IsSettled kind b h targets box y) (sym line_is) settled) in
      let good : IsLeaf kind (length b.outputs) f =
      subst (λ (y : LeafLine). IsLeaf kind (length b.outputs) y) line_is
      (leaf_good kind b h targets around g valid there bounds.0) in (
        All-from_recursion IsGood (record { box = around; stated = g } ∷ [])
            ((subst (IsBoxOf b) (sym same) is, there), tt),
        rest_is,
        All-from_recursion IsGoodNode (Leaf f ∷ []) (good, tt),
      )
  told _ _ _ _ _ _ more _ _ (halved_leaf box n f settled few) (split around i c nodes mid rest ps qs from cut l r) same
      are is bounds = absurd (let z : ⊥ = cc in z)
  told _ _ _ _ _ _ more _ _ (halved_split box k c n m r left right cut l t) (leaf around g rest) same are is bounds =
      absurd (let z : ⊥ = cc in z)
  told _ _ _ _ _ _ more _ _ (halved_split box k c n m r left right cut l t)
      (split around i d nodes mid rest ps qs from other u v) same are is bounds =
      let input : i ≡ k + 1 = cc in
      let place : i - 1 ≡ k = omega (arith, input) in
      let cut_is : d ≡ c = cc in
      let behind : nodes ≡ (left ++ right) ++ more = cc in
      let lower : left_of (i - 1) d around ≡ left_of k c box = cc in
      let upper : right_of (i - 1) d around ≡ right_of k c box = cc in
      let at = cut.halved in
      let top = (is.intervals.some k at.interval at.is_at).1 in
      let inside = (middle_inside at.interval.from at.interval.to at.more).1 in
      let byte : c ≤ 255 = omega (arith, top, inside, at.middle) in
      let first = told (left_of k c box) (left_of (i - 1) d around) n m left nodes (right ++ more) mid ps l u lower
      (behind ∙ append_assoc left right more) (left_box cuts b box k c at is)
      (front (HasBounds b h) ps qs bounds) in
      let second = told (right_of k c box) (right_of (i - 1) d around) m r right mid more rest qs t v upper first.1
      (right_box cuts b box k c at is) (back (HasBounds b h) ps qs bounds) in (
        All-append IsGood ps qs first.0 second.0,
        second.1,
        All-cons IsGoodNode (Split (k + 1) c) (left ++ right)
            (split_node kind b box k c valid.few_inputs is at byte)
            (All-append IsGoodNode left right first.2 second.2),
      )

-- ---- the certificate

module _ (cuts : CutsHaveHalves) (one : ClaimBoundsAreOne) (open_on : OpenBoxesGoOn)
    (kind : CertKind) (b : Block) (h : ℕ) (targets : List ℕ) (cert : Cert) (valid : IsValid b) (is : IsHalvingFor kind b h targets cert)
  where
    accepted : IsAccepted b h cert cert.claims
    accepted = is.claims

    -- the claim at an output's place
    error_at : (k : ℕ) (x : Output) → slice_get b.outputs k ≡ Some x
        → (e : ℕ) × IsGreatestBound b (k + 1) x h accepted.parts e × (slice_get cert.claims k ≡ Some e)
    error_at k x out =
        let count = accepted.claims_count in
        let place : k + 1 - 1 ≡ k = omega arith in
        let e = some_at cert.claims k (omega (arith, slice_get_within b.outputs k x out, count)) in (
          e.0,
          accepted.greatest (k + 1) x e.0 (omega arith) (subst (λ j. slice_get b.outputs j ≡ Some x) (sym place) out)
              (subst (λ j. slice_get cert.claims j ≡ Some e.0) (sym place) e.1),
          e.1,
        )

    bounds : All (HasBounds b h) accepted.parts
    bounds i d l k x out =
        let bound_is = (error_at k x out).1.each i d l in
        let has = bound_is.1 in
        let place : k + 1 - 1 ≡ k = omega arith in (
          has.claim,
          bound_is.0,
          subst (λ j. claim_at (get_or accepted.parts i d).stated j ≡ Some has.claim) place has.claim_is,
          has.bound_is,
        )

    all : AreGood cuts kind b h targets valid accepted.parts [] [] cert.nodes
    all = told cuts kind b h targets valid (whole b) (whole b) 0 is.leaves cert.nodes cert.nodes [] [] accepted.parts
        is.nodes accepted.tree refl (sym (append-nil cert.nodes)) (whole_is b)
        (recursion_from_All (HasBounds b h) accepted.parts bounds)

    claim_within : (k : ℕ) (x : Output) → slice_get b.outputs k ≡ Some x
        → (e : ℕ) × (slice_get cert.claims k ≡ Some e) × (e ≤ slice_index targets k)
    claim_within k x out =
        let found = error_at k x out in
        let some = found.1.some in
        let at = some.0 in
        let part = some.1 in
        let good : IsGood cuts kind b h targets valid part =
        subst (IsGood cuts kind b h targets valid) some.3 (all.0 at part some.2) in
        let has = some.4 in
        let place : k + 1 - 1 ≡ k = omega arith in
        let within = leaf_within one b h targets valid kind part.box part.stated good.0 good.1 k x out has.claim
        found.0 (subst (λ j. claim_at part.stated j ≡ Some has.claim) place has.claim_is) has.bound_is in
        (found.0, found.2, within)

    claims_within : AreWithin targets cert.claims
    claims_within k e at =
        let count = accepted.claims_count in
        let x = some_at b.outputs k (omega (arith, slice_get_within cert.claims k e at, count)) in
        let found = claim_within k x.0 x.1 in
        let found_is = found.1 in
        let same : found.0 ≡ e = cc in
        omega (arith, same, found.2)

    pub within_targets : IsCert kind cert × AreWithin targets cert.claims
    within_targets =
        let count = accepted.claims_count in
        let some = valid.some_output in
        let few = valid.few_outputs in
        let leaves = halved_leaves kind b h targets (whole b) 0 is.leaves cert.nodes is.nodes in (
          record {
            claims = record {
              some = omega (arith, count, some);
              few = omega (arith, count, few);
              millionths = λ k d l.
                  let w = claims_within k (get_or cert.claims k d) (slice_get-get_or cert.claims k d l) in
                  let top = is.targets_are.millionths k 0
                  (omega (arith, l, accepted.claims_count, is.targets_are.count)) in
                  omega (arith, w, top);
            };
            nodes = subst (λ n. All (IsNode kind n) cert.nodes) (sym count) all.2;
            tree = halved_open open_on kind b h targets (whole b) 0 is.leaves cert.nodes is.nodes 0;
            few_leaves = omega (arith, leaves.0, leaves.1);
          },
          claims_within,
        )
