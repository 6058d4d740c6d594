-- Each block is halved, or halving it stops.
use Rattle.std.proofs.Common.{◌≡◌, ◌⊎◌, inl, inr, ℕ, zero, suc, ◌+◌, ◌-◌, ◌≤◌, ◌≢◌, List, [], ◌∷◌, ◌++◌, length}
use Rattle.std.proofs.Common.{Some, refl, ap, subst, arith}
use Rattle.std.proofs.{lemmas.Bool.cases_lt, lemmas.Bool.cases_eq}
use Rattle.std.proofs.{lemmas.List.append-nil, lemmas.List.Elements.All-append}
use Rattle.std.specs.Prelude.{All, Ok, Err}
use Rattle.std.specs.Option.{option_map}
use Rattle.fuzzy_meaning.specs.{declared.block.Output.Output, declared.block.Block.Block}
use Rattle.fuzzy_meaning.specs.Blocks.{IsValid, output_at}
use Rattle.error_bound.specs.{declared.boxes.Interval.Interval, Boxes.IsBoxOf, BestLeaves.BestLeavesHold}
use Rattle.error_bound.specs.{BestLeaves.BestPartsAreSmall, Best.IsBest, Bounds.IsBound, Tight.IsTightBound}
use Rattle.cell_bounds.specs.CellBounds.{IsCellsBound}
use Rattle.box_tree.specs.declared.{cert.CertKind.CertKind, cert.LeafLine.LeafLine, cert.Node.Node, cert.Cert.Cert}
use Rattle.box_tree.specs.declared.cert.CertKind.TheVariants.{Named, Tight}
use Rattle.box_tree.specs.declared.cert.Node.TheVariants.{Split, Leaf}
use Rattle.box_tree.specs.declared.cert.LeafLine.TheVariants as leaf_line
use Rattle.cell_bounds.specs.{Claims.EachBoxHasACount, CellBounds.EachBoxIsWithinOrAbove}
use Rattle.cell_bounds.specs.declared.claims.Claim.TheVariants as claim
use Rattle.cert_check.specs.Trees.{Part, part_of, IsTree, leaf, left_of, right_of, whole}
use Rattle.cert_check.specs.{Acceptance.HasBound, BoxLaws.CutsHaveHalves, Laws.BoundedTreesAreAccepted, Walks.cuts_of}
use Rattle.error_bound.specs.declared.boxes.Leaf as the
use Rattle.cert_check.proofs.Algebra.{one_of, whole_is}
use Rattle.error_certifier.specs.Halving.{IsSettled, IsToCut, Halves, leaf as halved_leaf, split as halved_split, Stops}
use Rattle.error_certifier.specs.Halving.{cell, limit, in_left, in_right, outputs as other_outputs, halving}
use Rattle.error_certifier.specs.Halving.{IsHalvingFor}
use Rattle.error_certifier.specs.declared.certifier.NotReached.{NotReached}
use Rattle.error_certifier.specs.declared.certifier.NotReached.TheVariants.{Cell, LeafLimit, Memory, Outputs}
use Rattle.error_certifier.specs.{Targets.AreTargets, Laws.EachBlockIsHalved}
use Rattle.error_certifier.proofs.BoxLemmas.{halves_of, left_box, right_box, halves_fewer, split_tree}
use Rattle.error_certifier.proofs.{JudgedBoxes.box_judged}

module _ (kind : CertKind) (b : Block) (h : ℕ) (targets : List ℕ) (valid : IsValid b) (hh : 1 ≤ h)
    (are : AreTargets b targets) where
  -- ---- halving ends

  abbrev IsHalved : List Interval → ℕ → Type 0
  IsHalved box n = (nodes : List Node) × (m : ℕ) × Halves kind b h targets box n nodes m

  abbrev HasStopped : List Interval → ℕ → Type 0
  HasStopped box n = (stop : NotReached) × Stops kind b h targets box n stop × (stop ≢ Memory)

  abbrev IsJudged : List Interval → ℕ → Type 0
  IsJudged box n = IsHalved box n ⊎ HasStopped box n

  module _ (counts : EachBoxHasACount) (cells : EachBoxIsWithinOrAbove) (cuts : CutsHaveHalves) where
    settle : (n : ℕ) (box : List Interval) → IsBoxOf b box
        → ((k c : ℕ) → IsToCut kind b h targets box k c → IsJudged box n) → IsJudged box n
    settle n box is parted = elim (box_judged b h targets valid hh are box is counts cells kind) [
      | inl (f, settled) ↦ elim (cases_lt n 4096) [
        | inl less ↦ inl (Leaf f ∷ [], n + 1, halved_leaf box n f settled less)
        | inr full ↦ inr (LeafLimit, limit box n f settled full, λ e. (let z : ⊥ = cc in z))
      ]
      | inr (inl (bytes, o, m, stuck)) ↦ inr (
        Cell (record { items = bytes }) o m,
        cell box n (record { items = bytes }) o m stuck,
        λ e. (let z : ⊥ = cc in z),
      )
      | inr (inr (k, c, cut)) ↦ parted k c cut
    ]

    abbrev Halves-all : ℕ → Type 0
    Halves-all room = (n : ℕ) (box : List Interval) → cuts_of box ≤ room → IsBoxOf b box → IsJudged box n

    part : (room : ℕ) → Halves-all room → (n : ℕ) (box : List Interval) → cuts_of box ≤ suc room → IsBoxOf b box
        → (k c : ℕ) → IsToCut kind b h targets box k c → IsJudged box n
    part room each n box few is k c cut =
        let fewer = halves_fewer box k c cut.halved in
        let low = fewer.0 in
        let high = fewer.1 in
        elim (each n (left_of k c box) (omega (arith, few, low)) (left_box cuts b box k c cut.halved is)) [
          | inr (stop, stops, other) ↦ inr (stop, in_left box k c n stop cut stops, other)
          | inl (left, m, lower) ↦
              elim (each m (right_of k c box) (omega (arith, few, high)) (right_box cuts b box k c cut.halved is)) [
                | inr (stop, stops, other) ↦ inr (stop, in_right box k c n m left stop cut lower stops, other)
                | inl (right, r, upper) ↦
                    inl (Split (k + 1) c ∷ (left ++ right), r, halved_split box k c n m r left right cut lower upper)
              ]
        ]

    halve : (room : ℕ) → Halves-all room
    halve zero n box few is = settle n box is (λ k c cut. absurd (
        let fewer = halves_fewer box k c cut.halved in let low = fewer.0 in omega (arith, few, low)))
    halve (suc room) n box few is = settle n box is (part room (halve room) n box few is)

  -- ---- a halving has Bounds

  module _ (hold : BestLeavesHold) (small : BestPartsAreSmall) where
    settled_bound : (k : CertKind) (box : List Interval) (f : LeafLine) → IsSettled k b h targets box f → (o : ℕ)
        (x : Output) → 1 ≤ o → output_at b o ≡ Some x → (n : ℕ) × HasBound b o x h (part_of box f) n
    settled_bound Named box (leaf_line.Pairs pairs) settled o x from ex =
        let found = settled.each (o - 1) x ex in
        let p = found.0 in
        let within = found.3 in
        let number : o - 1 + 1 ≡ o = omega (arith, from) in
        let leaf_is : the.Leaf = record { rule = p.0; k = p.1 } in
        let best = subst (λ j. IsBest b box j (Some leaf_is)) number within.best in (
          found.1,
          record {
            claim = claim.Pair leaf_is;
            claim_is =
                ap (option_map (λ (q : ℕ × ℕ). claim.Pair (record { rule = q.0; k = q.1 }))) found.2;
            allowed = tt;
            bound_is = (
              (hold b box o leaf_is (small b box o leaf_is valid best) best).0,
              subst (λ j. IsBound b box j x h leaf_is found.1) number within.bound,
            );
          },
        )
    settled_bound Tight box leaf_line.Tight settled o x from ex =
        let found = settled (o - 1) x ex in
        let number : o - 1 + 1 ≡ o = omega (arith, from) in (
          found.0,
          record {
            claim = claim.Tight;
            claim_is = refl;
            allowed = tt;
            bound_is = subst (λ j. IsTightBound b box j x h found.0) number found.1;
          },
        )
    settled_bound Tight box leaf_line.Cells settled o x from ex =
        let found = settled.2 (o - 1) x ex in
        let number : o - 1 + 1 ≡ o = omega (arith, from) in (
          found.0,
          record {
            claim = claim.Cells;
            claim_is = refl;
            allowed = settled.1;
            bound_is = subst (λ j. IsCellsBound b box j x h found.0) number found.1;
          },
        )
    settled_bound k box f settled o x from ex = absurd settled

    abbrev HasTree : List Interval → List Node → List Node → Type 0
    HasTree box nodes rest =
        (parts : List Part) × IsTree box (nodes ++ rest) parts rest
        × ((o : ℕ) (x : Output) → 1 ≤ o → output_at b o ≡ Some x → All (λ p. (n : ℕ) × HasBound b o x h p n) parts)

    tree_of : CutsHaveHalves → (box : List Interval) (n m : ℕ) (nodes rest : List Node)
        → Halves kind b h targets box n nodes m → HasTree box nodes rest
    tree_of cuts _ _ _ _ rest (halved_leaf box n f settled few) = (
      part_of box f ∷ [],
      leaf box f rest,
      λ o x from ex.
          one_of (λ p. (n : ℕ) × HasBound b o x h p n) (part_of box f) (settled_bound kind box f settled o x from ex),
    )
    tree_of cuts _ _ _ _ rest (halved_split box k c n m r left right cut lower upper) =
        let l = tree_of cuts (left_of k c box) n m left (right ++ rest) lower in
        let u = tree_of cuts (right_of k c box) m r right rest upper in (
          l.0 ++ u.0,
          split_tree box k c left right rest l.0 u.0 (halves_of cuts box k c cut.halved).cut l.1 u.1,
          λ o x from ex.
              All-append (λ p. (n : ℕ) × HasBound b o x h p n) l.0 u.0 (l.2 o x from ex) (u.2 o x from ex),
        )

    halving_of : CutsHaveHalves → BoundedTreesAreAccepted → (nodes : List Node) (m : ℕ)
        → Halves kind b h targets (whole b) 0 nodes m → (cert : Cert) × IsHalvingFor kind b h targets cert
    halving_of cuts accepted nodes m halved =
        let t = tree_of cuts (whole b) 0 m nodes [] halved in
        let tree : IsTree (whole b) nodes t.0 [] = subst (λ ns. IsTree (whole b) ns t.0 []) (append-nil nodes) t.1 in
        let a = accepted b h nodes t.0 tree t.2 in (
          record { claims = a.0; nodes = nodes },
          record { targets_are = are; leaves = m; nodes = halved; claims = a.1 },
        )

pub blocks_halved : EachBoxHasACount → EachBoxIsWithinOrAbove → BestLeavesHold → BestPartsAreSmall → CutsHaveHalves
    → BoundedTreesAreAccepted → EachBlockIsHalved
blocks_halved counts cells hold small cuts accepted kind b h targets valid hh few =
    elim (cases_eq (length targets) (length b.outputs)) [
      | inr other ↦
          (Err (Outputs (length targets) (length b.outputs)), other_outputs other, λ e. (let z : ⊥ = cc in z))
      | inl count ↦
          let are : AreTargets b targets = record { count = count; millionths = few } in
          elim (halve kind b h targets valid hh are counts cells cuts (cuts_of (whole b)) 0 (whole b) (omega arith)
          (whole_is b)) [
            | inl (nodes, m, halved) ↦
                let c = halving_of kind b h targets valid hh are hold small cuts accepted nodes m halved in
                (Ok c.0, c.1, λ e. (let z : ⊥ = cc in z))
            | inr (stop, stops, other) ↦ (Err stop, halving stop count stops, λ e. other (let same : stop ≡ Memory = cc in same))
          ]
    ]
