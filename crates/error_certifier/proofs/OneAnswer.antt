-- Halving has one answer.
use Rattle.std.proofs.Common.{◌≡◌, ⊎_elim, inl, inr, ℕ, zero, suc, ◌+◌, ◌-◌, ◌<◌, ◌≤◌, max, List, [], ◌∷◌, ◌++◌}
use Rattle.std.proofs.Common.{length, map, Some, Result, Ok, Err, refl, sym, ap, ap₂, ◌∙◌, subst, arith}
use Rattle.std.proofs.lemmas.Bool.{cases_lt}
use Rattle.std.specs.Prelude.{◌⊎◌, slice_get}
use Rattle.arrayvec.specs.ArrayVec.{ArrayVec}
use Rattle.fz_list.proofs.Algebra.{some_at}
use Rattle.fuzzy_meaning.specs.{declared.block.Output.Output, declared.block.Block.Block}
use Rattle.fuzzy_meaning.specs.Blocks.{IsValid, output_at}
use Rattle.error_bound.specs.{BestLeaves.of_leaf, BestLeaves.BestLeavesAreOne, declared.boxes.Interval.Interval}
use Rattle.error_bound.specs.{Tight.of_bound, Boxes.IsBoxOf}
use Rattle.box_tree.specs.declared.cert.CertKind.TheVariants.{Named, Tight}
use Rattle.box_tree.specs.declared.cert.Node.TheVariants.{Split, Leaf}
use Rattle.box_tree.specs.{declared.cert.CertKind.CertKind, declared.cert.LeafLine.LeafLine, declared.cert.Node.Node}
use Rattle.box_tree.specs.declared.cert.Cert.{Cert}
use Rattle.cell_bounds.specs.CellBounds.{IsBefore, IsCellCount, IsCellWithin, IsFirstCellAbove, CellCountsAreOne}
use Rattle.cell_bounds.specs.{CellBounds.of_none, CellBounds.of_bound as of_cell_bound, Cells.cell_of}
use Rattle.cell_bounds.specs.Claims.{IsBoxCount, BoxCountsAreOne}
use Rattle.cert_check.specs.{Trees.whole, Trees.left_of, Trees.right_of, Trees.IsTree, Laws.ErrorsAreDetermined}
use Rattle.cert_check.specs.{BoxLaws.CutsHaveHalves, Acceptance.IsAccepted}
use Rattle.cell_bounds.specs.CellBounds.{number_of}
use Rattle.cert_check.proofs.Algebra.{IfSome-at, whole_is}
use Rattle.error_certifier.specs.Halving.{IsFirstAbove, IsAbove, AreWithinTarget, IsTightWithin, AreCellsWithin}
use Rattle.error_certifier.specs.Halving.{halving, outputs}
use Rattle.error_certifier.specs.Halving.{IsSettled, IsStuck, IsToCut, Halves, leaf, split, Stops, cell, limit}
use Rattle.error_certifier.specs.{declared.certifier.NotReached.TheVariants.Cell, Halving.in_left, Halving.in_right}
use Rattle.error_certifier.specs.{declared.certifier.NotReached.NotReached, Laws.AnswersForTargetsAreOne}
use Rattle.error_certifier.proofs.BoxLemmas.{same_items, left_box, right_box, one_halving, cell_bytes}
use Rattle.error_certifier.proofs.BoxLemmas.{cell_not_halved}
use Rattle.error_bound.specs.declared.boxes.Leaf as the
use Rattle.box_tree.specs.declared.cert.LeafLine.TheVariants as leaf_line

abbrev lows : List Interval → List ℕ
lows box = map (λ (v : Interval). v.from) box

same_vector : {X : Type 0} (xs ys : ArrayVec X) → xs.items ≡ ys.items → xs ≡ ys
same_vector {X} xs ys e = let vec : List X → ArrayVec X = λ (is : List X). record { items = is } in ap vec e

same_cell : (xs ys : ArrayVec ℕ) (o p n m : ℕ) → xs.items ≡ ys.items → o ≡ p → n ≡ m → Cell xs o n ≡ Cell ys p m
same_cell xs ys o p n m e f g =
    let same = same_vector xs ys e in
    cc

-- ---- of two lists of bytes one is before the other

ordered : (ms ns : List ℕ) → length ms ≡ length ns → (ms ≡ ns) ⊎ (IsBefore ms ns ⊎ IsBefore ns ms)
ordered [] [] e = inl refl
ordered [] (n ∷ ns) e = absurd (omega (arith, e))
ordered (m ∷ ms) [] e = absurd (omega (arith, e))
ordered (m ∷ ms) (n ∷ ns) e = ⊎_elim
    (λ (l : m < n). inr (inl (inl l)))
    (λ (l : n ≤ m). ⊎_elim
    (λ (g : n < m). inr (inr (inl g)))
    (λ (g : m ≤ n).
    let same : m ≡ n = omega arith in
    ⊎_elim
    (λ (f : ms ≡ ns). inl (ap₂ (λ (x : ℕ) (xs : List ℕ). x ∷ xs) same f))
    (λ (f : IsBefore ms ns ⊎ IsBefore ns ms). ⊎_elim
    (λ (p : IsBefore ms ns). inr (inl (inr (same, p))))
    (λ (p : IsBefore ns ms). inr (inr (inr (sym same, p))))
    f)
    (ordered ms ns (omega (arith, e))))
    (cases_lt n m))
    (cases_lt m n)

module _ (best_one : BestLeavesAreOne) (counts_one : BoxCountsAreOne) (cells_one : CellCountsAreOne) (kind : CertKind)
    (b : Block) (h : ℕ) (targets : List ℕ) (valid : IsValid b) where
  -- ---- one first output above its target

  not_before : (box : List Interval) (k j n m : ℕ) → IsBoxOf b box → IsFirstAbove kind b h targets box k n
      → IsFirstAbove kind b h targets box j m → k < j → ⊥
  not_before box k j n m is p q l =
      let other = q.before k p.output l p.output_is in
      let e = counts_one kind b box (k + 1) p.output h n other.0 valid is.count p.bound other.1 in
      let above = p.above in
      let within = other.2 in
      absurd (omega arith)

  same_place : (box : List Interval) (k n m : ℕ) → IsBoxOf b box → IsFirstAbove kind b h targets box k n
      → IsFirstAbove kind b h targets box k m → n ≡ m
  same_place box k n m is p q =
      let p_is = p.output_is in
      let q_is = q.output_is in
      let same : q.output ≡ p.output = cc in
      let moved : IsBoxCount kind b box (k + 1) p.output h m =
      subst (λ (x : Output). IsBoxCount kind b box (k + 1) x h m) same q.bound in
      counts_one kind b box (k + 1) p.output h n m valid is.count p.bound moved

  one_above : (box : List Interval) (k j n m : ℕ) → IsBoxOf b box → IsFirstAbove kind b h targets box k n
      → IsFirstAbove kind b h targets box j m → (k ≡ j) × (n ≡ m)
  one_above box k j n m is p q = ⊎_elim
      (λ (l : k < j). absurd (not_before box k j n m is p q l))
      (λ (l : j ≤ k). ⊎_elim
      (λ (g : j < k). absurd (not_before box j k m n is q p g))
      (λ (g : k ≤ j).
      let e : k ≡ j = omega arith in
      (e, same_place box k n m is p (subst (λ i. IsFirstAbove kind b h targets box i m) (sym e) q)))
      (cases_lt j k))
      (cases_lt k j)

-- ---- of the named kind

module _ (best_one : BestLeavesAreOne) (counts_one : BoxCountsAreOne) (cells_one : CellCountsAreOne) (b : Block)
    (h : ℕ) (targets : List ℕ) (valid : IsValid b) where
  pairs_not_above : (box : List Interval) (pairs : List (ℕ × ℕ)) → IsBoxOf b box
      → AreWithinTarget b h targets box pairs → IsAbove Named b h targets box → ⊥
  pairs_not_above box pairs is w (k, n, a) =
      let here = w.each k a.output a.output_is in
      let leaf = here.3 in
      let count : IsBoxCount Named b box (k + 1) a.output h here.1 =
      of_leaf (record { rule = here.0.0; k = here.0.1 }) here.1 leaf.best leaf.bound in
      let e = counts_one Named b box (k + 1) a.output h n here.1 valid is.count a.bound count in
      let above = a.above in
      let within = leaf.within in
      absurd (omega arith)

  one_pair : (p q : ℕ × ℕ) → (let l : the.Leaf = record { rule = p.0; k = p.1 } in l) ≡ record { rule = q.0; k = q.1 }
      → p ≡ q
  one_pair p q e = ap (λ (l : the.Leaf). (l.rule, l.k)) e

  one_list : (box : List Interval) (ps qs : List (ℕ × ℕ)) → AreWithinTarget b h targets box ps
      → AreWithinTarget b h targets box qs → ps ≡ qs
  one_list box ps qs p q =
      let p_count = p.count in
      let q_count = q.count in
      same_items ps qs (p.count ∙ sym q.count) (λ k l.
      let x = some_at b.outputs k (omega arith) in
      let left = p.each k x.0 x.1 in
      let right = q.each k x.0 x.1 in
      let first : the.Leaf = record { rule = left.0.0; k = left.0.1 } in
      let second : the.Leaf = record { rule = right.0.0; k = right.0.1 } in
      let best = best_one b box (k + 1) (Some first) (Some second) left.3.best right.3.best in
      let same : first ≡ second = cc in
      left.2 ∙ ap (λ (r : ℕ × ℕ). Some r) (one_pair left.0 right.0 same) ∙ sym right.2)

  -- ---- of the tight kind

  tight_not_above : (box : List Interval) → IsBoxOf b box → IsTightWithin b h targets box
      → IsAbove Tight b h targets box → ⊥
  tight_not_above box is w (k, n, a) =
      let here = w k a.output a.output_is in
      let e = counts_one Tight b box (k + 1) a.output h n here.0 valid is.count a.bound (of_bound here.1) in
      let above = a.above in
      let within = here.2 in
      absurd (omega arith)

  -- a count above the output's target is that of no cell within it
  not_within : (bytes : List ℕ) (o : ℕ) (x : Output) (n : ℕ) → IsCellCount b (cell_of bytes) o x h n
      → number_of targets o < n → IsCellWithin b bytes o x h (number_of targets o) → ⊥
  not_within bytes o x n (of_cell_bound bound small) above (m, has, within) =
      let least = bound.least m has in
      absurd (omega arith)
  not_within bytes o x n (of_none none is) above (m, has, within) = none m has

  abbrev IsFirst : List Interval → List ℕ → ℕ → ℕ → Type 0
  IsFirst box bytes o n = IsFirstCellAbove b h targets 1 (length b.outputs) box bytes o n

  -- the output of a number
  output_of : (o : ℕ) → 1 ≤ o → o ≤ length b.outputs → (x : Output) × (output_at b o ≡ Some x)
  output_of o from to = some_at b.outputs (o - 1) (omega arith)

  cells_not_above : (box : List Interval) → AreCellsWithin b h targets box → (bytes : List ℕ) (o n : ℕ)
      → IsFirst box bytes o n → ⊥
  cells_not_above box w bytes o n a =
      let from = a.from in
      let x = output_of o a.from a.to in
      let number : o - 1 + 1 ≡ o = omega arith in
      let here = w (o - 1) x.0 x.1 in
      let cells = here.1.within bytes a.inside in
      let within : IsCellWithin b bytes (o - 1 + 1) x.0 h (number_of targets o) =
      (cells.0, cells.1, below cells.2 here.2) in
      not_within bytes o x.0 n (IfSome-at (λ y. IsCellCount b (cell_of bytes) o y h n) x.1 a.count) a.above
      (subst (λ j. IsCellWithin b bytes j x.0 h (number_of targets o)) number within)
    where
      below : {p q r : ℕ} → p ≤ q → q ≤ r → p ≤ r
      below p q = omega arith

  cell_not_before : (box : List Interval) (ms ns : List ℕ) (o p n m : ℕ) → IsFirst box ms o n → IsFirst box ns p m
      → IsBefore ms ns → ⊥
  cell_not_before box ms ns o p n m a c l =
      let x = output_of o a.from a.to in
      not_within ms o x.0 n (IfSome-at (λ y. IsCellCount b (cell_of ms) o y h n) x.1 a.count) a.above
      (IfSome-at (λ y. IsCellWithin b ms o y h (number_of targets o)) x.1 (c.cells_before ms a.inside l o a.from a.to))

  output_not_before : (box : List Interval) (bytes : List ℕ) (o p n m : ℕ) → IsFirst box bytes o n
      → IsFirst box bytes p m → o < p → ⊥
  output_not_before box bytes o p n m a c l =
      let x = output_of o a.from a.to in
      not_within bytes o x.0 n (IfSome-at (λ y. IsCellCount b (cell_of bytes) o y h n) x.1 a.count) a.above
      (IfSome-at (λ y. IsCellWithin b bytes o y h (number_of targets o)) x.1 (c.outputs_before o a.from l))

  one_output : (box : List Interval) (bytes : List ℕ) (o p n m : ℕ) → IsFirst box bytes o n → IsFirst box bytes p m
      → (o ≡ p) × (n ≡ m)
  one_output box bytes o p n m a c = ⊎_elim
      (λ (l : o < p). absurd (output_not_before box bytes o p n m a c l))
      (λ (l : p ≤ o). ⊎_elim
      (λ (g : p < o). absurd (output_not_before box bytes p o m n c a g))
      (λ (g : o ≤ p).
      let e : o ≡ p = omega arith in
      let x = output_of o a.from a.to in
      let moved : IsFirst box bytes o m = subst (λ j. IsFirst box bytes j m) (sym e) c in (
        e,
        cells_one b (cell_of bytes) o x.0 h n m
            (IfSome-at (λ y. IsCellCount b (cell_of bytes) o y h n) x.1 a.count)
            (IfSome-at (λ y. IsCellCount b (cell_of bytes) o y h m) x.1 moved.count),
      ))
      (cases_lt p o))
      (cases_lt o p)

  one_cell_above : (box : List Interval) (ms ns : List ℕ) (o p n m : ℕ) → IsFirst box ms o n → IsFirst box ns p m
      → (ms ≡ ns) × (o ≡ p) × (n ≡ m)
  one_cell_above box ms ns o p n m a c = ⊎_elim
      (λ (e : ms ≡ ns).
      let moved : IsFirst box ms p m = subst (λ (ls : List ℕ). IsFirst box ls p m) (sym e) c in
      let both = one_output box ms o p n m a moved in
      (e, both.0, both.1))
      (λ (f : IsBefore ms ns ⊎ IsBefore ns ms). ⊎_elim
      (λ (l : IsBefore ms ns). absurd (cell_not_before box ms ns o p n m a c l))
      (λ (l : IsBefore ns ms). absurd (cell_not_before box ns ms p o m n c a l))
      f)
      (ordered ms ns (a.inside.count ∙ sym c.inside.count))

  -- ---- a box is a leaf that states one thing, stuck at one cell, or cut

  one_line : (kind : CertKind) (box : List Interval) (f g : LeafLine) → IsBoxOf b box
      → IsSettled kind b h targets box f → IsSettled kind b h targets box g → f ≡ g
  one_line Named box (leaf_line.Pairs ps) (leaf_line.Pairs qs) is w v =
      ap (λ (p : ArrayVec (ℕ × ℕ)). leaf_line.Pairs p) (same_vector ps qs (one_list box ps.items qs.items w v))
  one_line Named box (leaf_line.Pairs ps) leaf_line.Tight is w v = absurd v
  one_line Named box (leaf_line.Pairs ps) leaf_line.Cells is w v = absurd v
  one_line Named box leaf_line.Tight g is w v = absurd w
  one_line Named box leaf_line.Cells g is w v = absurd w
  one_line Tight box (leaf_line.Pairs ps) g is w v = absurd w
  one_line Tight box leaf_line.Tight (leaf_line.Pairs qs) is w v = absurd v
  one_line Tight box leaf_line.Tight leaf_line.Tight is w v = refl
  one_line Tight box leaf_line.Tight leaf_line.Cells is w v = absurd (tight_not_above box is w v.0)
  one_line Tight box leaf_line.Cells (leaf_line.Pairs qs) is w v = absurd v
  one_line Tight box leaf_line.Cells leaf_line.Tight is w v = absurd (tight_not_above box is v w.0)
  one_line Tight box leaf_line.Cells leaf_line.Cells is w v = refl

  settled_not_cut : (kind : CertKind) (box : List Interval) (f : LeafLine) (k c : ℕ) → IsBoxOf b box
      → IsSettled kind b h targets box f → IsToCut kind b h targets box k c → ⊥
  settled_not_cut Named box (leaf_line.Pairs ps) k c is w cut = pairs_not_above box ps.items is w cut.above
  settled_not_cut Named box leaf_line.Tight k c is w cut = w
  settled_not_cut Named box leaf_line.Cells k c is w cut = w
  settled_not_cut Tight box (leaf_line.Pairs ps) k c is w cut = w
  settled_not_cut Tight box leaf_line.Tight k c is w cut = tight_not_above box is w cut.above
  settled_not_cut Tight box leaf_line.Cells k c is w cut =
      let few = w.1 in
      let many = cut.large in
      absurd (omega arith)

  settled_not_stuck : (kind : CertKind) (box : List Interval) (f : LeafLine) (bytes : List ℕ) (o n : ℕ) → IsBoxOf b box
      → IsSettled kind b h targets box f → IsStuck kind b h targets box bytes o n → ⊥
  settled_not_stuck Named box (leaf_line.Pairs ps) bytes o n is w (single, k, number, a) =
      pairs_not_above box ps.items is w (k, n, a)
  settled_not_stuck Named box leaf_line.Tight bytes o n is w stuck = w
  settled_not_stuck Named box leaf_line.Cells bytes o n is w stuck = w
  settled_not_stuck Tight box (leaf_line.Pairs ps) bytes o n is w stuck = w
  settled_not_stuck Tight box leaf_line.Tight bytes o n is w stuck = tight_not_above box is w stuck.0
  settled_not_stuck Tight box leaf_line.Cells bytes o n is w stuck = cells_not_above box w.2 bytes o n stuck.2

  stuck_not_cut : (kind : CertKind) (box : List Interval) (bytes : List ℕ) (o n k c : ℕ)
      → IsStuck kind b h targets box bytes o n → IsToCut kind b h targets box k c → ⊥
  stuck_not_cut Named box bytes o n k c stuck cut = cell_not_halved box bytes k c stuck.0 cut.halved
  stuck_not_cut Tight box bytes o n k c stuck cut =
      let few = stuck.1 in
      let many = cut.large in
      absurd (omega arith)

  one_stuck : (kind : CertKind) (box : List Interval) (ms ns : List ℕ) (o p n m : ℕ) → IsBoxOf b box
      → IsStuck kind b h targets box ms o n → IsStuck kind b h targets box ns p m → (ms ≡ ns) × (o ≡ p) × (n ≡ m)
  one_stuck Named box ms ns o p n m is (single, k, number, a) (also, j, other, c) =
      let same = one_above best_one counts_one cells_one Named b h targets valid box k j n m is a c in (
        sym (cell_bytes ms) ∙ ap lows (sym single ∙ also) ∙ cell_bytes ns,
        number ∙ ap (λ i. i + 1) same.0 ∙ sym other,
        same.1,
      )
  one_stuck Tight box ms ns o p n m is s t = one_cell_above box ms ns o p n m s.2 t.2

  -- ---- one tree, or one stop

  same_left : (box other : List Interval) (k j c d : ℕ) → box ≡ other → k ≡ j → c ≡ d
      → left_of k c box ≡ left_of j d other
  same_left box other k j c d e f g = cc

  same_right : (box other : List Interval) (k j c d : ℕ) → box ≡ other → k ≡ j → c ≡ d
      → right_of k c box ≡ right_of j d other
  same_right box other k j c d e f g = cc

  same_split : (k j c d : ℕ) (ls ks rs ts : List Node) → k ≡ j → c ≡ d → ls ≡ ks → rs ≡ ts
      → Split (k + 1) c ∷ (ls ++ rs) ≡ Split (j + 1) d ∷ (ks ++ ts)
  same_split k j c d ls ks rs ts e f g i = cc

  module _ (cuts : CutsHaveHalves) (kind : CertKind) where
    moved_settled : (box other : List Interval) (f : LeafLine) → box ≡ other → IsSettled kind b h targets other f
        → IsSettled kind b h targets box f
    moved_settled box other f e w = subst (λ (x : List Interval). IsSettled kind b h targets x f) (sym e) w

    moved_stuck : (box other : List Interval) (bytes : List ℕ) (o n : ℕ) → box ≡ other
        → IsStuck kind b h targets other bytes o n → IsStuck kind b h targets box bytes o n
    moved_stuck box other bytes o n e s = subst (λ (x : List Interval). IsStuck kind b h targets x bytes o n) (sym e) s

    moved_cut : (box other : List Interval) (k c : ℕ) → box ≡ other → IsToCut kind b h targets other k c
        → IsToCut kind b h targets box k c
    moved_cut box other k c e cut = subst (λ (x : List Interval). IsToCut kind b h targets x k c) (sym e) cut

    -- two boxes that are one and are cut are cut at one place
    one_cut : (box other : List Interval) (k j c d : ℕ) → box ≡ other → IsToCut kind b h targets box k c
        → IsToCut kind b h targets other j d → (k ≡ j) × (c ≡ d)
    one_cut box other k j c d e p q = one_halving box k j c d p.halved (moved_cut box other j d e q).halved

    one_tree : (box other : List Interval) (n o m r : ℕ) (ns ks : List Node) → IsBoxOf b box
        → Halves kind b h targets box n ns m
        → Halves kind b h targets other o ks r
        → box ≡ other → n ≡ o → (ns ≡ ks) × (m ≡ r)
    one_tree _ _ _ _ _ _ _ _ is (leaf box n p w few) (leaf other o q v also) e f =
        let same = one_line kind box p q is w (moved_settled box other q e v) in
        (ap (λ (x : LeafLine). let y : List Node = Leaf x ∷ [] in y) same, ap (λ x. x + 1) f)
    one_tree _ _ _ _ _ _ _ _ is (leaf box n p w few) (split other j d o m' r' left right cut l t) e f =
        absurd (settled_not_cut kind box p j d is w (moved_cut box other j d e cut))
    one_tree _ _ _ _ _ _ _ _ is (split box k c n m r left right cut l t) (leaf other o q v few) e f =
        absurd (settled_not_cut kind box q k c is (moved_settled box other q e v) cut)
    one_tree _ _ _ _ _ _ _ _ is (split box k c n m r left right cut l t)
        (split other j d o m' r' left' right' cut' l' t') e f =
        let same = one_cut box other k j c d e cut cut' in
        let lower = one_tree (left_of k c box) (left_of j d other) n o m m' left left'
        (left_box cuts b box k c cut.halved is) l l'
        (same_left box other k j c d e same.0 same.1) f in
        let upper = one_tree (right_of k c box) (right_of j d other) m m' r r' right right'
        (right_box cuts b box k c cut.halved is) t t' (same_right box other k j c d e same.0 same.1) lower.1 in
        (same_split k j c d left left' right right' same.0 same.1 lower.0 upper.0, upper.1)

    no_stop : (box other : List Interval) (n o m : ℕ) (ns : List Node) (s : NotReached) → IsBoxOf b box
        → Halves kind b h targets box n ns m → Stops kind b h targets other o s
        → box ≡ other → n ≡ o → ⊥
    no_stop _ _ _ _ _ _ _ is (leaf box n p w few) (cell other o bytes out up stuck) e f =
        settled_not_stuck kind box p bytes.items out up is w (moved_stuck box other bytes.items out up e stuck)
    no_stop _ _ _ _ _ _ _ is (leaf box n p w few) (limit other o g v many) e f = absurd (omega arith)
    no_stop _ _ _ _ _ _ _ is (leaf box n p w few) (in_left other j d o s cut stop) e f =
        settled_not_cut kind box p j d is w (moved_cut box other j d e cut)
    no_stop _ _ _ _ _ _ _ is (leaf box n p w few) (in_right other j d o m' left s cut l stop) e f =
        settled_not_cut kind box p j d is w (moved_cut box other j d e cut)
    no_stop _ _ _ _ _ _ _ is (split box k c n m r left right cut l t) (cell other o bytes out up stuck) e f =
        stuck_not_cut kind box bytes.items out up k c (moved_stuck box other bytes.items out up e stuck) cut
    no_stop _ _ _ _ _ _ _ is (split box k c n m r left right cut l t) (limit other o g v many) e f =
        settled_not_cut kind box g k c is (moved_settled box other g e v) cut
    no_stop _ _ _ _ _ _ _ is (split box k c n m r left right cut l t) (in_left other j d o s cut' stop) e f =
        let same = one_cut box other k j c d e cut cut' in
        no_stop (left_of k c box) (left_of j d other) n o m left s (left_box cuts b box k c cut.halved is) l stop
        (same_left box other k j c d e same.0 same.1) f
    no_stop _ _ _ _ _ _ _ is (split box k c n m r left right cut l t)
        (in_right other j d o m' left' s cut' l' stop) e f =
        let same = one_cut box other k j c d e cut cut' in
        let lower = one_tree (left_of k c box) (left_of j d other) n o m m' left left'
        (left_box cuts b box k c cut.halved is) l l'
        (same_left box other k j c d e same.0 same.1) f in
        no_stop (right_of k c box) (right_of j d other) m m' r right s (right_box cuts b box k c cut.halved is) t stop
        (same_right box other k j c d e same.0 same.1) lower.1

    one_stop : (box other : List Interval) (n o : ℕ) (s t : NotReached) → IsBoxOf b box
        → Stops kind b h targets box n s → Stops kind b h targets other o t → box ≡ other → n ≡ o → s ≡ t
    one_stop _ _ _ _ _ _ is (cell box n bytes out up stuck) (cell other o bytes' out' up' stuck') e f =
        let same = one_stuck kind box bytes.items bytes'.items out out' up up' is stuck
        (moved_stuck box other bytes'.items out' up' e stuck') in
        same_cell bytes bytes' out out' up up' same.0 same.1 same.2
    one_stop _ _ _ _ _ _ is (cell box n bytes out up stuck) (limit other o g v many) e f =
        absurd (settled_not_stuck kind box g bytes.items out up is (moved_settled box other g e v) stuck)
    one_stop _ _ _ _ _ _ is (cell box n bytes out up stuck) (in_left other j d o t cut stop) e f =
        absurd (stuck_not_cut kind box bytes.items out up j d stuck (moved_cut box other j d e cut))
    one_stop _ _ _ _ _ _ is (cell box n bytes out up stuck) (in_right other j d o m left t cut l stop) e f =
        absurd (stuck_not_cut kind box bytes.items out up j d stuck (moved_cut box other j d e cut))
    one_stop _ _ _ _ _ _ is (limit box n g w many) (cell other o bytes out up stuck) e f =
        absurd (settled_not_stuck kind box g bytes.items out up is w (moved_stuck box other bytes.items out up e stuck))
    one_stop _ _ _ _ _ _ is (limit box n g w many) (limit other o i v more) e f = refl
    one_stop _ _ _ _ _ _ is (limit box n g w many) (in_left other j d o t cut stop) e f =
        absurd (settled_not_cut kind box g j d is w (moved_cut box other j d e cut))
    one_stop _ _ _ _ _ _ is (limit box n g w many) (in_right other j d o m left t cut l stop) e f =
        absurd (settled_not_cut kind box g j d is w (moved_cut box other j d e cut))
    one_stop _ _ _ _ _ _ is (in_left box k c n s cut stop) (cell other o bytes out up stuck) e f =
        absurd (stuck_not_cut kind box bytes.items out up k c (moved_stuck box other bytes.items out up e stuck) cut)
    one_stop _ _ _ _ _ _ is (in_left box k c n s cut stop) (limit other o g v many) e f =
        absurd (settled_not_cut kind box g k c is (moved_settled box other g e v) cut)
    one_stop _ _ _ _ _ _ is (in_left box k c n s cut stop) (in_left other j d o t cut' stop') e f =
        let same = one_cut box other k j c d e cut cut' in
        one_stop (left_of k c box) (left_of j d other) n o s t (left_box cuts b box k c cut.halved is) stop stop'
        (same_left box other k j c d e same.0 same.1) f
    one_stop _ _ _ _ _ _ is (in_left box k c n s cut stop) (in_right other j d o m left t cut' l stop') e f =
        let same = one_cut box other k j c d e cut cut' in
        let left_is = same_left box other k j c d e same.0 same.1 in
        absurd (no_stop (left_of j d other) (left_of k c box) o n m left s
        (subst (IsBoxOf b) left_is (left_box cuts b box k c cut.halved is)) l stop (sym left_is) (sym f))
    one_stop _ _ _ _ _ _ is (in_right box k c n m left s cut l stop) (cell other o bytes out up stuck) e f =
        absurd (stuck_not_cut kind box bytes.items out up k c (moved_stuck box other bytes.items out up e stuck) cut)
    one_stop _ _ _ _ _ _ is (in_right box k c n m left s cut l stop) (limit other o g v many) e f =
        absurd (settled_not_cut kind box g k c is (moved_settled box other g e v) cut)
    one_stop _ _ _ _ _ _ is (in_right box k c n m left s cut l stop) (in_left other j d o t cut' stop') e f =
        let same = one_cut box other k j c d e cut cut' in
        absurd (no_stop (left_of k c box) (left_of j d other) n o m left t (left_box cuts b box k c cut.halved is) l
        stop' (same_left box other k j c d e same.0 same.1) f)
    one_stop _ _ _ _ _ _ is (in_right box k c n m left s cut l stop)
        (in_right other j d o m' left' t cut' l' stop') e f =
        let same = one_cut box other k j c d e cut cut' in
        let lower = one_tree (left_of k c box) (left_of j d other) n o m m' left left'
        (left_box cuts b box k c cut.halved is) l l'
        (same_left box other k j c d e same.0 same.1) f in
        one_stop (right_of k c box) (right_of j d other) m m' s t (right_box cuts b box k c cut.halved is) stop stop'
        (same_right box other k j c d e same.0 same.1) lower.1

-- ---- one list of claims

-- of each two the greater
abbrev greater_of : List ℕ → List ℕ → List ℕ
greater_of [] ys = []
greater_of (x ∷ xs) [] = []
greater_of (x ∷ xs) (y ∷ ys) = max x y ∷ greater_of xs ys

length-greater : (xs ys : List ℕ) → length xs ≡ length ys → length (greater_of xs ys) ≡ length xs
length-greater [] ys e = refl
length-greater (x ∷ xs) [] e = absurd (omega (arith, e))
length-greater (x ∷ xs) (y ∷ ys) e = ap suc (length-greater xs ys (omega (arith, e)))

left_at_most : (xs ys : List ℕ) (k x m : ℕ) → slice_get xs k ≡ Some x → slice_get (greater_of xs ys) k ≡ Some m → x ≤ m
left_at_most [] ys k x m e f = absurd (let z : ⊥ = cc in z)
left_at_most (x ∷ xs) [] k y m e f = absurd (let z : ⊥ = cc in z)
left_at_most (x ∷ xs) (y ∷ ys) zero z m e f = let a : x ≡ z = cc in let c : max x y ≡ m = cc in omega arith
left_at_most (x ∷ xs) (y ∷ ys) (suc k) z m e f = left_at_most xs ys k z m e f

right_at_most : (xs ys : List ℕ) (k y m : ℕ) → slice_get ys k ≡ Some y → slice_get (greater_of xs ys) k ≡ Some m → y ≤ m
right_at_most [] ys k y m e f = absurd (let z : ⊥ = cc in z)
right_at_most (x ∷ xs) [] k y m e f = absurd (let z : ⊥ = cc in z)
right_at_most (x ∷ xs) (y ∷ ys) zero z m e f = let a : y ≡ z = cc in let c : max x y ≡ m = cc in omega arith
right_at_most (x ∷ xs) (y ∷ ys) (suc k) z m e f = right_at_most xs ys k z m e f

-- accepted with other claims, none below its errors
claiming : (b : Block) (h : ℕ) (es cs : List ℕ) (ns ks : List Node) → ns ≡ ks
    → IsAccepted b h (record { claims = es; nodes = ns }) es
    → length cs ≡ length b.outputs → ((k e c : ℕ) → slice_get es k ≡ Some e → slice_get cs k ≡ Some c → e ≤ c)
    → IsAccepted b h (record { claims = cs; nodes = ks }) es
claiming b h es cs ns ks e a count most = record {
  claims_count = count;
  errors_count = a.errors_count;
  parts = a.parts;
  tree = subst (λ (xs : List Node). IsTree (whole b) xs a.parts []) e a.tree;
  greatest = a.greatest;
  claimed = most;
}

one_claims : ErrorsAreDetermined → (b : Block) (h : ℕ) (es fs : List ℕ) (ns ks : List Node) → IsValid b → ns ≡ ks
    → IsAccepted b h (record { claims = es; nodes = ns }) es
    → IsAccepted b h (record { claims = fs; nodes = ks }) fs → es ≡ fs
one_claims errors_one b h es fs ns ks valid e p q =
    let cs = greater_of es fs in
    let count : length cs ≡ length b.outputs = length-greater es fs (p.errors_count ∙ sym q.errors_count)
    ∙ p.errors_count in
    errors_one b h (record { claims = cs; nodes = ks }) es fs valid
    (claiming b h es cs ns ks e p count (left_at_most es fs))
    (claiming b h fs cs ks ks refl q count (right_at_most es fs))

pub one_answer : ErrorsAreDetermined → BestLeavesAreOne → BoxCountsAreOne → CellCountsAreOne → CutsHaveHalves
    → AnswersForTargetsAreOne
one_answer errors_one best_one counts_one cells_one cuts kind b h targets (Ok p) (Ok q) valid x y =
    let nodes =
    (one_tree best_one counts_one cells_one b h targets valid cuts kind (whole b) (whole b) 0 0 x.leaves y.leaves
    p.nodes q.nodes (whole_is b) x.nodes y.nodes refl refl).0 in
    let claims = one_claims errors_one b h p.claims q.claims p.nodes q.nodes valid nodes x.claims y.claims in
    let same : p ≡ q = ap₂ (λ (cs : List ℕ) (ns : List Node). let c : Cert = record { claims = cs; nodes = ns } in c)
    claims nodes in
    ap (λ (c : Cert). let r : Result Cert NotReached = Ok c in r) same
one_answer errors_one best_one counts_one cells_one cuts kind b h targets (Ok p) (Err t) valid x (halving _ count y) =
    absurd (no_stop best_one counts_one cells_one b h targets valid cuts kind (whole b) (whole b) 0 0 x.leaves p.nodes t
    (whole_is b) x.nodes y refl refl)
one_answer errors_one best_one counts_one cells_one cuts kind b h targets (Ok p) (Err _) valid x (outputs other) =
    absurd (other x.targets_are.count)
one_answer errors_one best_one counts_one cells_one cuts kind b h targets (Err _) (Ok q) valid (outputs other) y =
    absurd (other y.targets_are.count)
one_answer errors_one best_one counts_one cells_one cuts kind b h targets (Err s) (Ok q) valid (halving _ count x) y =
    absurd (no_stop best_one counts_one cells_one b h targets valid cuts kind (whole b) (whole b) 0 0 y.leaves q.nodes s
    (whole_is b) y.nodes x refl refl)
one_answer errors_one best_one counts_one cells_one cuts kind b h targets (Err _) (Err _) valid (outputs _) (outputs _) =
    refl
one_answer errors_one best_one counts_one cells_one cuts kind b h targets (Err _) (Err t) valid (outputs other)
    (halving _ count y) = absurd (other count)
one_answer errors_one best_one counts_one cells_one cuts kind b h targets (Err s) (Err _) valid (halving _ count x)
    (outputs other) = absurd (other count)
one_answer errors_one best_one counts_one cells_one cuts kind b h targets (Err s) (Err t) valid (halving _ count x)
    (halving _ same_count y) =
    let same = one_stop best_one counts_one cells_one b h targets valid cuts kind (whole b) (whole b) 0 0 s t
    (whole_is b) x y refl refl in
    ap (λ (n : NotReached). let r : Result Cert NotReached = Err n in r) same
