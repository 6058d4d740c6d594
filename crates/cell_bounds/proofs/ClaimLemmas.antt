-- Laws of claims, by cases.
use Rattle.std.proofs.Common.{◌≡◌, ◌⊎◌, ⊎_elim, ℕ, ◌≤◌, List, length, Option, Some, None, refl, sym, subst, ◌∙◌, arith}
use Rattle.std.proofs.lemmas.Bool.{cases_eq}
use Rattle.fz_num.specs.{declared.dec.Dec.Dec, Fractions.Quotient}
use Rattle.fuzzy_meaning.specs.{declared.block.Output.Output, declared.block.Block.Block, Meaning.answer_after}
use Rattle.fuzzy_meaning.specs.Blocks.{IsValid}
use Rattle.byte_scaling.specs.Cells.{value_in}
use Rattle.point_slope.specs.Bytes.{answer_in}
use Rattle.error_bound.specs.TightLaws.{IsAnsweredWithin, kept, near, TightAnswersAreNear, TightBoundsAreOne}
use Rattle.error_bound.specs.BestLeaves.{IsBestBound, of_leaf, of_none, BestLeavesAreOne, BestBoundsAreLeast}
use Rattle.error_bound.specs.TightLaws.{TightBoundsAreLeast, TightBoundsHoldInside, TightBoundsFallWithParts}
use Rattle.error_bound.specs.{Laws.BoundsAreDetermined, Laws.BoundsFallWithParts, declared.boxes.Interval.Interval}
use Rattle.error_bound.specs.{Tight.of_bound as tight_of_bound, Answers.Follows, Answers.AnswersAreNear}
use Rattle.error_bound.specs.{declared.boxes.Leaf.Leaf, Bounds.IsBound}
use Rattle.cell_bounds.specs.CellBounds.{HasCellBound, of_tight, IsCellCount, of_bound, of_none as no_bound}
use Rattle.cell_bounds.specs.Claims.{ClaimAnswersAreNear, ClaimBoundsAreOne, ClaimBoundsFallWithParts}
use Rattle.cell_bounds.specs.Claims.{TightClaimsAreLeast, CountsAreLeast, BoxCountsAreOne, CountsAreOne}
use Rattle.cell_bounds.specs.declared.claims.Claim.TheVariants.{Pair, Tight, Cells}
use Rattle.cell_bounds.specs.{CellBounds.BoxesOfCellsAnswer, Cells.cell_of}
use Rattle.cell_bounds.proofs.WalkLemmas.{bounds_one, counts_one, box_is, cell_inside, long}
use Rattle.box_tree.specs.declared.cert.CertKind.TheVariants as kind

answered : (x : Output) (leaf : Leaf) (n q q' : ℕ) (p' before after : Quotient)
    → Follows x leaf n q q' p' before after → IsAnsweredWithin x n q q' p' before after
answered x leaf n q q' p' before after f = by_part (cases_eq leaf.k 0)
  where
    by_default : leaf.k ≡ 0 → (d : Option Dec) → x.default ≡ d → IsAnsweredWithin x n q q' p' before after
    by_default z None e = let k = f.kept z e in kept e k.0 k.1
    by_default z (Some d) e = near (f.near (λ _ w. (let y : ⊥ = cc in y)))

    by_part : (leaf.k ≡ 0) ⊎ (leaf.k ≡ 0 → ⊥) → IsAnsweredWithin x n q q' p' before after
    by_part s = ⊎_elim (λ (z : leaf.k ≡ 0). by_default z x.default refl)
        (λ (z : leaf.k ≡ 0 → ⊥). near (f.near (λ e. absurd (z e)))) s

pub claims_near : AnswersAreNear → TightAnswersAreNear → BoxesOfCellsAnswer → ClaimAnswersAreNear
claims_near pairs tight cells b box o x h (Pair leaf) n bytes xs before q on c =
    answered x leaf n q (answer_in h b o bytes q) (value_in h x (answer_in h b o bytes q)) before
    (answer_after b o before xs) (pairs b box o x h leaf n bytes xs before q (record {
      valid = on.valid;
      output_is = on.output_is;
      parts = on.parts;
      cells = on.cells;
      box_is = on.within;
      holds = c.0;
      bound_is = c.1;
    }))
claims_near pairs tight cells b box o x h Tight n bytes xs before q on c =
    tight b box o x h n bytes xs before q (record {
      valid = on.valid;
      output_is = on.output_is;
      parts = on.parts;
      cells = on.cells;
      box_is = on.within;
      bound_is = c;
    })
claims_near pairs tight cells b box o x h Cells n bytes xs before q on c =
    cells b box o x h bytes xs n q before on c.within

pub claims_one : BoundsAreDetermined → TightBoundsAreOne → ClaimBoundsAreOne
claims_one pairs tight b box o x h (Pair leaf) n m valid count p q = pairs b box o x h leaf n m valid count p.1 q.1
claims_one pairs tight b box o x h Tight n m valid count p q =
    tight b box o x h n m valid count (tight_of_bound p) (tight_of_bound q)
claims_one pairs tight b box o x h Cells n m valid count p q = bounds_one b box o x h n m p q

pub claims_parts : BoundsFallWithParts → TightBoundsFallWithParts → ClaimBoundsFallWithParts
claims_parts pairs tight b box o x h (Pair leaf) n valid ex hh none p =
    let f = pairs b box o x h leaf n valid ex hh p.1 in (f.0, (p.0, f.1), f.2)
claims_parts pairs tight b box o x h Tight n valid ex hh none p = tight b box o x h n valid ex hh p
claims_parts pairs tight b box o x h Cells n valid ex hh none p = absurd none

pub claims_tight : TightBoundsAreLeast → TightClaimsAreLeast
claims_tight least b box o x h (Pair leaf) m valid ex hh none p = least b box o x h leaf m valid ex hh p.0 p.1
claims_tight least b box o x h Tight m valid ex hh none p = (m, p, omega arith)
claims_tight least b box o x h Cells m valid ex hh none p = absurd none

-- what a cell's count is at most
count_le : (b : Block) (cell : List Interval) (o : ℕ) (x : Output) (h n m k : ℕ) → IsCellCount b cell o x h n
    → HasCellBound b cell o x h k → k ≤ m → n ≤ m
count_le b cell o x h n m k (of_bound p _) q l = let a = p.least k q in omega arith
count_le b cell o x h n m k (no_bound none is) q l = absurd (none k q)

pub counts_least : BestBoundsAreLeast → TightBoundsAreLeast → TightBoundsHoldInside → CountsAreLeast
counts_least best least inside kind.Named b bytes box o x h (Pair leaf) n m valid ex hh count is lie of_kind p q =
    best b (cell_of bytes) box o x h leaf n m valid ex hh count (cell_inside box bytes lie) (box_is box bytes is lie) p
    q.0 q.1
counts_least best least inside kind.Named b bytes box o x h Tight n m valid ex hh count is lie of_kind p q =
    absurd of_kind
counts_least best least inside kind.Named b bytes box o x h Cells n m valid ex hh count is lie of_kind p q =
    absurd of_kind
counts_least best least inside kind.Tight b bytes box o x h (Pair leaf) n m valid ex hh count is lie of_kind p q =
    let t = least b box o x h leaf m valid ex hh q.0 q.1 in
    let i = inside b (cell_of bytes) box o x h t.0 valid ex hh count (cell_inside box bytes lie)
    (box_is box bytes is lie) t.1 in
    let a = i.2 in
    let c = t.2 in
    count_le b (cell_of bytes) o x h n m i.0 p (of_tight i.1) (omega arith)
counts_least best least inside kind.Tight b bytes box o x h Tight n m valid ex hh count is lie of_kind p q =
    let i = inside b (cell_of bytes) box o x h m valid ex hh count (cell_inside box bytes lie)
    (box_is box bytes is lie) q in
    count_le b (cell_of bytes) o x h n m i.0 p (of_tight i.1) i.2
counts_least best least inside kind.Tight b bytes box o x h Cells n m valid ex hh count is lie of_kind p q =
    let c = q.within bytes lie in count_le b (cell_of bytes) o x h n m c.0 p c.1 c.2

best_counts : BestLeavesAreOne → BoundsAreDetermined
    → (b : Block) (box : List Interval) (o : ℕ) (x : Output) (h n m : ℕ)
    → IsValid b → length box ≡ length b.inputs → IsBestBound b box o x h n → IsBestBound b box o x h m → n ≡ m
best_counts leaves bounds b box o x h _ _ valid count (of_leaf l n p bp) (of_leaf k m q bq) =
    let e : Some l ≡ Some k = leaves b box o (Some l) (Some k) p q in
    let same : k ≡ l = cc in
    bounds b box o x h l n m valid count bp (subst (λ j. IsBound b box o x h j m) same bq)
best_counts leaves bounds b box o x h _ _ valid count (of_leaf l n p bp) (of_none q) =
    absurd (let e = leaves b box o (Some l) None p q in let z : ⊥ = cc in z)
best_counts leaves bounds b box o x h _ _ valid count (of_none p) (of_leaf k m q bq) =
    absurd (let e = leaves b box o None (Some k) p q in let z : ⊥ = cc in z)
best_counts leaves bounds b box o x h _ _ valid count (of_none p) (of_none q) = refl

pub box_counts : BestLeavesAreOne → BoundsAreDetermined → TightBoundsAreOne → BoxCountsAreOne
box_counts leaves bounds tight kind.Named b box o x h n m valid count p q =
    best_counts leaves bounds b box o x h n m valid count p q
box_counts leaves bounds tight kind.Tight b box o x h n m valid count p q = tight b box o x h n m valid count p q

pub cell_counts : BoxCountsAreOne → CountsAreOne
cell_counts boxes kind.Named b bytes o x h n m valid count p q =
    boxes kind.Named b (cell_of bytes) o x h n m valid (sym (long bytes) ∙ count) p q
cell_counts boxes kind.Tight b bytes o x h n m valid count p q = counts_one b (cell_of bytes) o x h n m p q
