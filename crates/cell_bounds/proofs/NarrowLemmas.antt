-- Cells that differ in inputs that don't matter alone have one Bound, so those of the narrowed box stand for all.
use Rattle.std.proofs.Common.{◌≡◌, inl, inr, ℕ, zero, suc, ◌+◌, ◌-◌, ◌<◌, ◌≤◌, Bool, true, false, List}
use Rattle.std.proofs.Common.{[]}
use Rattle.std.proofs.Common.{◌∷◌, length, Option, Some, None, refl, sym, ap, ◌∙◌, subst, arith, ◌⊎◌}
use Rattle.std.proofs.{lemmas.Nat.mul-le}
use Rattle.std.specs.{Prelude.slice_get, Prelude.IfSome, Prelude.if◌then◌else◌, Option.option_map}
use Rattle.fz_list.proofs.Algebra.{All-slice_get}
use Rattle.fuzzy_meaning.specs.{declared.block.Output.Output, declared.block.Block.Block}
use Rattle.fuzzy_meaning.specs.Blocks.{IsValid, IsValidOutput, output_at}
use Rattle.cell_error.specs.Errors.{IsCellError, sure_mass}
use Rattle.point_slope.specs.Bytes.{answer_in}
use Rattle.error_bound.specs.{declared.boxes.Interval.Interval, Boxes.IsBox, Boxes.IsBoxOf, Boxes.LieIn, Laws.IsInside}
use Rattle.error_bound.specs.{MassRanges.ranges, MassRanges.answer_at, MassRanges.rest_of}
use Rattle.error_bound.specs.Matters.{matters, narrowed, narrowed_from, AreAlike, AlikeBoxesHaveOneBound}
use Rattle.error_bound.specs.{Matters.AlikeBoxesHaveOneRange, Matters.AlikeBoxesHaveOneGrade, Tight.byte_high_of}
use Rattle.cell_bounds.specs.{Cells.IsCell, Cells.cell_of, Cells.answer_by}
use Rattle.cell_bounds.specs.CellBounds.{HasCellBound, of_tight, of_error, IsCellWithin, CellsAreWithin, IsBefore}
use Rattle.cell_bounds.specs.CellBounds.{AreSameWhereItMatters, AlikeCellsHaveOneBound, StandForAll, cell_count}
use Rattle.cell_bounds.specs.CellBounds.{NarrowedBoxesStandForAll, NarrowedBoxesHaveFewerCells}
use Rattle.cell_bounds.proofs.CellLemmas.{answer_point}
use Rattle.cell_bounds.proofs.WalkLemmas.{at, long, inside, box_is, cell_inside, lie_around}

-- ---- cells of bytes that are the same where it matters

abbrev interval_of : ℕ → Interval
interval_of n = record { from = n; to = n }

cell_at : (bytes : List ℕ) (k : ℕ) → slice_get (cell_of bytes) k ≡ option_map interval_of (slice_get bytes k)
cell_at [] k = refl
cell_at (n ∷ ns) zero = refl
cell_at (n ∷ ns) (suc k) = cell_at ns k

cell_is : (bytes : List ℕ) → IsCell (cell_of bytes)
cell_is bytes = record { single = λ k v e. let r = at bytes k v e in r.from_is ∙ sym r.to_is }

alike_cells : (b : Block) (box : List Interval) (ms ns : List ℕ) → IsBoxOf b box → LieIn box ms → LieIn box ns
    → AreSameWhereItMatters b box ms ns → AreAlike b box (cell_of ms) (cell_of ns)
alike_cells b box ms ns is lm ln same = record {
  small_is = box_is box ms is.intervals lm;
  other_is = box_is box ns is.intervals ln;
  small_inside = cell_inside box ms lm;
  other_inside = cell_inside box ns ln;
  same = λ i from m. cell_at ms (i - 1) ∙ ap (option_map interval_of) (same i from m) ∙ sym (cell_at ns (i - 1));
}

pub one_bound : AlikeBoxesHaveOneBound → AlikeBoxesHaveOneRange → AlikeBoxesHaveOneGrade → AlikeCellsHaveOneBound
one_bound bounds ranges_one grades b box ms ns o x h n valid ex is lm ln same = by_bound
  where
    alike : AreAlike b box (cell_of ms) (cell_of ns)
    alike = alike_cells b box ms ns is lm ln same

    few : length x.singletons ≤ 15
    few = (All-slice_get IsValidOutput b.outputs (o - 1) x valid.outputs ex).few_terms

    one_range : ranges b (cell_of ms) o x ≡ ranges b (cell_of ns) o x
    one_range = ranges_one b box (cell_of ms) (cell_of ns) o x valid is.count alike

    -- the greatest masses over bytes
    grade : ℕ → ℕ
    grade k = byte_high_of b (cell_of ns) o (k + 1)

    count : (bytes : List ℕ) → LieIn box bytes → length (cell_of bytes) ≡ length b.inputs
    count bytes l = sym (long bytes) ∙ l.count ∙ is.count

    answer_there : (bytes : List ℕ) (before : ℕ) → LieIn (cell_of ns) bytes
        → answer_in h b o bytes before ≡ answer_by grade h x before
    answer_there bytes before l = answer_point b (cell_of ns) bytes (count ns ln) (cell_is ns) l o x grade
        (λ k few. refl) h before ex few

    answer_here : (before : ℕ) → answer_in h b o ms before ≡ answer_by grade h x before
    answer_here before = answer_point b (cell_of ms) ms (count ms lm) (cell_is ms) (inside ms) o x grade
        (λ k few. sym (grades b box (cell_of ms) (cell_of ns) o (k + 1) valid is.count alike)) h before ex few

    by_bound : HasCellBound b (cell_of ms) o x h n → HasCellBound b (cell_of ns) o x h n
    by_bound (of_tight t) = of_tight (bounds b box (cell_of ms) (cell_of ns) o x h n valid is.count alike t)
    by_bound (of_error e) = of_error (record {
      answer = e.answer;
      is_answer = λ bytes before l.
          answer_there bytes before l ∙ sym (answer_here before) ∙ e.is_answer ms before (inside ms);
      sure = λ nc. subst (λ rs. 0 < sure_mass rs) one_range (e.sure nc);
      error = subst (λ rs. IsCellError (answer_at h x e.answer) rs (rest_of x) n) one_range e.error;
    })

-- ---- bytes in a box, interval by interval

abbrev pub Lie : List Interval → List ℕ → Type 0
Lie [] [] = Unit {0}
Lie [] (n ∷ ns) = ⊥
Lie (v ∷ vs) [] = ⊥
Lie (v ∷ vs) (n ∷ ns) = (v.from ≤ n) × (n ≤ v.to) × Lie vs ns

pub to_lie : (vs : List Interval) (ns : List ℕ) → LieIn vs ns → Lie vs ns
to_lie [] [] l = tt
to_lie [] (n ∷ ns) l = absurd (let c = l.count in omega arith)
to_lie (v ∷ vs) [] l = absurd (let c = l.count in omega arith)
to_lie (v ∷ vs) (n ∷ ns) l =
    let w = l.within 0 v n refl refl in
    let c = l.count in (
      w.0,
      w.1,
      to_lie vs ns (record {
        count = omega arith;
        within = λ k u m eu em. l.within (suc k) u m eu em;
      }),
    )

lie_count : (vs : List Interval) (ns : List ℕ) → Lie vs ns → length ns ≡ length vs
lie_count [] [] l = refl
lie_count [] (n ∷ ns) l = absurd l
lie_count (v ∷ vs) [] l = absurd l
lie_count (v ∷ vs) (n ∷ ns) l = ap suc (lie_count vs ns l.2)

lie_within : (vs : List Interval) (ns : List ℕ) → Lie vs ns → (k : ℕ) (v : Interval) (n : ℕ)
    → slice_get vs k ≡ Some v → slice_get ns k ≡ Some n → (v.from ≤ n) × (n ≤ v.to)
lie_within [] ns l k v n e f = absurd (let z : ⊥ = cc in z)
lie_within (u ∷ vs) [] l k v n e f = absurd l
lie_within (u ∷ vs) (m ∷ ns) l zero v n e f =
    let s : u ≡ v = cc in
    let t : m ≡ n = cc in
    let from = ap (λ (i : Interval). i.from) s in
    let to = ap (λ (i : Interval). i.to) s in
    let a = l.0 in
    let c = l.1 in
    (omega arith, omega arith)
lie_within (u ∷ vs) (m ∷ ns) l (suc k) v n e f = lie_within vs ns l.2 k v n e f

pub from_lie : (vs : List Interval) (ns : List ℕ) → Lie vs ns → LieIn vs ns
from_lie vs ns l = record { count = lie_count vs ns l; within = lie_within vs ns l }

-- ---- the narrowed box

module _ (b : Block) (box : List Interval) where
  abbrev low_of : Interval → Interval
  low_of v = record { from = v.from; to = v.from }

  -- the bytes in it that stand for others
  abbrev standing : ℕ → List Interval → List ℕ → List ℕ
  standing i [] ms = []
  standing i (v ∷ vs) [] = []
  standing i (v ∷ vs) (m ∷ ms) = (if matters b box i then m else v.from) ∷ standing (i + 1) vs ms

  stand_in : (i : ℕ) (vs : List Interval) (ms : List ℕ) → Lie vs ms
      → Lie (narrowed_from b box i vs) (standing i vs ms)
  stand_in i [] [] l = tt
  stand_in i [] (m ∷ ms) l = absurd l
  stand_in i (v ∷ vs) [] l = absurd l
  stand_in i (v ∷ vs) (m ∷ ms) l =
      let head = by_bool (matters b box i) l.0 l.1 in
      (head.0, head.1, stand_in (i + 1) vs ms l.2)
    where
      by_bool : (c : Bool) → v.from ≤ m → m ≤ v.to
          → ((if c then v else low_of v).from ≤ (if c then m else v.from))
          × ((if c then m else v.from) ≤ (if c then v else low_of v).to)
      by_bool true f t = (f, t)
      by_bool false f t = (omega arith, omega arith)

  stand_same : (i : ℕ) (vs : List Interval) (ms : List ℕ) → Lie vs ms → (k : ℕ) → matters b box (i + k) ≡ true
      → slice_get (standing i vs ms) k ≡ slice_get ms k
  stand_same i [] [] l k e = refl
  stand_same i [] (m ∷ ms) l k e = absurd l
  stand_same i (v ∷ vs) [] l k e = absurd l
  stand_same i (v ∷ vs) (m ∷ ms) l zero e =
      let here : i + 0 ≡ i = omega arith in
      let t : matters b box i ≡ true = ap (matters b box) (sym here) ∙ e in
      ap (λ c. let o : Option ℕ = Some (if c then m else v.from) in o) t
  stand_same i (v ∷ vs) (m ∷ ms) l (suc k) e =
      let next : i + 1 + k ≡ i + suc k = omega arith in
      stand_same (i + 1) vs ms l.2 k (ap (matters b box) next ∙ e)

  head_before : (c : Bool) (v : Interval) (m n : ℕ) (P Q : Type 0) → (P → Q) → v.from ≤ m
      → n ≤ (if c then v else low_of v).to → (m < n) ⊎ ((m ≡ n) × P)
      → ((if c then m else v.from) < n) ⊎ (((if c then m else v.from) ≡ n) × Q)
  head_before true v m n P Q tail f t (inl less) = inl less
  head_before true v m n P Q tail f t (inr same) = inr (same.0, tail same.1)
  head_before false v m n P Q tail f t (inl less) = absurd (omega arith)
  head_before false v m n P Q tail f t (inr same) = let e = same.0 in inr (omega arith, tail same.1)

  -- what is before bytes of the narrowed box is stood for by bytes before them
  stand_before : (i : ℕ) (vs : List Interval) (ms ns : List ℕ) → Lie vs ms → Lie (narrowed_from b box i vs) ns
      → IsBefore ms ns → IsBefore (standing i vs ms) ns
  stand_before i [] [] ns l k before = before
  stand_before i [] (m ∷ ms) ns l k before = absurd l
  stand_before i (v ∷ vs) [] ns l k before = absurd l
  stand_before i (v ∷ vs) (m ∷ ms) [] l k before = absurd before
  stand_before i (v ∷ vs) (m ∷ ms) (n ∷ ns) l k before =
      head_before (matters b box i) v m n (IsBefore ms ns) (IsBefore (standing (i + 1) vs ms) ns)
      (stand_before (i + 1) vs ms ns l.2 k.2) l.0 k.1 before

  narrow_count : (i : ℕ) (vs : List Interval) → length (narrowed_from b box i vs) ≡ length vs
  narrow_count i [] = refl
  narrow_count i (v ∷ vs) = ap suc (narrow_count (i + 1) vs)

  narrow_within : (i : ℕ) (vs : List Interval) → IsBox vs → (k : ℕ) (u v : Interval)
      → slice_get (narrowed_from b box i vs) k ≡ Some u → slice_get vs k ≡ Some v
      → (v.from ≤ u.from) × (u.to ≤ v.to)
  narrow_within i [] is k u v e f = absurd (let z : ⊥ = cc in z)
  narrow_within i (w ∷ vs) is zero u v e f =
      let s : (if matters b box i then w else low_of w) ≡ u = cc in
      let t : w ≡ v = cc in
      subst (λ (y : Interval). (v.from ≤ y.from) × (y.to ≤ v.to)) s
      (subst (λ (y : Interval). (y.from ≤ (if matters b box i then w else low_of w).from)
      × ((if matters b box i then w else low_of w).to ≤ y.to)) t
      (by_bool (matters b box i) (is.some 0 w refl).0))
    where
      by_bool : (c : Bool) → w.from ≤ w.to
          → (w.from ≤ (if c then w else low_of w).from) × ((if c then w else low_of w).to ≤ w.to)
      by_bool true l = (omega arith, omega arith)
      by_bool false l = (omega arith, l)
  narrow_within i (w ∷ vs) is (suc k) u v e f =
      narrow_within (i + 1) vs (record { some = λ j y ey. is.some (suc j) y ey }) k u v e f

  narrow_inside : IsBox box → IsInside (narrowed b box) box
  narrow_inside is = record { count = narrow_count 1 box; within = narrow_within 1 box is }

  fewer_cells : (i : ℕ) (vs : List Interval) → cell_count (narrowed_from b box i vs) ≤ cell_count vs
  fewer_cells i [] = omega arith
  fewer_cells i (v ∷ vs) = mul-le _ _ _ _ (by_bool (matters b box i)) (fewer_cells (i + 1) vs)
    where
      by_bool : (c : Bool)
          → (if c then v else low_of v).to - (if c then v else low_of v).from + 1 ≤ v.to - v.from + 1
      by_bool true = omega arith
      by_bool false = omega arith

pub fewer : NarrowedBoxesHaveFewerCells
fewer b box = fewer_cells b box 1 box

-- ---- its cells stand for all

with_output : {P Q : Output → Type 0} (r : Option Output) → ((x : Output) → r ≡ Some x → P x → Q x) → IfSome r P
    → IfSome r Q
with_output None f p = tt
with_output (Some x) f p = f x refl p

module _ (one : AlikeCellsHaveOneBound) (b : Block) (h : ℕ) (box : List Interval) (valid : IsValid b)
    (is : IsBoxOf b box) where
  abbrev stands : List ℕ → List ℕ
  stands ms = standing b box 1 box ms

  in_narrow : (ms : List ℕ) → LieIn box ms → LieIn (narrowed b box) (stands ms)
  in_narrow ms l = from_lie (narrowed b box) (stands ms) (stand_in b box 1 box ms (to_lie box ms l))

  in_box : (ms : List ℕ) → LieIn (narrowed b box) ms → LieIn box ms
  in_box ms l = lie_around (narrowed b box) box ms (narrow_inside b box is.intervals) l

  one_within : (ms : List ℕ) (o : ℕ) (x : Output) (n : ℕ) → output_at b o ≡ Some x → LieIn box ms
      → IsCellWithin b (stands ms) o x h n → IsCellWithin b ms o x h n
  one_within ms o x n ex l w = (
    w.0,
    one b box (stands ms) ms o x h w.0 valid ex is (in_box (stands ms) (in_narrow ms l)) l
        by_input w.1,
    w.2,
  )
    where
      by_input : (i : ℕ) → 1 ≤ i → matters b box i ≡ true → slice_get (stands ms) (i - 1) ≡ slice_get ms (i - 1)
      by_input zero from m = absurd (omega arith)
      by_input (suc k) from m =
          let next : 1 + k ≡ suc k = omega arith in
          let place : k ≡ suc k - 1 = omega arith in
          subst (λ j. slice_get (stands ms) j ≡ slice_get ms j) place
          (stand_same b box 1 box ms (to_lie box ms l) k (ap (matters b box) next ∙ m))

  all_within : (o : ℕ) (x : Output) (n : ℕ) → output_at b o ≡ Some x → CellsAreWithin b (narrowed b box) o x h n
      → CellsAreWithin b box o x h n
  all_within o x n ex all ms l = one_within ms o x n ex l (all (stands ms) (in_narrow ms l))

  stand_for_all : StandForAll b h box
  stand_for_all = record {
    bound = λ o x n ex bound. record {
      within = all_within o x n ex bound.within;
      least = λ m all. bound.least m (λ bytes l. all bytes (in_box bytes l));
    };
    first = λ limits p q bytes o n a. record {
      inside = in_box bytes a.inside;
      from = a.from;
      to = a.to;
      count = a.count;
      above = a.above;
      outputs_before = a.outputs_before;
      cells_before = λ ms l before j f t. with_output (output_at b j) (λ x ex w. one_within ms j x _ ex l w)
          (a.cells_before (stands ms) (in_narrow ms l)
          (stand_before b box 1 box ms bytes (to_lie box ms l) (to_lie (narrowed b box) bytes a.inside) before) j f t);
    };
    unsure = λ o u. record {
      from = u.from;
      to = u.to;
      unsure = (u.unsure.0, in_box u.unsure.0 u.unsure.1, u.unsure.2);
      before = λ j f l. with_output (output_at b j) (λ x ex w. all_within j x 1000000 ex w) (u.before j f l);
    };
  }

pub all_stand : AlikeCellsHaveOneBound → NarrowedBoxesStandForAll
all_stand one b h box valid is = stand_for_all one b h box valid is
