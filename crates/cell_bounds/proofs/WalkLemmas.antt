-- The cells of a box, and numbers raised to their Bounds part by part.
use Rattle.std.proofs.Common.{◌≡◌, ℕ, zero, suc, ◌≤◌, List, [], ◌∷◌, length, Some, refl, sym, subst, ap, ◌∙◌, arith}
use Rattle.std.proofs.Common.{◌≢◌, ◌⊎◌, inl, inr, ⊎_elim, ◌+◌, ◌-◌, ◌<◌, ap₂, max, Option, None}
use Rattle.std.proofs.lemmas.List.{length-set, get_or-set_same, get_or-set_other}
use Rattle.std.proofs.lemmas.Option.{slice_get_within, get_or_from_slice_get}
use Rattle.std.proofs.{lemmas.Bool.cases_lt, lemmas.Bool.cases_eq, lemmas.List.Sums.sum_by-set}
use Rattle.std.specs.Prelude.{slice_get, set, IfSome, IfOk, IfErr, Result, Ok, Err, slice_index, slice_set}
use Rattle.fz_list.proofs.Algebra.{some_at}
use Rattle.fz_num.specs.{Fractions.Quotient, Fractions.IsClose, Decimals.distance}
use Rattle.fz_num.proofs.Algebra.{IsClose-more}
use Rattle.fuzzy_meaning.specs.{declared.block.Output.Output, declared.block.Block.Block, Meaning.answer_after}
use Rattle.fuzzy_meaning.specs.Blocks.{output_at}
use Rattle.byte_scaling.specs.Cells.{value_in}
use Rattle.point_slope.specs.Bytes.{answer_in}
use Rattle.error_bound.specs.TightLaws.{IsAnsweredWithin, kept, near, TightAnswersAreNear}
use Rattle.error_bound.specs.{MassRanges.AnswersToMassesAreNear, declared.boxes.Interval.Interval, Laws.IsInside}
use Rattle.error_bound.specs.Boxes.{IsBox, LieIn}
use Rattle.cell_bounds.specs.CellBounds.{HasCellBound, of_tight, of_error, of_bound, of_none, BoxesOfCellsAnswer}
use Rattle.cell_bounds.specs.CellBounds.{CellCountsAreOne, CellsBoundsAreOne, CellsBoundsFallInside, IsBefore}
use Rattle.cell_bounds.specs.CellBounds.{IsCellCount, IsCellWithin, CellsAreWithin, IsCellsBound, IsFirstCellAbove}
use Rattle.cell_bounds.specs.{Walks.cuts_of, Walks.IsRaised, Walks.AreRaised, Walks.AreAtMost, CellBounds.IsUnsureOn}
use Rattle.cell_bounds.specs.{Walks.whole_ranges, CellBounds.number_of}
use Rattle.cell_bounds.specs.Cells.{IsCell, cell_of, AnswersOnCellsAreNear}
use Rattle.cell_bounds.proofs.CellLemmas.{lowest, lowest_in}

-- what stands at a place of the cell
pub record IsAt (bytes : List ℕ) (k : ℕ) (v : Interval) : Type 0 where
  pub byte : ℕ
  pub byte_is : slice_get bytes k ≡ Some byte
  pub from_is : v.from ≡ byte
  pub to_is : v.to ≡ byte

pub at : (bytes : List ℕ) (k : ℕ) (v : Interval) → slice_get (cell_of bytes) k ≡ Some v → IsAt bytes k v
at [] k v e = absurd (let z : ⊥ = cc in z)
at (n ∷ ns) zero v e =
    let one : Interval = record { from = n; to = n } in
    let s : one ≡ v = cc in
    record {
      byte = n;
      byte_is = refl;
      from_is = sym (ap (λ (i : Interval). i.from) s);
      to_is = sym (ap (λ (i : Interval). i.to) s);
    }
at (n ∷ ns) (suc k) v e = let r = at ns k v e in
    record { byte = r.byte; byte_is = r.byte_is; from_is = r.from_is; to_is = r.to_is }

pub long : (bytes : List ℕ) → length bytes ≡ length (cell_of bytes)
long [] = refl
long (n ∷ ns) = ap suc (long ns)

pub inside : (bytes : List ℕ) → LieIn (cell_of bytes) bytes
inside bytes = record {
  count = long bytes;
  within = λ k v n ev en.
      let r = at bytes k v ev in
      let b = r.byte_is in
      let s : r.byte ≡ n = cc in
      let f = r.from_is in
      let t = r.to_is in
      (omega arith, omega arith);
}

pub box_is : (box : List Interval) (bytes : List ℕ) → IsBox box → LieIn box bytes → IsBox (cell_of bytes)
box_is box bytes h l = record {
  some = λ k v e.
      let r = at bytes k v e in
      let c = l.count in
      let few = slice_get_within bytes k r.byte r.byte_is in
      let w = some_at box k (omega arith) in
      let i = l.within k w.0 r.byte w.1 r.byte_is in
      let i1 = i.1 in
      let s = h.some k w.0 w.1 in
      let s1 = s.1 in
      let f = r.from_is in
      let t = r.to_is in
      (omega arith, omega arith);
}

-- the cell lies inside the box
pub cell_inside : (box : List Interval) (bytes : List ℕ) → LieIn box bytes → IsInside (cell_of bytes) box
cell_inside box bytes l = record {
  count = sym (long bytes) ∙ l.count;
  within = λ k u v eu ev.
      let r = at bytes k u eu in
      let w = l.within k v r.byte ev r.byte_is in
      let w0 = w.0 in
      let w1 = w.1 in
      let f = r.from_is in
      let t = r.to_is in
      (omega arith, omega arith);
}

pub answers_on_cells : AnswersToMassesAreNear → AnswersOnCellsAreNear
answers_on_cells near_masses b box o x h bytes xs n q before on c =
    let e = c.is_answer bytes q on.within in
    subst (λ k. IsClose (distance x.lo x.hi) n (value_in h x k) (answer_after b o before xs)) (sym e)
    (near_masses b box o x h bytes xs n c.answer before on c.sure c.error.covers)

pub within_more : (x : Output) (n m q q' : ℕ) (p' before after : Quotient) → m ≤ n
    → IsAnsweredWithin x m q q' p' before after → IsAnsweredWithin x n q q' p' before after
within_more x n m q q' p' before after l (kept d e f) = kept d e f
within_more x n m q q' p' before after l (near c) =
    near (IsClose-more (distance x.lo x.hi) m n p' after l c)

pub boxes_answer : TightAnswersAreNear → AnswersOnCellsAreNear → BoxesOfCellsAnswer
boxes_answer near_tight near_cells b box o x h bytes xs n q before on cells =
    let c = cells bytes on.within in
    within_more x n c.0 q (answer_in h b o bytes q) (value_in h x (answer_in h b o bytes q)) before
    (answer_after b o before xs) c.2 (by_bound c.0 c.1)
  where
    by_bound : (m : ℕ) → HasCellBound b (cell_of bytes) o x h m
        → IsAnsweredWithin x m q (answer_in h b o bytes q) (value_in h x (answer_in h b o bytes q)) before
        (answer_after b o before xs)
    by_bound m (of_tight bound) = near_tight b (cell_of bytes) o x h m bytes xs before q (record {
      valid = on.valid;
      output_is = on.output_is;
      parts = on.parts;
      cells = on.cells;
      box_is = inside bytes;
      bound_is = bound;
    })
    by_bound m (of_error e) = near (near_cells b (cell_of bytes) o x h bytes xs m q before (record {
      valid = on.valid;
      output_is = on.output_is;
      parts = on.parts;
      cells = on.cells;
      box_is = box_is box bytes on.box_is on.within;
      within = inside bytes;
    }) e)

-- ---- one count, one greatest Bound

pub counts_one : CellCountsAreOne
counts_one b cell o x h n m (of_bound p _) (of_bound q _) =
    let k = p.least m q.bound in let l = q.least n p.bound in omega arith
counts_one b cell o x h n m (of_bound p _) (of_none none is) = absurd (none n p.bound)
counts_one b cell o x h n m (of_none none is) (of_bound q _) = absurd (none m q.bound)
counts_one b cell o x h n m (of_none _ is) (of_none _ are) = is ∙ sym are

pub bounds_one : CellsBoundsAreOne
bounds_one b box o x h n m p q = let k = p.least m q.within in let l = q.least n p.within in omega arith

-- what stands at a place of bytes in a box lies in the interval there
interval_at : (box : List Interval) (bytes : List ℕ) (k n : ℕ) → LieIn box bytes → slice_get bytes k ≡ Some n
    → (v : Interval) × (slice_get box k ≡ Some v) × (v.from ≤ n) × (n ≤ v.to)
interval_at box bytes k n l e =
    let few = slice_get_within bytes k n e in
    let count = l.count in
    let v = some_at box k (omega arith) in
    let w = l.within k v.0 n v.1 e in
    (v.0, v.1, w.0, w.1)

-- bytes in a box lie in one around it
pub lie_around : (small box : List Interval) (bytes : List ℕ) → IsInside small box → LieIn small bytes → LieIn box bytes
lie_around small box bytes ins l = record {
  count = l.count ∙ ins.count;
  within = λ k v n ev en.
      let u = interval_at small bytes k n l en in
      let i = ins.within k u.0 v u.1 ev in
      (omega (arith, u.2, i.0), omega (arith, u.3, i.1));
}

pub bounds_fall : CellsBoundsFallInside
bounds_fall b small box o x h n m ins p q = p.least m (λ bytes l. q.within bytes (lie_around small box bytes ins l))

-- ---- a box with another interval at a place, and the bytes that lie in it

-- what a set list has at a place
get-set : {A : Type 0} → (xs : List A) (k j : ℕ) (v u : A) → slice_get (set xs k v) j ≡ Some u
    → ((j ≡ k) × (u ≡ v)) ⊎ ((j ≢ k) × (slice_get xs j ≡ Some u))
get-set [] k j v u e = absurd (let z : ⊥ = cc in z)
get-set (x ∷ xs) zero zero v u e = inl (refl, (let s : u ≡ v = cc in s))
get-set (x ∷ xs) zero (suc j) v u e = inr (λ z. absurd (omega arith), e)
get-set (x ∷ xs) (suc k) zero v u e = inr (λ z. absurd (omega arith), e)
get-set (x ∷ xs) (suc k) (suc j) v u e = ⊎_elim
    (λ (s : (j ≡ k) × (u ≡ v)). inl (ap suc s.0, s.1))
    (λ (s : (j ≢ k) × (slice_get xs j ≡ Some u)). inr (λ z. s.0 (omega arith), s.1))
    (get-set xs k j v u e)

same_at : {A : Type 0} → (xs : List A) (j k : ℕ) (a c : A) → j ≡ k → slice_get xs j ≡ Some a → slice_get xs k ≡ Some c
    → a ≡ c
same_at xs j k a c e p q = let r : slice_get xs k ≡ Some a = subst (λ i. slice_get xs i ≡ Some a) e p in cc

module _ (box : List Interval) (k : ℕ) (w v : Interval) (there : slice_get box k ≡ Some w) where
  pub set_inside : w.from ≤ v.from → v.to ≤ w.to → IsInside (set box k v) box
  set_inside f t = record {
    count = length-set box k v;
    within = λ j u y eu ey. ⊎_elim
        (λ (s : (j ≡ k) × (u ≡ v)).
        let a = ap (λ (i : Interval). i.from) s.1 in
        let c = ap (λ (i : Interval). i.to) s.1 in
        let same = same_at box j k y w s.0 ey there in
        let d = ap (λ (i : Interval). i.from) same in
        let e = ap (λ (i : Interval). i.to) same in
        (omega arith, omega arith))
        (λ (s : (j ≢ k) × (slice_get box j ≡ Some u)).
        let g = s.1 in
        let same : u ≡ y = cc in
        let a = ap (λ (i : Interval). i.from) same in
        let c = ap (λ (i : Interval). i.to) same in
        (omega arith, omega arith))
        (get-set box k j v u eu);
  }

  pub set_box : IsBox box → v.from ≤ v.to → v.to ≤ w.to → IsBox (set box k v)
  set_box is f t = record {
    some = λ j u e. ⊎_elim
        (λ (s : (j ≡ k) × (u ≡ v)).
        let a = ap (λ (i : Interval). i.from) s.1 in
        let c = ap (λ (i : Interval). i.to) s.1 in
        let o = is.some k w there in
        let o1 = o.1 in
        (omega arith, omega arith))
        (λ (s : (j ≢ k) × (slice_get box j ≡ Some u)). is.some j u s.1)
        (get-set box k j v u e);
  }

  pub set_lie : (bytes : List ℕ) (n : ℕ) → LieIn box bytes → slice_get bytes k ≡ Some n → v.from ≤ n → n ≤ v.to
      → LieIn (set box k v) bytes
  set_lie bytes n l en f t = record {
    count = l.count ∙ sym (length-set box k v);
    within = λ j u m eu em. ⊎_elim
        (λ (s : (j ≡ k) × (u ≡ v)).
        let a = ap (λ (i : Interval). i.from) s.1 in
        let c = ap (λ (i : Interval). i.to) s.1 in
        let same = same_at bytes j k m n s.0 em en in
        (omega arith, omega arith))
        (λ (s : (j ≢ k) × (slice_get box j ≡ Some u)). l.within j u m s.1 em)
        (get-set box k j v u eu);
  }

  pub set_fewer : v.to - v.from < w.to - w.from → cuts_of (set box k v) < cuts_of box
  set_fewer less =
      let in_box = slice_get_within box k w there in
      let d : Interval = record { from = 0; to = 0 } in
      let s = sum_by-set (λ (v : Interval). v.to - v.from) box k v d in_box in
      let g = ap (λ (i : Interval). i.to - i.from) (get_or_from_slice_get box k w d there) in
      omega arith

-- ---- the two parts of a box

module _ (box : List Interval) (k : ℕ) (w : Interval) (there : slice_get box k ≡ Some w) (is : IsBox box)
    (wide : w.from < w.to) where
  abbrev pub left : List Interval
  left = set box k (record { from = w.from; to = w.from })

  abbrev pub right : List Interval
  right = set box k (record { from = w.from + 1; to = w.to })

  pub left_inside : IsInside left box
  left_inside = set_inside box k w (record { from = w.from; to = w.from }) there (omega arith) (omega arith)

  pub right_inside : IsInside right box
  right_inside = set_inside box k w (record { from = w.from + 1; to = w.to }) there (omega arith) (omega arith)

  pub left_box : IsBox left
  left_box = set_box box k w (record { from = w.from; to = w.from }) there is (omega arith) (omega arith)

  pub right_box : IsBox right
  right_box = set_box box k w (record { from = w.from + 1; to = w.to }) there is (omega arith) (omega arith)

  pub left_fewer : cuts_of left < cuts_of box
  left_fewer = set_fewer box k w (record { from = w.from; to = w.from }) there (omega arith)

  pub right_fewer : cuts_of right < cuts_of box
  right_fewer = set_fewer box k w (record { from = w.from + 1; to = w.to }) there (omega arith)

  byte_at : (bytes : List ℕ) → LieIn box bytes → (n : ℕ) × (slice_get bytes k ≡ Some n)
  byte_at bytes l =
      let few = slice_get_within box k w there in
      let c = l.count in
      some_at bytes k (omega arith)

  in_left : (bytes : List ℕ) (n : ℕ) → LieIn box bytes → slice_get bytes k ≡ Some n → n ≤ w.from → LieIn left bytes
  in_left bytes n l e h =
      let i = l.within k w n there e in
      set_lie box k w (record { from = w.from; to = w.from }) there bytes n l e i.0 h

  in_right : (bytes : List ℕ) (n : ℕ) → LieIn box bytes → slice_get bytes k ≡ Some n → w.from < n → LieIn right bytes
  in_right bytes n l e h =
      let i = l.within k w n there e in
      set_lie box k w (record { from = w.from + 1; to = w.to }) there bytes n l e (omega arith) i.1

  -- bytes in the box lie in one of them
  pub in_either : (bytes : List ℕ) → LieIn box bytes → LieIn left bytes ⊎ LieIn right bytes
  in_either bytes l =
      let n = byte_at bytes l in
      ⊎_elim (λ (h : w.from < n.0). inr (in_right bytes n.0 l n.1 h))
      (λ (h : n.0 ≤ w.from). inl (in_left bytes n.0 l n.1 h))
      (cases_lt w.from n.0)

  -- where the places before have one byte, what is before bytes of the left one is in it
  pub before_left : ((j : ℕ) (v : Interval) → j < k → slice_get box j ≡ Some v → v.from ≡ v.to) → (ms ns : List ℕ)
      → LieIn box ms → LieIn left ns → IsBefore ms ns → LieIn left ms
  before_left single ms ns lm ln before =
      let lb = lie_around left box ns left_inside ln in
      let m = byte_at ms lm in
      let n = byte_at ns lb in
      let le : m.0 ≤ n.0 = before_at k ms ns m.0 n.0 (λ j a c h ea ec. agree j a c h ea ec lb) before m.1 n.1 in
      let top : n.0 ≤ w.from = to_left ns n.0 ln n.1 in
      in_left ms m.0 lm m.1 (omega arith)
    where
      agree : (j a c : ℕ) → j < k → slice_get ms j ≡ Some a → slice_get ns j ≡ Some c → LieIn box ns → a ≡ c
      agree j a c h ea ec lb =
          let v = interval_at box ms j a lm ea in
          let q = lb.within j v.0 c v.1 ec in
          omega (arith, single j v.0 h v.1, v.2, v.3, q.0, q.1)

      before_at : (k : ℕ) (ms ns : List ℕ) (a c : ℕ)
          → ((j a c : ℕ) → j < k → slice_get ms j ≡ Some a → slice_get ns j ≡ Some c → a ≡ c) → IsBefore ms ns
          → slice_get ms k ≡ Some a → slice_get ns k ≡ Some c → a ≤ c
      before_at k [] ns a c same b ea ec = absurd b
      before_at k (m ∷ ms) [] a c same b ea ec = absurd b
      before_at zero (m ∷ ms) (n ∷ ns) a c same b ea ec =
          let em : m ≡ a = cc in
          let en : n ≡ c = cc in
          ⊎_elim (λ (l : m < n). omega arith) (λ (l : (m ≡ n) × IsBefore ms ns). (let e = l.0 in omega arith)) b
      before_at (suc k) (m ∷ ms) (n ∷ ns) a c same b ea ec = ⊎_elim
          (λ (l : m < n). absurd (let e = same 0 m n (omega arith) refl refl in omega arith))
          (λ (l : (m ≡ n) × IsBefore ms ns).
          before_at k ms ns a c (λ j p q h ep eq. same (suc j) p q (omega arith) ep eq) l.1 ea ec)
          b

      to_left : (ns : List ℕ) (n : ℕ) → LieIn left ns → slice_get ns k ≡ Some n → n ≤ w.from
      to_left ns n l e =
          let few = slice_get_within ns k n e in
          let c = l.count in
          let u = some_at left k (omega arith) in
          let p = l.within k u.0 n u.1 e in
          let p1 = p.1 in
          ⊎_elim
          (λ (s : (k ≡ k) × (u.0 ≡ record { from = w.from; to = w.from })).
          let t = ap (λ (i : Interval). i.to) s.1 in omega arith)
          (λ (s : (k ≢ k) × (slice_get box k ≡ Some u.0)). absurd (s.0 refl))
          (get-set box k k (record { from = w.from; to = w.from }) u.0 u.1)

-- ---- a box that is a cell

IsCell-tail : (v : Interval) (vs : List Interval) → IsCell (v ∷ vs) → IsCell vs
IsCell-tail v vs c = record { single = λ k u e. c.single (suc k) u e }

LieIn-tail : (v : Interval) (vs : List Interval) (n : ℕ) (ns : List ℕ) → LieIn (v ∷ vs) (n ∷ ns) → LieIn vs ns
LieIn-tail v vs n ns l = record {
  count = (let c = l.count in omega arith);
  within = λ k u m eu em. l.within (suc k) u m eu em;
}

pub cell_same : (box : List Interval) (bytes : List ℕ) → IsCell box → LieIn box bytes → cell_of bytes ≡ box
cell_same [] [] c l = refl
cell_same [] (n ∷ ns) c l = absurd (let e = l.count in omega arith)
cell_same (v ∷ vs) [] c l = absurd (let e = l.count in omega arith)
cell_same (v ∷ vs) (n ∷ ns) c l =
    let one = c.single 0 v refl in
    let w = l.within 0 v n refl refl in
    let w0 = w.0 in
    let w1 = w.1 in
    let from : n ≡ v.from = omega arith in
    let to : n ≡ v.to = omega arith in
    ap₂ (λ (i : Interval) (is : List Interval). i ∷ is)
    (ap₂ (λ (a e : ℕ). let i : Interval = record { from = a; to = e } in i) from to)
    (cell_same vs ns (IsCell-tail v vs c) (LieIn-tail v vs n ns l))

-- ---- numbers raised to the Bounds of a box's cells, part by part

-- what holds of an output that is there, by others that do
pub both_outputs : {P Q R : Output → Type 0} (r : Option Output) → ((x : Output) → P x → Q x → R x) → IfSome r P
    → IfSome r Q → IfSome r R
both_outputs None f p q = tt
both_outputs (Some x) f p q = f x p q

pub more_output : {P R : Output → Type 0} (r : Option Output) → ((x : Output) → P x → R x) → IfSome r P → IfSome r R
more_output None f p = tt
more_output (Some x) f p = f x p

pub more_ok : {A E : Type 0} {P R : A → Type 0} (r : Result A E) → ((a : A) → P a → R a) → IfOk r P → IfOk r R
more_ok (Ok a) f p = f a p
more_ok (Err e) f p = tt

pub more_err : {A E : Type 0} {P R : E → Type 0} (r : Result A E) → ((e : E) → P e → R e) → IfErr r P → IfErr r R
more_err (Ok a) f p = tt
more_err (Err e) f p = f e p

within_le : {b : Block} (bytes : List ℕ) {o : ℕ} {x : Output} {h n m : ℕ} → n ≤ m → IsCellWithin b bytes o x h n
    → IsCellWithin b bytes o x h m
within_le bytes l w = (w.0, w.1, (let a = w.2 in omega arith))

-- ---- the two parts of a box

module _ (b : Block) (h : ℕ) (box : List Interval) (k : ℕ) (w : Interval) (there : slice_get box k ≡ Some w)
    (is : IsBox box) (wide : w.from < w.to) where
  one_raised : (o : ℕ) (x : Output) (old mid new : ℕ) → IsRaised b (left box k w there is wide) o x h old mid
      → IsRaised b (right box k w there is wide) o x h mid new → IsRaised b box o x h old new
  one_raised o x old mid new l r = record {
    within = λ bytes lie. ⊎_elim
        (λ (i : LieIn (left box k w there is wide) bytes). within_le bytes r.above (l.within bytes i))
        (λ (i : LieIn (right box k w there is wide) bytes). r.within bytes i)
        (in_either box k w there is wide bytes lie);
    above = (let a = l.above in let c = r.above in omega arith);
    least = λ m all le. r.least m
        (λ bytes lie. all bytes (lie_around (right box k w there is wide) box bytes
        (right_inside box k w there is wide) lie))
        (l.least m
        (λ bytes lie. all bytes (lie_around (left box k w there is wide) box bytes
        (left_inside box k w there is wide) lie))
        le);
  }

  pub parts_raised : (p q : ℕ) (olds mids news : List ℕ) → AreRaised b h p q (left box k w there is wide) olds mids
      → AreRaised b h p q (right box k w there is wide) mids news → AreRaised b h p q box olds news
  parts_raised p q olds mids news l r j from to =
      both_outputs (output_at b (j + 1))
      (λ x a c. one_raised (j + 1) x (slice_index olds j) (slice_index mids j) (slice_index news j) a c)
      (l j from to) (r j from to)

  pub above_left : (limits : List ℕ) (p q : ℕ) (bytes : List ℕ) (o n : ℕ)
      → ((j : ℕ) (v : Interval) → j < k → slice_get box j ≡ Some v → v.from ≡ v.to)
      → IsFirstCellAbove b h limits p q (left box k w there is wide) bytes o n
      → IsFirstCellAbove b h limits p q box bytes o n
  above_left limits p q bytes o n single a = record {
    inside = lie_around (left box k w there is wide) box bytes (left_inside box k w there is wide) a.inside;
    from = a.from;
    to = a.to;
    count = a.count;
    above = a.above;
    outputs_before = a.outputs_before;
    cells_before = λ ms lie before j f t.
        a.cells_before ms (before_left box k w there is wide single ms bytes lie a.inside before) before j f t;
  }

  pub above_right : (limits : List ℕ) (p q : ℕ) (olds mids : List ℕ) (bytes : List ℕ) (o n : ℕ) → q ≤ length limits
      → AreRaised b h p q (left box k w there is wide) olds mids → AreAtMost limits mids
      → IsFirstCellAbove b h limits (p + 1) q (right box k w there is wide) bytes o n
      → IsFirstCellAbove b h limits (p + 1) q box bytes o n
  above_right limits p q olds mids bytes o n few l small a = record {
    inside = lie_around (right box k w there is wide) box bytes (right_inside box k w there is wide) a.inside;
    from = a.from;
    to = a.to;
    count = a.count;
    above = a.above;
    outputs_before = a.outputs_before;
    cells_before = λ ms lie before j f t. ⊎_elim
        (λ (i : LieIn (left box k w there is wide) ms).
        let back : j - 1 + 1 ≡ j = omega arith in
        let le : slice_index mids (j - 1) ≤ number_of limits j = small (j - 1) (omega arith) in
        let here : IfSome (output_at b (j - 1 + 1)) (λ x. IsCellWithin b ms (j - 1 + 1) x h (number_of limits j)) =
        more_output (output_at b (j - 1 + 1)) (λ x r. within_le ms le (r.within ms i))
        (l (j - 1) (omega arith) (omega arith)) in
        subst (λ i. IfSome (output_at b i) (λ x. IsCellWithin b ms i x h (number_of limits j))) back here)
        (λ (i : LieIn (right box k w there is wide) ms). a.cells_before ms i before j f t)
        (in_either box k w there is wide ms lie);
  }

-- the same of boxes that are the parts
module _ (b : Block) (h : ℕ) (box : List Interval) (k : ℕ) (is : IsBox box) (there : k < length box)
    (wide : (v : Interval) → slice_get box k ≡ Some v → v.from < v.to) (ls rs : List Interval)
    (el : (v : Interval) → slice_get box k ≡ Some v → ls ≡ set box k (record { from = v.from; to = v.from }))
    (er : (v : Interval) → slice_get box k ≡ Some v → rs ≡ set box k (record { from = v.from + 1; to = v.to })) where
  cut : (v : Interval) × (slice_get box k ≡ Some v)
  cut = some_at box k there

  apart : cut.0.from < cut.0.to
  apart = wide cut.0 cut.1

  pub left_part : (cuts_of ls < cuts_of box) × (length ls ≡ length box) × IsBox ls
  left_part = rw (el cut.0 cut.1) (
    left_fewer box k cut.0 cut.1 is apart,
    length-set box k (record { from = cut.0.from; to = cut.0.from }),
    left_box box k cut.0 cut.1 is apart,
  )

  pub right_part : (cuts_of rs < cuts_of box) × (length rs ≡ length box) × IsBox rs
  right_part = rw (er cut.0 cut.1) (
    right_fewer box k cut.0 cut.1 is apart,
    length-set box k (record { from = cut.0.from + 1; to = cut.0.to }),
    right_box box k cut.0 cut.1 is apart,
  )

  pub raised_of_parts : (p q : ℕ) (olds mids news : List ℕ) → AreRaised b h p q ls olds mids
      → AreRaised b h p q rs mids news → AreRaised b h p q box olds news
  raised_of_parts p q olds mids news l r =
      parts_raised b h box k cut.0 cut.1 is apart p q olds mids news
      (subst (λ i. AreRaised b h p q i olds mids) (el cut.0 cut.1) l)
      (subst (λ i. AreRaised b h p q i mids news) (er cut.0 cut.1) r)

  pub above_in_left : (limits : List ℕ) (p q : ℕ) (bytes : List ℕ) (o n : ℕ)
      → ((j : ℕ) (v : Interval) → j < k → slice_get box j ≡ Some v → v.from ≡ v.to)
      → IsFirstCellAbove b h limits p q ls bytes o n → IsFirstCellAbove b h limits p q box bytes o n
  above_in_left limits p q bytes o n single a =
      above_left b h box k cut.0 cut.1 is apart limits p q bytes o n single
      (subst (λ i. IsFirstCellAbove b h limits p q i bytes o n) (el cut.0 cut.1) a)

  pub above_in_right : (limits : List ℕ) (p q : ℕ) (olds mids : List ℕ) (bytes : List ℕ) (o n : ℕ) → q ≤ length limits
      → AreRaised b h p q ls olds mids → AreAtMost limits mids
      → IsFirstCellAbove b h limits (p + 1) q rs bytes o n → IsFirstCellAbove b h limits (p + 1) q box bytes o n
  above_in_right limits p q olds mids bytes o n few l small a =
      above_right b h box k cut.0 cut.1 is apart limits p q olds mids bytes o n few
      (subst (λ i. AreRaised b h p q i olds mids) (el cut.0 cut.1) l) small
      (subst (λ i. IsFirstCellAbove b h limits (p + 1) q i bytes o n) (er cut.0 cut.1) a)

-- ---- one cell

module _ (b : Block) (box : List Interval) (cell : IsCell box) (h : ℕ) where
  on_cell : (o : ℕ) (x : Output) (n : ℕ) → (m : ℕ) × HasCellBound b box o x h m × (m ≤ n) → CellsAreWithin b box o x h n
  on_cell o x n c bytes lie =
      (c.0, subst (λ i. HasCellBound b i o x h c.0) (sym (cell_same box bytes cell lie)) c.1, c.2)

  pub raised_same : (o : ℕ) (x : Output) (n : ℕ) → (m : ℕ) × HasCellBound b box o x h m × (m ≤ n)
      → IsRaised b box o x h n n
  raised_same o x n c = record { within = on_cell o x n c; above = omega arith; least = λ m all le. le }

  pub raised_count : (is : IsBox box) (o : ℕ) (x : Output) (old n new : ℕ) → new ≡ max n old → n ≤ 1000000
      → IsCellCount b box o x h n → IsRaised b box o x h old new
  raised_count is o x old n new e small (of_bound p _) = record {
    within = on_cell o x new (n, p.bound, omega arith);
    above = omega arith;
    least = λ m all le.
        let lie = lowest_in box is in
        let c = all (lowest box) lie in
        let here = subst (λ i. HasCellBound b i o x h c.0) (cell_same box (lowest box) cell lie) c.1 in
        let a = p.least c.0 here in
        let d = c.2 in
        omega arith;
  }
  raised_count is o x old n new e small (of_none none are) = absurd (omega arith)

  -- the first output above, where those before are raised within the limit
  pub above_here : (is : IsBox box) (limits : List ℕ) (p q place n : ℕ) (olds news : List ℕ) → p ≤ place → place < q
      → q ≤ length limits → AreRaised b h p place box olds news → AreAtMost limits news
      → IfSome (output_at b (place + 1)) (λ x. IsCellCount b box (place + 1) x h n) → slice_index limits place < n
      → IsFirstCellAbove b h limits (p + 1) q box (lowest box) (place + 1) n
  above_here is limits p q place n olds news from to few raised small count above =
      let lie = lowest_in box is in
      let same = cell_same box (lowest box) cell lie in
      record {
        inside = lie;
        from = omega arith;
        to = omega arith;
        count = subst (λ i. IfSome (output_at b (place + 1)) (λ x. IsCellCount b i (place + 1) x h n)) (sym same) count;
        above =
            (let place_is : place ≡ place + 1 - 1 = omega arith in
            subst (λ i. slice_index limits i < n) place_is above);
        outputs_before = λ j f t.
            let back : j - 1 + 1 ≡ j = omega arith in
            let le : slice_index news (j - 1) ≤ number_of limits j = small (j - 1) (omega arith) in
            subst (λ i. IfSome (output_at b i) (λ x. IsCellWithin b (lowest box) i x h (number_of limits j))) back
            (more_output (output_at b (j - 1 + 1)) (λ x r. within_le (lowest box) le (r.within (lowest box) lie))
            (raised (j - 1) (omega arith) (omega arith)));
        cells_before = λ ms l before j f t. absurd (never box ms (lowest box) cell l lie before);
      }
    where
      same_bytes : (ms : List ℕ) → IsBefore ms ms → ⊥
      same_bytes [] c = c
      same_bytes (m ∷ ms) c = ⊎_elim (λ (l : m < m). absurd (omega arith))
          (λ (l : (m ≡ m) × IsBefore ms ms). same_bytes ms l.1) c

      of_cells : (ms ns : List ℕ) → cell_of ms ≡ cell_of ns → ms ≡ ns
      of_cells [] [] e = refl
      of_cells [] (n ∷ ns) e = absurd (let z : ⊥ = cc in z)
      of_cells (m ∷ ms) [] e = absurd (let z : ⊥ = cc in z)
      of_cells (m ∷ ms) (n ∷ ns) e =
          let i : Interval = record { from = m; to = m } in
          let j : Interval = record { from = n; to = n } in
          let head : i ≡ j = cc in
          let tail : cell_of ms ≡ cell_of ns = cc in
          ap₂ (λ (a : ℕ) (rest : List ℕ). a ∷ rest) (ap (λ (v : Interval). v.from) head) (of_cells ms ns tail)

      never : (box : List Interval) (ms ns : List ℕ) → IsCell box → LieIn box ms → LieIn box ns → IsBefore ms ns → ⊥
      never box ms ns cell lm ln before =
          let e = of_cells ms ns (cell_same box ms cell lm ∙ sym (cell_same box ns cell ln)) in
          same_bytes ns (subst (λ i. IsBefore i ns) e before)

-- ---- places

pub set_at : (xs : List ℕ) (k v : ℕ) → k < length xs → slice_index (slice_set xs k v) k ≡ v
set_at xs k v l = get_or-set_same xs k v 0 l

pub set_beside : (xs : List ℕ) (k j v : ℕ) → (j < k) ⊎ (k < j) → slice_index (slice_set xs k v) j ≡ slice_index xs j
set_beside xs k j v s = get_or-set_other xs k j v 0
    (λ e. ⊎_elim (λ (l : j < k). absurd (omega arith)) (λ (l : k < j). absurd (omega arith)) s)

-- one place more
pub raised_next : (b : Block) (h p place : ℕ) (box : List Interval) (olds mids : List ℕ) (new : ℕ) → place < length mids
    → AreRaised b h p place box olds mids → slice_index mids place ≡ slice_index olds place
    → IfSome (output_at b (place + 1)) (λ x. IsRaised b box (place + 1) x h (slice_index mids place) new)
    → AreRaised b h p (place + 1) box olds (slice_set mids place new)
raised_next b h p place box olds mids new few done same one j from to = ⊎_elim
    (λ (l : j < place). subst (λ n. IfSome (output_at b (j + 1))
    (λ x. IsRaised b box (j + 1) x h (slice_index olds j) n))
    (sym (set_beside mids place j new (inl l))) (done j from l))
    (λ (l : place ≤ j).
    let e : place ≡ j = omega arith in
    let here : IfSome (output_at b (place + 1)) (λ x. IsRaised b box (place + 1) x h (slice_index olds place)
    (slice_index (slice_set mids place new) place)) =
    subst (λ n. IfSome (output_at b (place + 1)) (λ x. IsRaised b box (place + 1) x h (slice_index olds place) n))
    (sym (set_at mids place new few))
    (subst (λ n. IfSome (output_at b (place + 1)) (λ x. IsRaised b box (place + 1) x h n new)) same one) in
    subst (λ i. IfSome (output_at b (i + 1)) (λ x. IsRaised b box (i + 1) x h (slice_index olds i)
    (slice_index (slice_set mids place new) i))) e here)
    (cases_lt j place)

pub small_next : (limits : List ℕ) (place new : ℕ) (mids : List ℕ) → place < length mids → AreAtMost limits mids
    → new ≤ slice_index limits place → AreAtMost limits (slice_set mids place new)
small_next limits place new mids few small le k l = ⊎_elim
    (λ (e : k ≡ place).
    let here : slice_index (slice_set mids place new) place ≤ slice_index limits place =
    (let s = set_at mids place new few in omega arith) in
    subst (λ i. slice_index (slice_set mids place new) i ≤ slice_index limits i) (sym e) here)
    (λ (e : k ≡ place → ⊥). let s = set_beside mids place k new (beside e) in let t = small k l in omega arith)
    (cases_eq k place)
  where
    beside : (k ≡ place → ⊥) → (k < place) ⊎ (place < k)
    beside e = ⊎_elim (λ (l : k < place). inl l) (λ (l : place ≤ k). inr (⊎_elim (λ (g : place < k). g)
        (λ (g : k ≤ place). absurd (e (omega arith))) (cases_lt place k))) (cases_lt k place)

-- ---- of all outputs

pub bounds_are : (b : Block) (h : ℕ) (box : List Interval) (olds news : List ℕ) (q : ℕ)
    → ((k : ℕ) → k < q → slice_index olds k ≡ 0) → AreRaised b h 0 q box olds news → (k : ℕ) → k < q
    → IfSome (output_at b (k + 1)) (λ x. IsCellsBound b box (k + 1) x h (slice_index news k))
bounds_are b h box olds news q none raised k l =
    more_output (output_at b (k + 1)) (λ x r. record {
      within = r.within;
      least = λ m all. r.least m all (let z = none k l in omega arith);
    }) (raised k (omega arith) l)

pub no_numbers : (k : ℕ) → slice_index (0 ∷ 0 ∷ 0 ∷ 0 ∷ []) k ≡ 0
no_numbers zero = refl
no_numbers (suc zero) = refl
no_numbers (suc (suc zero)) = refl
no_numbers (suc (suc (suc zero))) = refl
no_numbers (suc (suc (suc (suc k)))) = refl

range_whole : (k : ℕ) → k < 4 → slice_index whole_ranges k ≡ 1000000
range_whole zero l = refl
range_whole (suc zero) l = refl
range_whole (suc (suc zero)) l = refl
range_whole (suc (suc (suc zero))) l = refl
range_whole (suc (suc (suc (suc k)))) l = absurd (omega arith)

-- where the numbers of one output stay within the whole range it is unsure nowhere
pub sure_next : (b : Block) (h place : ℕ) (box : List Interval) (olds news : List ℕ) → place < 4
    → AreRaised b h place (place + 1) box olds news → AreAtMost whole_ranges news
    → IfSome (output_at b (place + 1)) (λ x. CellsAreWithin b box (place + 1) x h 1000000)
sure_next b h place box olds news few raised small =
    let whole = range_whole place few in
    let at = small place few in
    let le : slice_index news place ≤ 1000000 = omega arith in
    more_output (output_at b (place + 1)) (λ x r bytes lie. within_le bytes le (r.within bytes lie))
    (raised place (omega arith) (omega arith))

-- a count above the whole range is that of no Bound
pub unsure_above : (b : Block) (h p q : ℕ) (box : List Interval) (bytes : List ℕ) (o n : ℕ)
    → q ≤ 4 → 1 ≤ p → IsFirstCellAbove b h whole_ranges p q box bytes o n → IsUnsureOn b h box o
unsure_above b h p q box bytes o n few some a =
    (bytes, a.inside, more_output (output_at b o) (λ x c. none x c) a.count)
  where
    none : (x : Output) → IsCellCount b (cell_of bytes) o x h n → (m : ℕ) → HasCellBound b (cell_of bytes) o x h m → ⊥
    none x (of_bound p small) m q = absurd (
        let l = a.above in
        let from = a.from in
        let to = a.to in
        let e = range_whole (o - 1) (omega arith) in
        omega arith)
    none x (of_none missing are) m q = missing m q
