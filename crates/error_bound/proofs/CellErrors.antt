-- The greatest rise and fall at the bounds of the cells are those over all their places, and what a term's cells have.
use Rattle.std.proofs.Common.{◌≡◌, ⊎_elim, ℕ, zero, suc, ◌+◌, ◌-◌, ◌*◌, ◌<◌, ◌≤◌, max, Bool, ap, ◌∙◌, subst, arith}
use Rattle.std.proofs.Common.{mul-pos, min, List, length, get_or-set_other}
use Rattle.std.proofs.{Common.replicate, Common.refl, Common.sym, Common.ap₂, lemmas.Grind.get_or-set_at}
use Rattle.std.proofs.{lemmas.List.length-set, lemmas.Bool.cases_lt}
use native.Mathlib.Nat.{mul-sub}
use Rattle.std.specs.Prelude.{◌==◌, slice_index, slice_set}
use Rattle.fz_num.specs.Fractions.{Fraction, over, IsProper, AtMost, IsNear, rise, fall}
use Rattle.fz_num.specs.Decimals.{distance}
use Rattle.fz_num.proofs.Algebra.{IsProper-lesser, sides-near, rise-least, fall-least}
use Rattle.fz_num.proofs.Algebra.{IsNear-more, IsNear-between}
use Rattle.byte_scaling.specs.Cells.{IsFromTo, IsInCell}
use Rattle.fuzzy_meaning.specs.Places.{Points, rise_at, fall_at, degree_at, points_of}
use Rattle.fuzzy_meaning.specs.{declared.block.Trapezoid.Trapezoid, declared.block.Input.Input}
use Rattle.cell_error.specs.declared.ranges.Deviation.{Deviation}
use Rattle.error_bound.specs.CellErrors.{cell_rise, cell_fall, term_deviation}
use Rattle.error_bound.specs.{declared.cells.TermCells.TermCells, declared.boxes.Interval.Interval, Errors.billion}
use Rattle.error_bound.specs.{Boxes.least_from, Boxes.greatest_from, Places.rise_end, Places.low, Places.high}
use Rattle.error_bound.specs.{Reaches.AreTermCells, Spans.Span}
use Rattle.error_bound.proofs.Sides.{IsPeaked, low_bounds, high_bounds, side_rise_proper, side_fall_proper}
use Rattle.error_bound.proofs.Sides.{side_end_proper, low_greatest, high_least}
use Rattle.point_slope.specs.Tables.{row_of, grade_of}

-- in parts of t, over the bytes from p to q and every place of their cells
abbrev pub Bounds : ℕ → Points → ℕ → (ℕ → ℕ) → ℕ → ℕ → Span ℕ → Type 0
Bounds t k w grade p q e =
    (b : ℕ) → p ≤ b → b ≤ q → (x : Fraction) → IsInCell w b x → IsNear t (grade b) (degree_at k x) e.high e.low

cell_proper : (n : ℕ) → IsProper (over n 256)
cell_proper n = record { pos = omega arith }

pub low_proper : (k : Points) (s e : Fraction) → IsProper s → IsProper e → IsProper (low k s e)
low_proper k s e ps pe =
    IsProper-lesser (rise_at k.a k.b s) (fall_at k.c k.d e) (side_rise_proper k.a k.b s ps)
    (side_fall_proper k.c k.d e pe)

pub high_proper : (k : Points) (s e : Fraction) (c : Bool) → IsProper s → IsProper e → IsProper (high k s e c)
high_proper k s e c ps pe =
    IsProper-lesser (rise_end c k.a k.b e) (fall_at k.c k.d s) (side_end_proper c k.a k.b e pe)
    (side_fall_proper k.c k.d s ps)

-- one cell: its bounds, and that each degree there is between them
module _ (w : ℕ) (k : Points) (b : ℕ) where
  abbrev start : Fraction
  start = over (b * w) 256

  abbrev next : Fraction
  next = over ((b + 1) * w) 256

  abbrev least : Fraction
  least = low k start next

  abbrev greatest : Fraction
  greatest = high k start next (b == 255)

  least_proper : IsProper least
  least_proper = low_proper k start next (cell_proper (b * w)) (cell_proper ((b + 1) * w))

  greatest_proper : IsProper greatest
  greatest_proper = high_proper k start next (b == 255) (cell_proper (b * w)) (cell_proper ((b + 1) * w))

  between : (x : Fraction) → IsProper x → IsFromTo start next (b == 255) x
      → AtMost least (degree_at k x) × AtMost (degree_at k x) greatest
  between x px i = (
    low_bounds k start next x (b == 255) (cell_proper (b * w)) (cell_proper ((b + 1) * w)) px i,
    high_bounds k start next x (b == 255) (cell_proper (b * w)) (cell_proper ((b + 1) * w)) px i,
  )

pub cell_bounds : (t w : ℕ) (k : Points) (grade : ℕ → ℕ) (b : ℕ) (x : Fraction) → IsInCell w b x
    → IsNear t (grade b) (degree_at k x) (cell_rise t k w grade b) (cell_fall t k w grade b)
cell_bounds t w k grade b x i =
    let g = grade b in
    let l = least w k b in
    let h = greatest w k b in
    let pl = least_proper w k b in
    let ph = greatest_proper w k b in
    let around = between w k b x i.proper i.place in
    IsNear-between t g (rise t g h) (fall t g l) (rise t g l) (fall t g h) l (degree_at k x) h pl ph around.0 around.1
    (sides-near t g l pl.pos) (sides-near t g h ph.pos)

pub cell_least : (t w : ℕ) (k : Points) (grade : ℕ → ℕ) (b r d : ℕ) → IsPeaked k → 0 < w → 0 < t
    → ((x : Fraction) → IsInCell w b x → IsNear t (grade b) (degree_at k x) r d)
    → (cell_fall t k w grade b ≤ d) × (cell_rise t k w grade b ≤ r)
cell_least t w k grade b r d gk hw ht n =
    let l = least w k b in
    let h = greatest w k b in
    let g = grade b in
    let pl = least_proper w k b in
    let ph = greatest_proper w k b in
    let top = over (g * t + r * 255) (255 * t) in
    let bot = over (g * t - d * 255) (255 * t) in
    let pt : IsProper top = record { pos = mul-pos (omega arith) ht } in
    let pb : IsProper bot = record { pos = mul-pos (omega arith) ht } in
    let se : b * w < (b + 1) * w = omega arith in
    let at_top : AtMost h top =
    high_least k (b * w) ((b + 1) * w) 256 (b == 255) top (omega arith) se pt gk
    (λ x px i. record { cross = let u = (n x (record { proper = px; place = i })).up in omega arith }) in
    let at_bot : AtMost bot l =
    low_greatest k (b * w) ((b + 1) * w) 256 (b == 255) bot (omega arith) se pb
    (λ x px i. record {
      cross = let u = (n x (record { proper = px; place = i })).down in let f = degree_at k x in
          omega (arith, mul-sub f.den (g * t) (d * 255));
    }) in (
      fall-least t g l (rise t g l) d pl.pos (record {
        up = (sides-near t g l pl.pos).up;
        down = let c = at_bot.cross in omega (arith, mul-sub l.den (g * t) (d * 255));
      }),
      rise-least t g h r (fall t g h) ph.pos (record {
        up = let c = at_top.cross in omega arith;
        down = (sides-near t g h ph.pos).down;
      }),
    )

-- ---- all cells

pub le_greatest : (g : ℕ → ℕ) (p n v : ℕ) → p ≤ v → v ≤ p + n → g v ≤ greatest_from g p n
le_greatest g p zero v h1 h2 = let e : p ≡ v = omega arith in subst (λ m. g m ≤ g p) e (omega arith)
le_greatest g p (suc n) v h1 h2 = ⊎_elim
    (λ (l : v < p + suc n). let r = le_greatest g p n v h1 (omega arith) in omega arith)
    (λ (l : p + suc n ≤ v). let e : p + suc n ≡ v = omega arith in
    subst (λ m. g m ≤ max (greatest_from g p n) (g (p + suc n))) e (omega arith))
    (cases_lt v (p + suc n))

greatest_small : (f : ℕ → ℕ) (m p n : ℕ) → ((k : ℕ) → p ≤ k → k ≤ p + n → f k ≤ m) → greatest_from f p n ≤ m
greatest_small f m p zero h = h p (omega arith) (omega arith)
greatest_small f m p (suc n) h = let r = greatest_small f m p n (λ k l u. h k l (omega arith)) in
    let q = h (p + suc n) (omega arith) (omega arith) in omega (arith, r, q)

module _ (t w : ℕ) (k : Points) (grade : ℕ → ℕ) (p n : ℕ) where
  abbrev fell : ℕ → ℕ
  fell = cell_fall t k w grade

  abbrev rose : ℕ → ℕ
  rose = cell_rise t k w grade

  pub cells_bounds : Bounds t k w grade p (p + n)
      (record { low = greatest_from fell p n; high = greatest_from rose p n })
  cells_bounds b h1 h2 x i =
      IsNear-more t (grade b) (rose b) (greatest_from rose p n) (fell b) (greatest_from fell p n) (degree_at k x)
      (le_greatest rose p n b h1 h2) (le_greatest fell p n b h1 h2) (cell_bounds t w k grade b x i)

  pub cells_least : (e : Span ℕ) → IsPeaked k → 0 < w → 0 < t → Bounds t k w grade p (p + n) e
      → (greatest_from fell p n ≤ e.low) × (greatest_from rose p n ≤ e.high)
  cells_least e gk hw ht h = (
    greatest_small fell e.low p n (λ b l u. (cell_least t w k grade b e.high e.low gk hw ht (h b l u)).0),
    greatest_small rose e.high p n (λ b l u. (cell_least t w k grade b e.high e.low gk hw ht (h b l u)).1),
  )

-- ---- what a term's cells have at the bytes of an interval

-- numbers that are set place by place, from one place on
kept_more : (P : ℕ → ℕ → Type 0) (xs : List ℕ) (from b y : ℕ) → b < length xs → P b y
    → ((n : ℕ) → from ≤ n → n < b → P n (slice_index xs n))
    → (n : ℕ) → from ≤ n → n < b + 1 → P n (slice_index (slice_set xs b y) n)
kept_more P xs from b y within here before n l u = ⊎_elim
    (λ (lt : n < b). subst (P n) (sym (get_or-set_other xs b n y 0 (λ e. absurd (omega arith)))) (before n l lt))
    (λ (ge : b ≤ n).
    let same : n ≡ b = omega arith in
    subst (P n) (sym (get_or-set_at xs b n y 0 same within)) (subst (λ k. P k y) (sym same) here))
    (cases_lt n b)

-- the grades, rises and falls at the bytes from one on and before b
pub record AreCellsBefore (x : Input) (term : Trapezoid) (row : List ℕ) (from b : ℕ) (c : TermCells) : Type 0 where
  pub grades_count : length c.grades ≡ 256
  pub rises_count : length c.rises ≡ 256
  pub falls_count : length c.falls ≡ 256
  pub grades : (n : ℕ) → from ≤ n → n < b → slice_index c.grades n ≡ grade_of row n
  pub rises : (n : ℕ) → from ≤ n → n < b
      → slice_index c.rises n ≡ cell_rise billion (points_of x term) (distance x.lo x.hi) (grade_of row) n
  pub falls : (n : ℕ) → from ≤ n → n < b
      → slice_index c.falls n ≡ cell_fall billion (points_of x term) (distance x.lo x.hi) (grade_of row) n
  pub rises_small : (n : ℕ) → from ≤ n → n < b → slice_index c.rises n ≤ billion
  pub falls_small : (n : ℕ) → from ≤ n → n < b → slice_index c.falls n ≤ billion

pub AreCellsBefore-none : (x : Input) (term : Trapezoid) (row : List ℕ) (from b : ℕ) → b ≡ from
    → AreCellsBefore x term row from b
    (record { grades = replicate 256 0; rises = replicate 256 0; falls = replicate 256 0 })
AreCellsBefore-none x term row from b start = record {
  grades_count = refl;
  rises_count = refl;
  falls_count = refl;
  grades = λ n l u. absurd (omega arith);
  rises = λ n l u. absurd (omega arith);
  falls = λ n l u. absurd (omega arith);
  rises_small = λ n l u. absurd (omega arith);
  falls_small = λ n l u. absurd (omega arith);
}

-- what a cell has
pub record IsDeviationOfCell (x : Input) (term : Trapezoid) (row : List ℕ) (b : ℕ) (d : Deviation) : Type 0 where
  pub rise : d.rise ≡ cell_rise billion (points_of x term) (distance x.lo x.hi) (grade_of row) b
  pub fall : d.fall ≡ cell_fall billion (points_of x term) (distance x.lo x.hi) (grade_of row) b
  pub rise_small : d.rise ≤ billion
  pub fall_small : d.fall ≤ billion

-- of one byte more
pub AreCellsBefore-more : (x : Input) (term : Trapezoid) (row : List ℕ) (from b : ℕ) (c : TermCells) (grade : ℕ)
    (d : Deviation) → AreCellsBefore x term row from b c → b < 256 → grade ≡ grade_of row b
    → IsDeviationOfCell x term row b d → AreCellsBefore x term row from (b + 1) (record {
      grades = slice_set c.grades b grade;
      rises = slice_set c.rises b d.rise;
      falls = slice_set c.falls b d.fall;
    })
AreCellsBefore-more x term row from b c grade d cells few grade_is here =
    let grades_count = cells.grades_count in
    let rises_count = cells.rises_count in
    let falls_count = cells.falls_count in
    let k = points_of x term in
    let w = distance x.lo x.hi in
    record {
      grades_count = length-set c.grades b grade ∙ grades_count;
      rises_count = length-set c.rises b d.rise ∙ rises_count;
      falls_count = length-set c.falls b d.fall ∙ falls_count;
      grades = kept_more (λ n y. y ≡ grade_of row n) c.grades from b grade (omega arith) grade_is cells.grades;
      rises = kept_more (λ n y. y ≡ cell_rise billion k w (grade_of row) n) c.rises from b d.rise (omega arith)
          here.rise cells.rises;
      falls = kept_more (λ n y. y ≡ cell_fall billion k w (grade_of row) n) c.falls from b d.fall (omega arith)
          here.fall cells.falls;
      rises_small = kept_more (λ n y. y ≤ billion) c.rises from b d.rise (omega arith) here.rise_small
          cells.rises_small;
      falls_small = kept_more (λ n y. y ≤ billion) c.falls from b d.fall (omega arith) here.fall_small
          cells.falls_small;
    }

-- least and greatest of numbers that are the same there
pub least_same : (f g : ℕ → ℕ) (p n : ℕ) → ((k : ℕ) → p ≤ k → k ≤ p + n → f k ≡ g k)
    → least_from f p n ≡ least_from g p n
least_same f g p zero h = h p (omega arith) (omega arith)
least_same f g p (suc n) h =
    ap₂ min (least_same f g p n (λ k l u. h k l (omega arith))) (h (p + suc n) (omega arith) (omega arith))

pub greatest_same : (f g : ℕ → ℕ) (p n : ℕ) → ((k : ℕ) → p ≤ k → k ≤ p + n → f k ≡ g k)
    → greatest_from f p n ≡ greatest_from g p n
greatest_same f g p zero h = h p (omega arith) (omega arith)
greatest_same f g p (suc n) h =
    ap₂ max (greatest_same f g p n (λ k l u. h k l (omega arith))) (h (p + suc n) (omega arith) (omega arith))

pub least_more : (g : ℕ → ℕ) (p b : ℕ) → p ≤ b → least_from g p (b + 1 - p) ≡ min (least_from g p (b - p)) (g (b + 1))
least_more g p b h =
    let e : b + 1 - p ≡ suc (b - p) = omega arith in
    let f : p + suc (b - p) ≡ b + 1 = omega arith in
    ap (least_from g p) e ∙ ap (λ m. min (least_from g p (b - p)) (g m)) f

pub greatest_more : (g : ℕ → ℕ) (p b : ℕ) → p ≤ b
    → greatest_from g p (b + 1 - p) ≡ max (greatest_from g p (b - p)) (g (b + 1))
greatest_more g p b h =
    let e : b + 1 - p ≡ suc (b - p) = omega arith in
    let f : p + suc (b - p) ≡ b + 1 = omega arith in
    ap (greatest_from g p) e ∙ ap (λ m. max (greatest_from g p (b - p)) (g m)) f

module _ (x : Input) (term : Trapezoid) (v u : Interval) (c : TermCells) (cells : AreTermCells x term v c)
    (from : v.from ≤ u.from) (to : u.to ≤ v.to) (order : u.from ≤ u.to) where
  pub least_is : least_from (λ n. slice_index c.grades n) u.from (u.to - u.from) ≡ least_from
      (grade_of (row_of x term)) u.from (u.to - u.from)
  least_is = least_same (λ n. slice_index c.grades n) (grade_of (row_of x term)) u.from (u.to - u.from)
      (λ k l h. cells.grades k (omega arith) (omega arith))

  pub greatest_is : greatest_from (λ n. slice_index c.grades n) u.from (u.to - u.from) ≡ greatest_from
      (grade_of (row_of x term)) u.from (u.to - u.from)
  greatest_is = greatest_same (λ n. slice_index c.grades n) (grade_of (row_of x term)) u.from (u.to - u.from)
      (λ k l h. cells.grades k (omega arith) (omega arith))

  pub rise_is : greatest_from (λ n. slice_index c.rises n) u.from (u.to - u.from) ≡ (term_deviation x term u).high
  rise_is = greatest_same (λ n. slice_index c.rises n)
      (cell_rise billion (points_of x term) (distance x.lo x.hi) (grade_of (row_of x term))) u.from (u.to - u.from)
      (λ k l h. cells.rises k (omega arith) (omega arith))

  pub fall_is : greatest_from (λ n. slice_index c.falls n) u.from (u.to - u.from) ≡ (term_deviation x term u).low
  fall_is = greatest_same (λ n. slice_index c.falls n)
      (cell_fall billion (points_of x term) (distance x.lo x.hi) (grade_of (row_of x term))) u.from (u.to - u.from)
      (λ k l h. cells.falls k (omega arith) (omega arith))

  pub rise_small : greatest_from (λ n. slice_index c.rises n) u.from (u.to - u.from) ≤ billion
  rise_small = greatest_small (λ n. slice_index c.rises n) billion u.from (u.to - u.from)
      (λ k l h. cells.rises_small k (omega arith) (omega arith))

  pub fall_small : greatest_from (λ n. slice_index c.falls n) u.from (u.to - u.from) ≤ billion
  fall_small = greatest_small (λ n. slice_index c.falls n) billion u.from (u.to - u.from)
      (λ k l h. cells.falls_small k (omega arith) (omega arith))
