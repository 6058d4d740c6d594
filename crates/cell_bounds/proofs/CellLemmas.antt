-- On a cell: what masses lie between, the one answer over bytes, the one error, and the Bound.
use Rattle.std.proofs.Common.{◌≡◌, ℕ, zero, suc, ◌*◌, ◌/◌, List, [], ◌∷◌, length, map, Some, None, refl, sym, subst}
use Rattle.std.proofs.Common.{ap, ◌∙◌, cond, true, arith, ⊎_elim, ◌+◌, ◌-◌, ◌<◌, ◌≤◌, Option, ap₂}
use Rattle.std.proofs.Common.{mul-le-mul_right, max, ◌⊎◌}
use Rattle.std.proofs.{lemmas.Option.slice_get_within, lemmas.Option.slice_get-get_or, lemmas.List.Sums.sum_by-cons}
use Rattle.std.proofs.{lemmas.Bool.eq-eqb, lemmas.Bool.cases_lt, lemmas.Int.ints}
use Rattle.std.specs.Prelude.{slice_get, ◌==◌, All, IfSome, IfNone, ◌<ℤ◌, if◌then◌else◌, slice_index}
use Rattle.std.specs.Option.{option_map_or}
use Rattle.fuzzy_meaning.specs.Blocks.{output_at, IsWithin as IsInRange, input_at, IsValid}
use Rattle.fuzzy_meaning.specs.{Conditions.Condition, Conditions.level, Conditions.levels, declared.block.Block.Block}
use Rattle.fuzzy_meaning.specs.{declared.block.Trapezoid.Trapezoid, declared.block.Output.Output, Meaning.concludes}
use Rattle.fuzzy_meaning.specs.{declared.block.Input.Input, declared.block.Rule.Rule}
use Rattle.byte_scaling.specs.{Weights.weight_byte_of, Cells.nearest_byte}
use Rattle.point_slope.specs.Bytes.{byte_shares, total_mass, weighted_sum, answer_in, resting_answer, literal_grade}
use Rattle.point_slope.specs.Bytes.{byte_strength, byte_mass_among, byte_mass, ByteShare, byte_shares_from}
use Rattle.point_slope.specs.Bytes.{total_mass as byte_total, weighted_sum as byte_weighted}
use Rattle.point_slope.specs.Tables.{row_of, grade_of}
use Rattle.error_bound.specs.Boxes.{IsBox, LieIn, literal_byte_span, rule_byte_span, grades_over, least_from}
use Rattle.error_bound.specs.Tight.{greatest_of, byte_high_of, IsTightBound, IsSure, silent as tight_silent, sure}
use Rattle.error_bound.specs.{MassRanges.ranges, MassRanges.answer_at, MassRanges.rest_of, Tight.ranges_at}
use Rattle.error_bound.specs.{TightLaws.TightBoundsAreOne, TightLaws.TightBoundsAreSmall, Tight.of_bound as count_of}
use Rattle.error_bound.specs.{Spans.Span, Spans.only, Spans.reversed, Spans.spans, Spans.byte_span, Leaves.Holds}
use Rattle.error_bound.specs.{declared.boxes.Interval.Interval, Boxes.greatest_from, Boxes.IsBoxOf, Best.silent_leaf}
use Rattle.cell_error.specs.{Errors.Covers, Errors.IsRange, declared.ranges.MassRange.MassRange}
use Rattle.cell_error.specs.Errors.{sure_mass}
use Rattle.cell_error.specs.declared.ranges.Answer.{Answer}
use Rattle.cell_bounds.specs.Cells.{unsure, silent, ErrorsOnCellsAreOne, UnsureCellsHaveNone, IsErrorOnCell, IsUnsure}
use Rattle.cell_bounds.specs.CellBounds.{HasCellBound, of_tight, of_error, IsCellBound}
use Rattle.cell_bounds.specs.Cells.{IsCell, mass_sum, dot_sum, answer_by}
use Rattle.cell_bounds.specs.{declared.masses.CellMasses.CellMasses, CellMasses.AreCellMasses, CellMasses.terms_of}
use Rattle.fz_list.proofs.Algebra.{All-none, All-cons, some_at}
use Rattle.fz_num.specs.{declared.dec.Dec.Dec, Decimals.distance}
use Rattle.fuzzy_meaning.proofs.Algebra.{evaluate-alike}

-- some bytes lie in each box
abbrev pub lowest : List Interval → List ℕ
lowest box = map (λ (v : Interval). v.from) box

lowest_long : (box : List Interval) → length (lowest box) ≡ length box
lowest_long [] = refl
lowest_long (v ∷ vs) = ap suc (lowest_long vs)

lowest_at : (box : List Interval) (k : ℕ) (v : Interval) (n : ℕ) → slice_get box k ≡ Some v → slice_get
    (lowest box) k ≡ Some n
    → v.from ≡ n
lowest_at [] k v n e f = absurd (let z : ⊥ = cc in z)
lowest_at (w ∷ vs) zero v n e f = let s : w ≡ v = cc in let t : w.from ≡ n =
    cc in sym (ap (λ (i : Interval). i.from) s) ∙ t
lowest_at (w ∷ vs) (suc k) v n e f = lowest_at vs k v n e f

pub lowest_in : (box : List Interval) → IsBox box → LieIn box (lowest box)
lowest_in box h = record {
  count = lowest_long box;
  within = λ k v n e f.
      let s = lowest_at box k v n e f in
      let w = h.some k v e in
      let w0 = w.0 in
      (omega arith, omega arith);
}

pub errors_one : ErrorsOnCellsAreOne
errors_one b cell o x h n m is e f =
    let bytes = lowest cell in
    let inside = lowest_in cell is in
    let same : e.answer ≡ f.answer = sym (e.is_answer bytes 0 inside) ∙ f.is_answer bytes 0 inside in
    let p = e.error.least m (subst (λ q. Covers (answer_at h x q) (ranges b cell o x) (rest_of x) m) (sym same)
    f.error.covers) in
    let q = f.error.least n (subst (λ q. Covers (answer_at h x q) (ranges b cell o x) (rest_of x) n) same
    e.error.covers) in
    omega arith

-- without masses over bytes NC keeps the answer before, whatever it is
keeps : (b : Block) (o h : ℕ) (x : Output) (bytes : List ℕ) (before : ℕ) → output_at b o ≡ Some x → x.default ≡ None
    → total_mass (byte_shares b bytes o x) ≡ 0 → answer_in h b o bytes before ≡ before
keeps b o h x bytes before ex nc z =
    let e : (total_mass (byte_shares b bytes o x) == 0) ≡ true = eq-eqb (total_mass (byte_shares b bytes o x)) 0 z in
    let one = ap (λ v. cond v (resting_answer h x before)
    (h * weighted_sum (byte_shares b bytes o x) / total_mass (byte_shares b bytes o x))) e in
    let two = ap (λ d. option_map_or (λ d. h * nearest_byte x d) d before) nc in
    rw ex (one ∙ two)

pub unsure_none : UnsureCellsHaveNone
unsure_none b cell o x h n is ex (unsure nc z) e = let s = e.sure nc in absurd (omega arith)
unsure_none b cell o x h n is ex (silent nc none) e =
    let bytes = lowest cell in
    let inside = lowest_in cell is in
    let zero_is = sym (keeps b o h x bytes 0 ex nc (none bytes inside)) ∙ e.is_answer bytes 0 inside in
    let one_is = sym (keeps b o h x bytes 1 ex nc (none bytes inside)) ∙ e.is_answer bytes 1 inside in
    absurd (omega arith)

-- ---- the list of what masses lie between, as the code has it

pub quotient_le : (a b n : ℕ) → 0 < b → a ≤ n * b → a / b ≤ n
quotient_le a b n h l = ⊎_elim
    (λ (k : n < a / b). let j : suc n * b ≤ (a / b) * b = mul-le-mul_right b k in absurd (omega arith))
    (λ (k : a / b ≤ n). k)
    (cases_lt n (a / b))

pub ranges_same : (f f' g g' : ℕ → ℕ) (lo : Dec) → ((j : ℕ) → j < 15 → f j ≡ f' j) → ((j : ℕ) → j < 15 → g j ≡ g' j)
    → (k : ℕ) (us : List Dec) → k + length us ≤ 15 → ranges_at f g lo k us ≡ ranges_at f' g' lo k us
ranges_same f f' g g' lo hf hg k [] l = refl
ranges_same f f' g g' lo hf hg k (u ∷ us) l =
    let one : MassRange → MassRange → Type 0 = λ a b. a ≡ b in
    ap₂ (λ (t : MassRange) (ts : List MassRange). t ∷ ts)
    (ap₂ (λ (m n : ℕ). let t : MassRange = record { at = distance lo u; low = m; high = n } in t)
    (hf k (omega arith)) (hg k (omega arith)))
    (ranges_same f f' g g' lo hf hg (k + 1) us (omega arith))

pub ranges_ok : (f g : ℕ → ℕ) (lo hi : Dec) → lo.0 <ℤ hi.0 → ((j : ℕ) → j < 15 → f j ≤ 255000000000)
    → ((j : ℕ) → j < 15 → g j ≤ 255000000000) → ((j : ℕ) → j < 15 → f j ≤ g j) → (k : ℕ) (us : List Dec)
    → k + length us ≤ 15 → All (IsInRange lo hi) us
    → All (IsRange (distance lo hi)) (ranges_at f g lo k us)
ranges_ok f g lo hi range hf hg fg k [] l h = All-none (IsRange (distance lo hi))
ranges_ok f g lo hi range hf hg fg k (u ∷ us) l h =
    let r = h 0 u (omega arith) in
    let a = hf k (omega arith) in
    let b = hg k (omega arith) in
    All-cons (IsRange (distance lo hi)) (record { at = distance lo u; low = f k; high = g k })
    (ranges_at f g lo (k + 1) us)
    (record {
      at_to = omega (arith, ints, r.low, r.high);
      low_to = fg k (omega arith);
      high_to = hg k (omega arith);
    })
    (ranges_ok f g lo hi range hf hg fg (k + 1) us (omega arith) (λ i d j. h (suc i) d (omega arith)))

-- ---- what the code finds

pub masses_are : (b : Block) (box : List Interval) (o : ℕ) (x : Output) (h v : ℕ) (ts : List MassRange)
    (r : Option CellMasses) → output_at b o ≡ Some x
    → ((bytes : List ℕ) (before : ℕ) → LieIn box bytes → answer_in h b o bytes before ≡ v)
    → ts ≡ ranges b box o x → IfSome r (λ c. c.answer ≡ answer_at h x v) → IfSome r (λ c. terms_of c ≡ ts)
    → IfSome r (λ c. c.rest ≡ rest_of x) → IfSome r (λ c. x.default ≡ None → 0 < sure_mass ts)
    → IfSome r (λ c. IfSome (output_at b o) (λ y. AreCellMasses b box o y h c))
masses_are b box o x h v ts None ex is et answer terms rest some = tt
masses_are b box o x h v ts (Some c) ex is et answer terms rest some =
    let value : c.answer.value ≡ v = ap (λ (a : Answer). a.value) answer in
    rw ex (record {
      answer_is = answer ∙ ap (answer_at h x) (sym value);
      answers = λ bytes before inside. is bytes before inside ∙ sym value;
      terms_are = terms ∙ et;
      rest_is = rest;
      sure = subst (λ us. x.default ≡ None → 0 < sure_mass us) et some;
    })

pub unfinished : (b : Block) (box : List Interval) (o : ℕ) (x : Output) (ts : List MassRange) (r : Option CellMasses)
    → output_at b o ≡ Some x → ts ≡ ranges b box o x → IfNone r (x.default ≡ None) → IfNone r (sure_mass ts ≡ 0)
    → IfNone r (IfSome (output_at b o) (IsUnsure b box o))
unfinished b box o x ts (Some n) ex et nc none = tt
unfinished b box o x ts None ex et nc none =
    rw ex (unsure nc (subst (λ us. sure_mass us ≡ 0) et none))

pub unanswered : (b : Block) (box : List Interval) (o : ℕ) (x : Output) → output_at b o ≡ Some x → x.default ≡ None
    → ((bytes : List ℕ) → LieIn box bytes → total_mass (byte_shares b bytes o x) ≡ 0)
    → IfSome (output_at b o) (IsUnsure b box o)
unanswered b box o x ex nc none = rw ex (silent nc none)

-- ---- on a cell the answer over bytes is one

-- a span of one byte for each literal is one for each condition
point : (g : ℕ → ℕ → ℕ) (r : ℕ → ℕ → Span ℕ) → ((i t : ℕ) → r i t ≡ only (g i t)) → (c : Condition)
    → byte_span r c ≡ only (level 255 g c)
point g r = evaluate-alike (λ (s : Span ℕ) (n : ℕ). s ≡ only n)
    (record {
      none = λ or. refl;
      join = λ or s r m n h k. ap₂ (λ (a b : Span ℕ). (spans (levels 255)).join or a b) h k;
    })
    (λ s n h. ap (reversed (λ n. 255 - n)) h)

grades_point : (i : Input) (t : Trapezoid) (v : Interval) → v.from ≡ v.to
    → grades_over i t v ≡ only (grade_of (row_of i t) v.from)
grades_point i t v e =
    let g : ℕ → ℕ = grade_of (row_of i t) in
    let z : 0 ≡ v.to - v.from = omega arith in
    subst (λ n. let s : Span ℕ = record { low = least_from g v.from n; high = greatest_from g v.from n } in
    s ≡ only (g v.from)) z refl

module _ (b : Block) (box : List Interval) (bytes : List ℕ) (count : length box ≡ length b.inputs) (cell : IsCell box)
    (inside : LieIn box bytes) where
  by_term : (i t : ℕ) (x : Input) → input_at b i ≡ Some x → (o : Option Trapezoid) → slice_get x.terms (t - 1) ≡ o
      → literal_byte_span b box i t ≡ only (literal_grade b bytes i t)
  by_term i t x ex None et = rw (ex, et) refl
  by_term i t x ex (Some term) et =
      let l : i - 1 < length b.inputs = slice_get_within b.inputs (i - 1) x ex in
      let c2 = inside.count in
      let v = some_at box (i - 1) (omega arith) in
      let k : i - 1 < length bytes = omega arith in
      let en : slice_get bytes (i - 1) ≡ Some (slice_index bytes (i - 1)) = slice_get-get_or bytes (i - 1) 0 k in
      let ev : slice_get box (i - 1) ≡ Some v.0 = v.1 in
      let one = cell.single (i - 1) v.0 ev in
      let w = inside.within (i - 1) v.0 (slice_index bytes (i - 1)) ev en in
      let w0 = w.0 in
      let w1 = w.1 in
      let same : v.0.from ≡ slice_index bytes (i - 1) = omega arith in
      let p : grades_over x term v.0 ≡ only (grade_of (row_of x term) (slice_index bytes (i - 1))) =
      grades_point x term v.0 one ∙ ap (λ n. only (grade_of (row_of x term) n)) same in
      rw (ex, et, ev) p

  by_input : (i t : ℕ) (o : Option Input) → input_at b i ≡ o
      → literal_byte_span b box i t ≡ only (literal_grade b bytes i t)
  by_input i t None ex = rw ex refl
  by_input i t (Some x) ex = by_term i t x ex (slice_get x.terms (t - 1)) refl

  rule_point : (r : Rule) → (rule_byte_span b box r).high ≡ byte_strength b bytes r
  rule_point r = ap (λ (s : Span ℕ). s.high * (weight_byte_of r.weight + 1) / 256)
      (point (literal_grade b bytes) (literal_byte_span b box) (λ i t. by_input i t (input_at b i) refl) r.cond)

  mass_point : (o t : ℕ) (rs : List Rule) → greatest_of (λ r. (rule_byte_span b box r).high) o t rs
      ≡ byte_mass_among b bytes o t rs
  mass_point o t [] = refl
  mass_point o t (r ∷ rs) =
      ap₂ (λ m n. if concludes r o t then max m n else n) (rule_point r) (mass_point o t rs)

  -- sums by the masses at their places
  module _ (o : ℕ) (x : Output) (g : ℕ → ℕ) (gs : (k : ℕ) → k < 15 → g k ≡ byte_high_of b box o (k + 1)) where
    total_point : (k : ℕ) (us : List Dec) → k + length us ≤ 15
        → byte_total (byte_shares_from b bytes o x (k + 1) us) ≡ mass_sum g k us
    total_point k [] l = refl
    total_point k (u ∷ us) l =
        let tail : byte_total (byte_shares_from b bytes o x (k + 1 + 1) us) ≡ mass_sum g (k + 1) us =
        total_point (k + 1) us (omega arith) in
        let one : g k ≡ byte_mass b bytes o (k + 1) = gs k (omega arith) ∙ mass_point o (k + 1) b.rules in
        omega (
          arith,
          sum_by-cons (λ (s : ByteShare). s.mass)
              (record { byte = nearest_byte x u; mass = byte_mass b bytes o (k + 1) })
              (byte_shares_from b bytes o x (k + 1 + 1) us),
        )

    dot_point : (k : ℕ) (us : List Dec) → k + length us ≤ 15
        → byte_weighted (byte_shares_from b bytes o x (k + 1) us) ≡ dot_sum g x k us
    dot_point k [] l = refl
    dot_point k (u ∷ us) l =
        let tail : byte_weighted (byte_shares_from b bytes o x (k + 1 + 1) us) ≡ dot_sum g x (k + 1) us =
        dot_point (k + 1) us (omega arith) in
        let one : g k ≡ byte_mass b bytes o (k + 1) = gs k (omega arith) ∙ mass_point o (k + 1) b.rules in
        let two : nearest_byte x u * g k ≡ nearest_byte x u * byte_mass b bytes o (k + 1) =
        ap (λ n. nearest_byte x u * n) one in
        omega (
          arith,
          sum_by-cons (λ (s : ByteShare). s.byte * s.mass)
              (record { byte = nearest_byte x u; mass = byte_mass b bytes o (k + 1) })
              (byte_shares_from b bytes o x (k + 1 + 1) us),
        )

    pub answer_point : (h before : ℕ) → output_at b o ≡ Some x → length x.singletons ≤ 15
        → answer_in h b o bytes before ≡ answer_by g h x before
    answer_point h before ex l =
        let l0 : 0 + length x.singletons ≤ 15 = omega arith in
        rw ex (ap₂ (λ m n. if m == 0 then resting_answer h x before else h * n / m) (total_point 0 x.singletons l0)
        (dot_point 0 x.singletons l0))

    pub none_point : length x.singletons ≤ 15 → mass_sum g 0 x.singletons ≡ 0
        → byte_total (byte_shares b bytes o x) ≡ 0
    none_point l z = let l0 : 0 + length x.singletons ≤ 15 = omega arith in total_point 0 x.singletons l0 ∙ z

-- ---- the Bound of a cell, by what the code finds

-- what holds of an output that is there
pub at_output : {P Q : Output → Type 0} (b : Block) (o : ℕ) → 1 ≤ o → o ≤ length b.outputs
    → ((x : Output) → output_at b o ≡ Some x → P x → Q x) → IfSome (output_at b o) P → IfSome (output_at b o) Q
at_output {P} {Q} b o from to f p =
    let x = some_at b.outputs (o - 1) (omega arith) in
    let e : output_at b o ≡ Some x.0 = x.1 in
    let here : P x.0 = subst (λ r. IfSome r P) e p in
    subst (λ r. IfSome r Q) (sym e) (f x.0 e here)

pub each_output : {Q : Output → Type 0} (b : Block) (o : ℕ) → 1 ≤ o → o ≤ length b.outputs
    → ((x : Output) → output_at b o ≡ Some x → Q x) → IfSome (output_at b o) Q
each_output {Q} b o from to f =
    let x = some_at b.outputs (o - 1) (omega arith) in
    let e : output_at b o ≡ Some x.0 = x.1 in
    subst (λ r. IfSome r Q) (sym e) (f x.0 e)

-- ---- the less of the two

module _ (b : Block) (cell : List Interval) (o : ℕ) (x : Output) (h : ℕ) (valid : IsValid b) (is : IsBoxOf b cell)
    (ex : output_at b o ≡ Some x) (ones : TightBoundsAreOne) where
  -- what is found on either side, or is not there
  pub record IsTightSide (l : Option ℕ) : Type 0 where
    pub bound : IfSome l (λ n. IsTightBound b cell o x h n)
    pub loud : IfNone l (Holds b cell o silent_leaf → ⊥)
    pub unsure : IfNone l (IsSure b cell o x → ⊥)

  pub record IsErrorSide (r : Option ℕ) : Type 0 where
    pub error : IfSome r (λ n. IsErrorOnCell b cell o x h n)
    pub unsure : IfNone r (IsUnsure b cell o x)

  tight_side : (l : Option ℕ) → IfSome l (λ n. IfSome (output_at b o) (λ x. IsTightBound b cell o x h n))
      → IfNone l (Holds b cell o silent_leaf → ⊥) → IfNone l (IfSome (output_at b o) (λ x. IsSure b cell o x → ⊥))
      → IsTightSide l
  tight_side None p loud never = record {
    bound = tt;
    loud = loud;
    unsure = subst (λ r. IfSome r (λ x. IsSure b cell o x → ⊥)) ex never;
  }
  tight_side (Some n) p loud never = record {
    bound = subst (λ r. IfSome r (λ x. IsTightBound b cell o x h n)) ex p;
    loud = tt;
    unsure = tt;
  }

  error_side : (r : Option ℕ) → IfSome r (λ n. IfSome (output_at b o) (λ x. IsErrorOnCell b cell o x h n))
      → IfNone r (IfSome (output_at b o) (IsUnsure b cell o)) → IsErrorSide r
  error_side None p none = record { error = tt; unsure = subst (λ r. IfSome r (IsUnsure b cell o)) ex none }
  error_side (Some n) p none = record {
    error = subst (λ r. IfSome r (λ x. IsErrorOnCell b cell o x h n)) ex p;
    unsure = tt;
  }

  no_tight : (m : ℕ) → IsTightSide None → IsTightBound b cell o x h m → ⊥
  no_tight m l (tight_silent quiet e) = l.loud quiet
  no_tight m l (sure e es s i) = l.unsure s

  tight_least : (l : Option ℕ) (n m : ℕ) → IsTightSide l → IfSome l (λ t. n ≤ t) → IsTightBound b cell o x h m → n ≤ m
  tight_least None n m s le q = absurd (no_tight m s q)
  tight_least (Some t) n m s le q =
      let e = ones b cell o x h t m valid is.count (count_of s.bound) (count_of q) in omega arith

  error_least : (r : Option ℕ) (n m : ℕ) → IsErrorSide r → IfSome r (λ t. n ≤ t) → IsErrorOnCell b cell o x h m → n ≤ m
  error_least None n m s le q = absurd (unsure_none b cell o x h m is.intervals ex s.unsure q)
  error_least (Some t) n m s le q = let e = errors_one b cell o x h t m is.intervals s.error q in omega arith

  one_of : (l r : Option ℕ) (n : ℕ) → IsTightSide l → IsErrorSide r → (l ≡ Some n) ⊎ (r ≡ Some n)
      → HasCellBound b cell o x h n
  one_of l r n s t one = ⊎_elim
      (λ (e : l ≡ Some n). of_tight (subst (λ k. IfSome k (λ n. IsTightBound b cell o x h n)) e s.bound))
      (λ (e : r ≡ Some n). of_error (subst (λ k. IfSome k (λ n. IsErrorOnCell b cell o x h n)) e t.error)) one

  pub less_is : (l r : Option ℕ) (n : ℕ) → IsTightSide l → IsErrorSide r → (l ≡ Some n) ⊎ (r ≡ Some n)
      → IfSome l (λ t. n ≤ t) → IfSome r (λ t. n ≤ t) → IsCellBound b cell o x h n
  less_is l r n s t one le le' = record { bound = one_of l r n s t one; least = least }
    where
      least : (m : ℕ) → HasCellBound b cell o x h m → n ≤ m
      least m (of_tight q) = tight_least l n m s le q
      least m (of_error q) = error_least r n m t le' q

  pub neither : (l r : Option ℕ) → IsTightSide l → IsErrorSide r → l ≡ None → r ≡ None → (m : ℕ)
      → HasCellBound b cell o x h m → ⊥
  neither l r s t el er m (of_tight q) = no_tight m (subst IsTightSide el s) q
  neither l r s t el er m (of_error q) =
      unsure_none b cell o x h m is.intervals ex (subst IsErrorSide er t).unsure q

module _ (b : Block) (cell : List Interval) (o h : ℕ) (from : 1 ≤ o) (to : o ≤ length b.outputs) (valid : IsValid b)
    (is : IsBoxOf b cell) (ones : TightBoundsAreOne) (l r : Option ℕ)
    (bound : IfSome l (λ n. IfSome (output_at b o) (λ x. IsTightBound b cell o x h n)))
    (loud : IfNone l (Holds b cell o silent_leaf → ⊥))
    (no_sure : IfNone l (IfSome (output_at b o) (λ x. IsSure b cell o x → ⊥)))
    (error : IfSome r (λ n. IfSome (output_at b o) (λ x. IsErrorOnCell b cell o x h n)))
    (unsure : IfNone r (IfSome (output_at b o) (IsUnsure b cell o))) where
  small_side : (s : Option ℕ) → IfSome s (λ n. n ≤ 1000000) → (n : ℕ) → s ≡ Some n → n ≤ 1000000
  small_side None h n e = absurd (let z : ⊥ = cc in z)
  small_side (Some m) h n e = let same : m ≡ n = cc in omega arith

  small_left : TightBoundsAreSmall → (s : Option ℕ)
      → IfSome s (λ n. IfSome (output_at b o) (λ x. IsTightBound b cell o x h n)) → IfSome s (λ n. n ≤ 1000000)
  small_left small None p = tt
  small_left small (Some n) p =
      let x = some_at b.outputs (o - 1) (omega arith) in
      let e : output_at b o ≡ Some x.0 = x.1 in
      small b cell o x.0 h n (subst (λ r. IfSome r (λ x. IsTightBound b cell o x h n)) e p)

  -- the less of the two has what the Bound of the cell is, and where there is none, the cell has none
  pub less_found : TightBoundsAreSmall → IfSome r (λ n. n ≤ 1000000) → (s : Option ℕ)
      → IfSome s (λ n. (l ≡ Some n) ⊎ (r ≡ Some n)) → IfSome s (λ n. IfSome l (λ t. n ≤ t))
      → IfSome s (λ n. IfSome r (λ t. n ≤ t)) → IfNone s (l ≡ None) → IfNone s (r ≡ None)
      → IfSome s (λ n. IfSome (output_at b o) (λ x. IsCellBound b cell o x h n)) × IfSome s (λ n. n ≤ 1000000)
      × IfNone s (IfSome (output_at b o) (λ x. (n : ℕ) → HasCellBound b cell o x h n → ⊥))
  less_found small small_r None one le le' no_left no_right = (
    tt,
    tt,
    each_output b o from to (λ x ex. neither b cell o x h valid is ex ones l r
        (tight_side b cell o x h valid is ex ones l bound loud no_sure)
        (error_side b cell o x h valid is ex ones r error unsure) no_left no_right),
  )
  less_found small small_r (Some n) one le le' no_left no_right = (
    each_output b o from to (λ x ex. less_is b cell o x h valid is ex ones l r n
        (tight_side b cell o x h valid is ex ones l bound loud no_sure)
        (error_side b cell o x h valid is ex ones r error unsure) one le le'),
    ⊎_elim (λ (e : l ≡ Some n). small_side l (small_left small l bound) n e)
        (λ (e : r ≡ Some n). small_side r small_r n e) one,
    tt,
  )
