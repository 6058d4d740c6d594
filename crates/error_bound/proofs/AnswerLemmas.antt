-- The answers over bytes are near the exact ones.
use Rattle.std.proofs.Common.{◌≡◌, ℕ, ◌+◌, ◌-◌, ◌*◌, ◌/◌, ◌<◌, ◌≤◌, true, false, cond, List, length, Option, Some}
use Rattle.std.proofs.Common.{None, refl, sym, ap, ◌∙◌, subst, arith, ◌⊎◌, inl, inr, ⊎_elim, [], ◌∷◌, mul-pos}
use Rattle.std.proofs.{Common.mul-le-mul_right, Common.le_of_mul-le-mul_right, lemmas.Option.slice_get_within}
use Rattle.std.proofs.{lemmas.Bool.Decides.nat_tests, lemmas.Bool.cases_lt, lemmas.Bool.eq-eqb, lemmas.Int.ints}
use Rattle.std.specs.Prelude.{◌≢◌, ◌==◌, ◌<ℤ◌, IfSome, All, IsTrue, ℤ, pos, ◌+ℤ◌, ◌*ℤ◌, if◌then◌else◌}
use Rattle.std.specs.Option.{option_map_or}
use Rattle.fz_num.specs.{Fractions.over, Fractions.Quotient, Fractions.IsClose, declared.dec.Dec.Dec}
use Rattle.fz_num.specs.Decimals.{distance}
use Rattle.fuzzy_meaning.specs.Meaning.{shares, centre, quotient_of, total_mass, concludes, mass, weighted_sum}
use Rattle.fuzzy_meaning.specs.Blocks.{IsValid, IsWithin as IsInRange, IsValidOutput, output_at}
use Rattle.fuzzy_meaning.specs.{Places.NumbersHaveTheirDegrees, declared.block.Output.Output}
use Rattle.fuzzy_meaning.specs.declared.block.Block.{Block}
use Rattle.byte_scaling.specs.Cells.{nearest_byte, NearestIsByte, value_in}
use Rattle.point_slope.specs.Bytes.{byte_shares, total_mass as byte_total, weighted_sum as byte_weighted}
use Rattle.point_slope.specs.Bytes.{centre as byte_centre, resting_answer}
use Rattle.error_bound.specs.Tight.{IsSure, IsSureBound, IsTightBound, silent as tight_silent, sure, low_of, high_of}
use Rattle.error_bound.specs.{Tight.ranges_at, Spans.Span}
use Rattle.cell_error.specs.Means.{MeansHaveErrors}
use Rattle.error_bound.specs.MassRanges.{ranges, answer_at, rest_of, AreOverBox}
use Rattle.error_bound.specs.Bounds.{in_millionths, offset, silent_bound, strong_bound, errors_from, IsBound}
use Rattle.error_bound.specs.TightLaws.{IsAnsweredWithin, kept, near, TightAnswersAreNear}
use Rattle.error_bound.specs.{Leaves.Holds, Leaves.strong, Leaves.silent, Leaves.IsStill, declared.boxes.Leaf.Leaf}
use Rattle.error_bound.specs.{MassRanges.AnswersToMassesAreNear, declared.boxes.Interval.Interval, Tight.live_offset}
use Rattle.error_bound.specs.{Answers.Follows, Answers.AnswersAreNear, Errors.AreTermErrors, Errors.billion}
use Rattle.error_bound.specs.{Boxes.LieIn, Boxes.LieInCells, CellErrors.term_errors, Best.silent_leaf}
use Rattle.error_bound.proofs.Rows.{close_default, close_value, Row, dens, mass_sum, weighted as weighted_rows}
use Rattle.error_bound.proofs.TightLemmas.{strong_sure, strong_least, sure_has, IsMassBetween, mass_between}
use Rattle.error_bound.proofs.Shares.{weights, firing, rows_from, all_ok, same_sum, centre_some}
use Rattle.error_bound.proofs.Literals.{literals, term_errors-from, term_errors-are}
use Rattle.error_bound.proofs.{RuleLemmas.centre_none, RuleLemmas.still_sums, Nested.bound_strong, Nested.bound_silent}
use Rattle.error_bound.proofs.Rows.{dens_pos}
use Rattle.fz_list.proofs.Algebra.{All-slice_get, some_at}
use Rattle.fz_num.proofs.Algebra.{IsClose-more}
use Rattle.cell_error.specs.Errors.{sure_mass, AreBetween, total, weighted, answer_of, IsWithin, Covers}
use Rattle.cell_error.specs.declared.ranges.MassRange.{MassRange}

-- what the answer in h parts to a byte is, by the sums
pub record IsAnswer (b : Block) (bytes : List ℕ) (o : ℕ) (x : Output) (h : ℕ) (before q : ℕ) : Type 0 where
  pub moving : 0 < byte_total (byte_shares b bytes o x)
      → (q * byte_total (byte_shares b bytes o x) ≤ h * byte_weighted (byte_shares b bytes o x))
      × (h * byte_weighted (byte_shares b bytes o x) ≤ (q + 1) * byte_total (byte_shares b bytes o x))
  pub resting : byte_total (byte_shares b bytes o x) ≡ 0
      → q ≡ option_map_or (λ d. h * nearest_byte x d) x.default before

kept_default : (h : ℕ) (x : Output) (d : Option Dec) (q q' : ℕ) (before : Quotient)
    → q' ≡ option_map_or (λ d. h * nearest_byte x d) d q → d ≡ None
    → (q' ≡ q) × (option_map_or quotient_of d before ≡ before)
kept_default h x None q q' before e z = (e, refl)
kept_default h x (Some d) q q' before e z = absurd (let w : ⊥ = cc in w)

near_default : NearestIsByte → (h : ℕ) (x : Output) (d : Option Dec) (q q' : ℕ) (before : Quotient) → 0 < h
    → x.lo.0 <ℤ x.hi.0 → IfSome d (IsInRange x.lo x.hi) → q' ≡ option_map_or (λ d. h * nearest_byte x d) d q → d ≢ None
    → IsClose (distance x.lo x.hi)
    (option_map_or (λ d. in_millionths (over (offset x d) (255 * distance x.lo x.hi))) d 0) (value_in h x q')
    (option_map_or quotient_of d before)
near_default is_byte h x None q q' before hh range w e z = absurd (z refl)
near_default is_byte h x (Some d) q q' before hh range w e z =
    subst (λ k. IsClose (distance x.lo x.hi) (in_millionths (over (offset x d) (255 * distance x.lo x.hi)))
    (value_in h x k) (quotient_of d)) (sym e) (close_default is_byte h x d hh range w)

pub quiet_rules : (b : Block) (box : List Interval) (o : ℕ) → Holds b box o silent_leaf
    → All (λ r. (t : ℕ) → IsTrue (concludes r o t) → IsStill b box r) b.rules
quiet_rules b box o (strong r from some to e s) = absurd (omega arith)
quiet_rules b box o (silent z k every) = every

-- a box with a list of bytes has errors
errors_on : (b : Block) (box : List Interval) (bytes : List ℕ) → IsValid b → LieIn box bytes
    → AreTermErrors b box (term_errors b box)
errors_on b box bytes valid on = term_errors-from b box valid (λ k v e.
    let l : k < length box = slice_get_within box k v e in
    let n = some_at bytes k (let c = on.count in omega arith) in
    let p = on.within k v n.0 e n.1 in
    through p.0 p.1)
  where
    through : {p q r : ℕ} → p ≤ q → q ≤ r → p ≤ r
    through h k = omega arith

-- in any number of parts
module _ (of_numbers : NumbersHaveTheirDegrees) (is_byte : NearestIsByte) (b : Block) (box : List Interval) (o : ℕ)
    (x : Output) (h : ℕ) (bytes : List ℕ) (xs : List Dec) (valid : IsValid b) (ex : output_at b o ≡ Some x) (hh : 0 < h)
    (cells : LieInCells b bytes xs) (on : LieIn box bytes) (before : Quotient) (q q' : ℕ)
    (a : IsAnswer b bytes o x h q q') where
  abbrev after : Quotient
  after = centre (shares b xs o x) (option_map_or quotient_of x.default before)

  -- on a sure box
  sure_close : (e : ℕ → ℕ → Span ℕ) (n : ℕ) → AreTermErrors b box e → IsSure b box o x → IsSureBound b box e o x h n
      → IsClose (distance x.lo x.hi) n (value_in h x q') after
  sure_close e n es s is =
      let ls = literals of_numbers b box bytes xs e valid cells on es in
      let f = firing b box bytes xs e valid ls is_byte o x h n ex hh s is in
      let p = a.moving f.byte_pos in
      f.close q' (option_map_or quotient_of x.default before) p.0 p.1

  -- where no rule fires
  still_at : All (λ r. (t : ℕ) → IsTrue (concludes r o t) → IsStill b box r) b.rules
      → (total_mass (shares b xs o x) ≡ 0) × (byte_total (byte_shares b bytes o x) ≡ 0)
  still_at every =
      let ls = literals of_numbers b box bytes xs (term_errors b box) valid cells on (errors_on b box bytes valid on) in
      still_sums b box bytes xs (term_errors b box) ls o x 1 x.singletons (weights b valid) every

  still_kept : All (λ r. (t : ℕ) → IsTrue (concludes r o t) → IsStill b box r) b.rules → x.default ≡ None
      → (q' ≡ q) × (after ≡ before)
  still_kept every d =
      let st = still_at every in
      let ec = centre_none (shares b xs o x) (option_map_or quotient_of x.default before) st.0 in
      let p = kept_default h x x.default q q' before (a.resting st.1) d in
      (p.0, ec ∙ p.1)

  still_close : All (λ r. (t : ℕ) → IsTrue (concludes r o t) → IsStill b box r) b.rules → x.default ≢ None
      → IsClose (distance x.lo x.hi) (silent_bound x) (value_in h x q') after
  still_close every d =
      let st = still_at every in
      let vx = All-slice_get IsValidOutput b.outputs (o - 1) x valid.outputs ex in
      let ec = centre_none (shares b xs o x) (option_map_or quotient_of x.default before) st.0 in
      subst (IsClose (distance x.lo x.hi) (silent_bound x) (value_in h x q')) (sym ec)
      (near_default is_byte h x x.default q q' before hh vx.range vx.default_in (a.resting st.1) d)

  tight_answered : (n : ℕ) → IsTightBound b box o x h n → IsAnsweredWithin x n q q' (value_in h x q') before after
  tight_answered n (tight_silent quiet is) = by_default x.default refl
    where
      by_default : (d : Option Dec) → x.default ≡ d → IsAnsweredWithin x n q q' (value_in h x q') before after
      by_default None e = let k = still_kept (quiet_rules b box o quiet) e in kept e k.0 k.1
      by_default (Some d) e =
          near (subst (λ m. IsClose (distance x.lo x.hi) m (value_in h x q') after) (sym is)
          (still_close (quiet_rules b box o quiet) (λ z. (let y : ⊥ = cc in y))))
  tight_answered n (sure e es s is) = near (sure_close e n es s is)

  -- a leaf's Bound is no smaller
  leaf_follows : MeansHaveErrors → (leaf : Leaf) (n : ℕ) → Holds b box o leaf → IsBound b box o x h leaf n
      → Follows x leaf n q q' (value_in h x q') before after
  leaf_follows have leaf n (strong r from k_from k_to er s) bd =
      let e = bd.errors in
      let sum = errors_from b e o 1 x.singletons in
      let tight = strong_sure b box e o x valid ex (leaf.rule - 1) r leaf.k er k_from s in
      let vx = All-slice_get IsValidOutput b.outputs (o - 1) x valid.outputs ex in
      let m = sure_has have b box e o x vx.range h hh tight in
      let least = strong_least b box e o x valid ex (leaf.rule - 1) r leaf.k er k_from s h m.0 hh m.1 in
      let c = IsClose-more (distance x.lo x.hi) m.0 (strong_bound x h sum leaf.k) (value_in h x q') after least
      (sure_close e m.0 bd.are_errors tight m.1) in
      let eb : n ≡ strong_bound x h sum leaf.k = bd.is ∙ bound_strong x h leaf.k sum k_from in
      record {
        kept = λ z d. absurd (omega arith);
        near = λ _. subst (λ m. IsClose (distance x.lo x.hi) m (value_in h x q') after) (sym eb) c;
      }
  leaf_follows have leaf n (silent z k every) bd =
      let eb : n ≡ silent_bound x = bd.is ∙ bound_silent x h leaf.k (errors_from b bd.errors o 1 x.singletons) k in
      record {
        kept = λ _ d. still_kept every d;
        near = λ d. subst (λ m. IsClose (distance x.lo x.hi) m (value_in h x q') after) (sym eb)
            (still_close every (d k));
      }

-- rounded down
chosen : (total weighted otherwise : ℕ) → 0 < total
    → (if total == 0 then otherwise else weighted / total) ≡ weighted / total
chosen total weighted otherwise h = let e : (total == 0) ≡ false = grind (arith, nat_tests) in
    ap (λ c. cond c otherwise (weighted / total)) e

left : (total weighted otherwise : ℕ) → total ≡ 0 → (if total == 0 then otherwise else weighted / total) ≡ otherwise
left total weighted otherwise h = let e : (total == 0) ≡ true = grind (arith, nat_tests) in
    ap (λ c. cond c otherwise (weighted / total)) e

floored : (total weighted q : ℕ) → 0 < total → q ≡ weighted / total
    → (q * total ≤ weighted) × (weighted ≤ (q + 1) * total)
floored total weighted q h e =
    subst (λ k. (k * total ≤ weighted) × (weighted ≤ (k + 1) * total)) (sym e) (omega arith, omega arith)

in_parts : (total weighted h otherwise : ℕ) → 0 < total
    → ((if total == 0 then otherwise else h * weighted / total) * total ≤ h * weighted)
    × (h * weighted ≤ ((if total == 0 then otherwise else h * weighted / total) + 1) * total)
in_parts total weighted h otherwise p =
    floored total (h * weighted) (if total == 0 then otherwise else h * weighted / total) p
    (chosen total (h * weighted) otherwise p)

answer_is : (h : ℕ) (b : Block) (bytes : List ℕ) (o : ℕ) (x : Output) (before : ℕ)
    → IsAnswer b bytes o x h before (byte_centre h (byte_shares b bytes o x) (resting_answer h x before))
answer_is h b bytes o x before =
    let t = byte_total (byte_shares b bytes o x) in
    let w = byte_weighted (byte_shares b bytes o x) in
    record {
      moving = λ p. in_parts t w h (resting_answer h x before) p;
      resting =
          λ z. left t (h * w) (resting_answer h x before) z;
    }

pub tight_answers_near : NumbersHaveTheirDegrees → NearestIsByte → TightAnswersAreNear
tight_answers_near of_numbers is_byte b box o x h n bytes xs before q on =
    let ex = on.output_is in
    rw ex (tight_answered of_numbers is_byte b box o x h bytes xs on.valid ex on.parts on.cells on.box_is before q
    (byte_centre h (byte_shares b bytes o x) (resting_answer h x q)) (answer_is h b bytes o x q) n on.bound_is)

pub answers_near : NumbersHaveTheirDegrees → NearestIsByte → MeansHaveErrors → AnswersAreNear
answers_near of_numbers is_byte have b box o x h leaf n bytes xs before q on =
    let ex = on.output_is in
    rw ex (leaf_follows of_numbers is_byte b box o x h bytes xs on.valid ex on.parts on.cells on.box_is before q
    (byte_centre h (byte_shares b bytes o x) (resting_answer h x q)) (answer_is h b bytes o x q) have leaf n on.holds
    on.bound_is)

-- ---- what is within of the answers to all masses is so of the exact answer

-- ---- all masses over their common denominator

abbrev scaled : ℕ → List ℕ → List ℕ
scaled k [] = []
scaled k (m ∷ ms) = k * m ∷ scaled k ms

abbrev masses_of : ℕ → List Row → List ℕ
masses_of c [] = []
masses_of c (r ∷ rs) = c * r.f.num * dens rs ∷ scaled r.f.den (masses_of c rs)

total_scaled : (k : ℕ) (ms : List ℕ) → total (scaled k ms) ≡ k * total ms
total_scaled k [] = omega arith
total_scaled k (m ∷ ms) = let e = total_scaled k ms in omega arith

weighted_scaled : (k : ℕ) (ts : List MassRange) (ms : List ℕ) → weighted ts (scaled k ms) ≡ k * weighted ts ms
weighted_scaled k [] ms = omega arith
weighted_scaled k (t ∷ ts) [] = omega arith
weighted_scaled k (t ∷ ts) (m ∷ ms) = let e = weighted_scaled k ts ms in omega arith

between_scaled : (k d : ℕ) (ts : List MassRange) (ms : List ℕ) → AreBetween d ts ms
    → AreBetween (k * d) ts (scaled k ms)
between_scaled k d [] [] h = tt
between_scaled k d [] (m ∷ ms) h = absurd h
between_scaled k d (t ∷ ts) [] h = absurd h
between_scaled k d (t ∷ ts) (m ∷ ms) h =
    let a : (t.low * d) * k ≤ m * k = mul-le-mul_right k h.0 in
    let c : m * k ≤ (t.high * d) * k = mul-le-mul_right k h.1 in
    (omega arith, omega arith, between_scaled k d ts ms h.2)

total_of : (c : ℕ) (rs : List Row) → total (masses_of c rs) ≡ c * mass_sum rs
total_of c [] = omega arith
total_of c (r ∷ rs) =
    let e = total_scaled r.f.den (masses_of c rs) in
    let k : r.f.den * total (masses_of c rs) ≡ r.f.den * (c * mass_sum rs) = ap (λ n. r.f.den * n) (total_of c rs) in
    omega arith

module _ (b : Block) (box : List Interval) (bytes : List ℕ) (xs : List Dec) (e : ℕ → ℕ → Span ℕ) (o : ℕ) (x : Output)
    (lower upper : ℕ → ℕ) where
  weighted_of : (c k : ℕ) (us : List Dec)
      → weighted (ranges_at lower upper x.lo k us) (masses_of c (rows_from b box bytes xs e o x (k + 1) us))
      ≡ c * weighted_rows (rows_from b box bytes xs e o x (k + 1) us)
  weighted_of c k [] = omega arith
  weighted_of c k (u ∷ us) =
      let f = mass b xs o (k + 1) in
      let rs = rows_from b box bytes xs e o x (k + 1 + 1) us in
      let ts = ranges_at lower upper x.lo (k + 1) us in
      let s = weighted_scaled f.den ts (masses_of c rs) in
      let k : f.den * weighted ts (masses_of c rs) ≡ f.den * (c * weighted_rows rs) =
      ap (λ n. f.den * n) (weighted_of c (k + 1) us) in
      omega arith

  ranges_between : (c k : ℕ) (us : List Dec)
      → ((j : ℕ) → IsMassBetween c (lower j) (upper j) (mass b xs o (j + 1)))
      → AreBetween (dens (rows_from b box bytes xs e o x (k + 1) us)) (ranges_at lower upper x.lo k us)
      (masses_of c (rows_from b box bytes xs e o x (k + 1) us))
  ranges_between c k [] h = tt
  ranges_between c k (u ∷ us) h =
      let f = mass b xs o (k + 1) in
      let rs = rows_from b box bytes xs e o x (k + 1 + 1) us in
      let ts = ranges_at lower upper x.lo (k + 1) us in
      let m = h k in
      let a : (lower k * f.den) * dens rs ≤ (c * f.num) * dens rs = mul-le-mul_right (dens rs) m.low in
      let d : (c * f.num) * dens rs ≤ (upper k * f.den) * dens rs = mul-le-mul_right (dens rs) m.high in
      (omega arith, omega arith, between_scaled f.den (dens rs) ts (masses_of c rs) (ranges_between c (k + 1) us h))

-- ---- the answer to these masses is the exact one

answer_some : (ts : List MassRange) (rest : ℕ) (ms : List ℕ) → 0 < total ms
    → answer_of ts rest ms ≡ over (weighted ts ms) (total ms)
answer_some ts rest ms h = let e : (total ms == 0) ≡ false = grind (arith, nat_tests) in
    ap (λ v. cond v (over rest 1) (over (weighted ts ms) (total ms))) e

answer_none : (ts : List MassRange) (rest : ℕ) (ms : List ℕ) → total ms ≡ 0 → answer_of ts rest ms ≡ over rest 1
answer_none ts rest ms h = let e : (total ms == 0) ≡ true = eq-eqb (total ms) 0 h in
    ap (λ v. cond v (over rest 1) (over (weighted ts ms) (total ms))) e

cases_zero : (n : ℕ) → (n ≡ 0) ⊎ (0 < n)
cases_zero n = ⊎_elim (λ (l : 0 < n). inr l) (λ (l : n ≤ 0). inl (omega arith)) (cases_lt 0 n)

-- sure masses are there
sure_le : (d : ℕ) (ts : List MassRange) (ms : List ℕ) → AreBetween d ts ms → sure_mass ts * d ≤ total ms
sure_le d [] [] h = omega arith
sure_le d [] (m ∷ ms) h = absurd h
sure_le d (t ∷ ts) [] h = absurd h
sure_le d (t ∷ ts) (m ∷ ms) h = let k = sure_le d ts ms h.2 in let a = h.0 in omega arith

-- a distance to masses in c parts
close_of : (h : ℕ) (x : Output) (n q c wd m : ℕ) (z : ℤ) → 0 < h → 0 < c → 0 < m → z ≡ x.lo.0 *ℤ pos m +ℤ pos wd
    → IsWithin (answer_at h x q) n (over (c * wd) (c * m))
    → IsClose (distance x.lo x.hi) n (value_in h x q) (record { num = z; den = m * 10000 })
close_of h x n q c wd m z hh hc hm ez w =
    let d = distance x.lo x.hi in
    let a1 : (q * d * m * 1000000) * c ≤ (wd * (255 * h) * 1000000 + n * d * (255 * h) * m) * c = omega arith in
    let a2 : (wd * (255 * h) * 1000000) * c ≤ (q * d * m * 1000000 + n * d * (255 * h) * m) * c = omega arith in
    close_value h x n q z m wd hh hm ez
    (record { up = le_of_mul-le-mul_right a1 hc; down = le_of_mul-le-mul_right a2 hc })

close_rest : (h : ℕ) (x : Output) (n q : ℕ) (d : Dec) → 0 < h → IsInRange x.lo x.hi d
    → IsWithin (answer_at h x q) n (over (distance x.lo d) 1)
    → IsClose (distance x.lo x.hi) n (value_in h x q) (quotient_of d)
close_rest h x n q d hh r w =
    close_value h x n q d.0 1 (distance x.lo d) hh (omega arith) (omega (arith, ints, r.low))
    (record { up = omega arith; down = omega arith })

at_rest : (h : ℕ) (x : Output) (n q : ℕ) (o : Option Dec) (before : Quotient) → 0 < h → IfSome o (IsInRange x.lo x.hi)
    → (o ≡ None → ⊥) → IsWithin (answer_at h x q) n (over (option_map_or (λ d. distance x.lo d) o 0) 1)
    → IsClose (distance x.lo x.hi) n (value_in h x q) (option_map_or quotient_of o before)
at_rest h x n q None before hh r some w = absurd (some refl)
at_rest h x n q (Some d) before hh r some w = close_rest h x n q d hh r w

within_answer : NumbersHaveTheirDegrees → NearestIsByte
    → (b : Block) (box : List Interval) (o : ℕ) (x : Output) (h : ℕ) (bytes : List ℕ) (xs : List Dec) (n q : ℕ)
    (before : Quotient) → AreOverBox b box o x h bytes xs
    → (x.default ≡ None → 0 < sure_mass (ranges b box o x))
    → Covers (answer_at h x q) (ranges b box o x) (rest_of x) n
    → IsClose (distance x.lo x.hi) n (value_in h x q)
    (centre (shares b xs o x) (option_map_or quotient_of x.default before))
within_answer of_numbers is_byte b box o x h bytes xs n q before on some covers =
    let e = term_errors b box in
    let ls = literals of_numbers b box bytes xs e on.valid on.cells
    on.within (term_errors-are b box on.valid on.box_is) in
    let hw = weights b on.valid in
    let vx = All-slice_get IsValidOutput b.outputs (o - 1) x on.valid.outputs on.output_is in
    let rs = rows_from b box bytes xs e o x 1 x.singletons in
    let ts = ranges b box o x in
    let c = 255 * billion in
    let ms = masses_of c rs in
    let ss = shares b xs o x in
    let w = distance x.lo x.hi in
    let ok = all_ok b box bytes xs e ls hw o x is_byte vx.range vx.singletons in
    let dp : 0 < dens rs = dens_pos billion w (live_offset b box o x) rs ok in
    let sm = same_sum b box bytes xs e o x 1 x.singletons vx.singletons in
    let lower : ℕ → ℕ = λ k. low_of b box o (k + 1) in
    let upper : ℕ → ℕ = λ k. high_of b box o (k + 1) in
    let bt = ranges_between b box bytes xs e o x lower upper c 0 x.singletons
    (λ k. mass_between b box bytes xs e ls o (k + 1) b.rules hw) in
    let near = covers (dens rs) ms dp bt in
    let et : total ms ≡ c * mass_sum rs = total_of c rs in
    let ew : weighted ts ms ≡ c * weighted_rows rs =
    weighted_of b box bytes xs e o x lower upper c 0 x.singletons in
    let otherwise = option_map_or quotient_of x.default before in
    ⊎_elim
    (λ (z : mass_sum rs ≡ 0).
    let tz : total ms ≡ 0 = et ∙ ap (λ k. c * k) z in
    let mz : total_mass ss ≡ 0 = sm.masses_is ∙ z in
    let none_sure : x.default ≡ None → ⊥ = λ p.
    let s : 0 < sure_mass ts = some p in
    let le = sure_le (dens rs) ts ms bt in
    let pp = mul-pos s dp in
    absurd (omega arith) in
    subst (IsClose w n (value_in h x q)) (sym (centre_none ss otherwise mz))
    (at_rest h x n q x.default before on.parts vx.default_in none_sure
    (subst (IsWithin (answer_at h x q) n) (answer_none ts (rest_of x) ms tz) near)))
    (λ (p : 0 < mass_sum rs).
    let tp : 0 < total ms = omega arith in
    let mp : 0 < total_mass ss = subst (λ k. 0 < k) (sym sm.masses_is) p in
    let near1 : IsWithin (answer_at h x q) n (over (weighted ts ms) (total ms)) =
    subst (IsWithin (answer_at h x q) n) (answer_some ts (rest_of x) ms tp) near in
    let near2 : IsWithin (answer_at h x q) n (over (c * weighted_rows rs) (c * mass_sum rs)) =
    subst (λ k. IsWithin (answer_at h x q) n (over k (c * mass_sum rs))) ew
    (subst (λ k. IsWithin (answer_at h x q) n (over (weighted ts ms) k)) et near1) in
    let i = close_of h x n q c (weighted_rows rs) (mass_sum rs) (weighted_sum ss) on.parts (omega arith) p sm.sum_is
    near2 in
    subst (IsClose w n (value_in h x q)) (sym (centre_some ss otherwise mp))
    (subst (λ k. IsClose w n (value_in h x q) (record { num = weighted_sum ss; den = k * 10000 }))
    (sym sm.masses_is) i))
    (cases_zero (mass_sum rs))

pub answers_to_masses : NumbersHaveTheirDegrees → NearestIsByte → AnswersToMassesAreNear
answers_to_masses of_numbers is_byte b box o x h bytes xs n q before on some covers =
    let ex = on.output_is in
    rw ex (within_answer of_numbers is_byte b box o x h bytes xs n q before on some covers)
