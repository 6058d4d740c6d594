-- Answers over bytes are in range.
use Rattle.std.proofs.Common.{◌≡◌, ℕ, suc, ◌+◌, ◌*◌, ◌/◌, ◌≤◌, Bool, true, false, List, [], ◌∷◌, Option, Some, None}
use Rattle.std.proofs.Common.{refl, arith, mul-le-mul_left, mul-le-mul_right}
use Rattle.std.specs.Prelude.{All, IfSome, ◌<ℤ◌, if◌then◌else◌, ◌==◌}
use Rattle.std.specs.Option.{option_map_or}
use Rattle.std.proofs.Math.Nat.{div-le_of_le-mul}
use Rattle.std.proofs.lemmas.List.Sums.{sum_by-cons}
use Rattle.fz_num.specs.declared.dec.Dec.{Dec}
use Rattle.fuzzy_meaning.specs.declared.{block.Block.Block, block.Output.Output}
use Rattle.fuzzy_meaning.specs.Blocks.{IsValidOutput, IsWithin, output_at}
use Rattle.fz_list.proofs.Algebra.{All-slice_get}
use Rattle.byte_scaling.specs.Cells.{nearest_byte, NearestIsByte}
use Rattle.point_slope.specs.Bytes.{ByteShare, byte_mass, byte_shares_from, byte_shares, total_mass, weighted_sum}
use Rattle.point_slope.specs.Bytes.{centre, resting_answer, AnswersAreInRange}

-- weighted bytes sum to at most 255 times the masses
weighted_sum-le : NearestIsByte → (b : Block) (bytes : List ℕ) (o : ℕ) (x : Output) (t : ℕ) (us : List Dec)
    → x.lo.0 <ℤ x.hi.0 → All (IsWithin x.lo x.hi) us
    → weighted_sum (byte_shares_from b bytes o x t us) ≤ 255 * total_mass (byte_shares_from b bytes o x t us)
weighted_sum-le near b bytes o x t [] range h = omega arith
weighted_sum-le near b bytes o x t (u ∷ us) range h =
    let s : ByteShare = record { byte = nearest_byte x u; mass = byte_mass b bytes o t } in
    let rest = byte_shares_from b bytes o x (t + 1) us in
    let small : nearest_byte x u ≤ 255 = near x u range (h 0 u (omega arith)) in
    let below : nearest_byte x u * byte_mass b bytes o t ≤ 255 * byte_mass b bytes o t =
    mul-le-mul_right (byte_mass b bytes o t) small in
    let tail : weighted_sum rest ≤ 255 * total_mass rest =
    weighted_sum-le near b bytes o x (t + 1) us range (λ k d l. h (suc k) d (omega arith)) in
    omega (
      arith,
      sum_by-cons (λ (s : ByteShare). s.byte * s.mass) s rest,
      sum_by-cons (λ (s : ByteShare). s.mass) s rest,
      below,
      tail,
    )

resting_answer-le : NearestIsByte → (h : ℕ) (x : Output) (d : Option Dec) (before : ℕ) → x.lo.0 <ℤ x.hi.0
    → IfSome d (IsWithin x.lo x.hi) → before ≤ 255 * h → option_map_or (λ d. h * nearest_byte x d) d before ≤ 255 * h
resting_answer-le near h x None before range within small = small
resting_answer-le near h x (Some d) before range within small =
    omega (arith, mul-le-mul_right h (near x d range within))

either-le : (t : Bool) (x y n : ℕ) → x ≤ n → y ≤ n → (if t then x else y) ≤ n
either-le true x y n hx hy = hx
either-le false x y n hx hy = hy

chosen-le : (h total weighted otherwise : ℕ) → weighted ≤ 255 * total → otherwise ≤ 255 * h
    → (if total == 0 then otherwise else h * weighted / total) ≤ 255 * h
chosen-le h total weighted otherwise few small =
    let scaled : h * weighted ≤ h * (255 * total) = mul-le-mul_left h few in
    either-le (total == 0) otherwise (h * weighted / total) (255 * h) small (div-le_of_le-mul total (omega arith))

output-le : NearestIsByte → (h : ℕ) (b : Block) (bytes : List ℕ) (o : ℕ) (x : Output) (before : ℕ) → IsValidOutput x
    → before ≤ 255 * h → centre h (byte_shares b bytes o x) (resting_answer h x before) ≤ 255 * h
output-le near h b bytes o x before valid small =
    let few = weighted_sum-le near b bytes o x 1 x.singletons valid.range valid.singletons in
    let rests = resting_answer-le near h x x.default before valid.range valid.default_in small in
    chosen-le h (total_mass (byte_shares b bytes o x)) (weighted_sum (byte_shares b bytes o x))
    (resting_answer h x before) few rests

at-le : NearestIsByte → (h : ℕ) (b : Block) (bytes : List ℕ) (o : ℕ) (x : Option Output) (before : ℕ)
    → ((y : Output) → x ≡ Some y → IsValidOutput y) → before ≤ 255 * h
    → option_map_or (λ y. centre h (byte_shares b bytes o y) (resting_answer h y before)) x before ≤ 255 * h
at-le near h b bytes o None before valid small = small
at-le near h b bytes o (Some y) before valid small = output-le near h b bytes o y before (valid y refl) small

pub answer_in-le : NearestIsByte → AnswersAreInRange
answer_in-le near h b o bytes before valid small =
    at-le near h b bytes o (output_at b o) before
    (λ y e. All-slice_get IsValidOutput b.outputs _ y valid.outputs e) small
