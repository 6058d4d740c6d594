-- No decimal is beyond 100000.
use Rattle.std.proofs.Common.{◌≡◌, ℕ, Bool, true, false, List, Result, Ok, Err, refl, arith, pos, neg_ℤ, ◌≤ℤ◌}
use Rattle.std.proofs.lemmas.Int.{ints}
use Rattle.std.specs.Ordering.{int_eq}
use Rattle.std.specs.Prelude.{if◌then◌else◌, nat_lt, not}
use Rattle.fz_num.specs.Decimals.{decimal, magnitude, signed, is_negative, without_sign, is_numeral, has_four_places}
use Rattle.fz_num.specs.declared.{dec.Dec.Dec, dec.DecFault.DecFault}
use Rattle.fz_num.specs.declared.dec.DecFault.TheVariants.{Shape, Places, Large}
use Rattle.fcl_tokens.specs.Tokens.{amount_of}
use Rattle.fcl_tokens.specs.declared.token.Amount.TheVariants as amount
use Rattle.fcl_tokens.specs.{Scale.IsAmountInScale}

pub amount_scale : (d : Dec) → (neg_ℤ (pos 1000000000) ≤ℤ d.0) × (d.0 ≤ℤ pos 1000000000) → IsAmountInScale (amount_of d)
amount_scale d h = first (int_eq d.0 (pos 0))
  where
    second : (b : Bool) → IsAmountInScale (if b then amount.One else amount.Other d)
    second true = tt
    second false = h

    first : (b : Bool) → IsAmountInScale
        (if b then amount.Zero else (if int_eq d.0 (pos 10000) then amount.One else amount.Other d))
    first true = tt
    first false = second (int_eq d.0 (pos 10000))

abbrev pub ResultInScale : Result Dec DecFault → Type 0
ResultInScale (Ok d) = (neg_ℤ (pos 1000000000) ≤ℤ d.0) × (d.0 ≤ℤ pos 1000000000)
ResultInScale (Err e) = Unit {0}

either_result : (b : Bool) (p q : Result Dec DecFault) → ResultInScale p → ResultInScale q
    → ResultInScale (if b then p else q)
either_result true p q h g = h
either_result false p q h g = g

small_scale : (negative : Bool) (m : ℕ) (b : Bool) → nat_lt 1000000000 m ≡ b
    → ResultInScale (if b then Err Large else Ok (record { 0 = signed negative m }))
small_scale negative m true e = tt
small_scale true m false e = grind (arith, ints, e)
small_scale false m false e = grind (arith, ints, e)

pub decimal_scale : (bytes : List ℕ) → ResultInScale (decimal bytes)
decimal_scale bytes =
    let cs = without_sign bytes in
    either_result (not (is_numeral cs)) (Err Shape) _ tt
    (either_result (not (has_four_places cs)) (Err Places) _ tt
    (small_scale (is_negative bytes) (magnitude cs) (nat_lt 1000000000 (magnitude cs)) refl))
