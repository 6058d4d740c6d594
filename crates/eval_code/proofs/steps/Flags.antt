-- The flags that the code rests on: I, X, V, Z and C.
use Rattle.eval_code.proofs.Words.{◌<◌, ◌∙◌, ◌≡◌, arith, Bool, Ccr, false, has, interrupt_masks, opened, refl, suc}
use Rattle.eval_code.proofs.Words.{true, zero, ℕ}
use Rattle.std.proofs.{Common.bit_and, Common.bit_or}
use Rattle.cpu12_isa.specs.{Flags.put}
use Rattle.cpu12_isa.proofs.Algebra.{bit_or_is, bit_and_is, masked_opened}
pub use Rattle.cpu12_isa.proofs.Algebra.{masked_put, masked_tested, masked_four}

abbrev ccr_of : ℕ → Ccr
ccr_of n = record { 0 = n }

-- I and X where flags are taken from FLAGS
pub masked_open_hnzc : (c : Ccr) (flags : ℕ) → interrupt_masks (opened c 45 flags) ≡ interrupt_masks c
masked_open_hnzc c flags = masked_opened c 45 flags (refl, refl) (refl, refl)

pub masked_open_hnz : (c : Ccr) (flags : ℕ) → interrupt_masks (opened c 44 flags) ≡ interrupt_masks c
masked_open_hnz c flags = masked_opened c 44 flags (refl, refl) (refl, refl)

pub masked_open_hnvc : (c : Ccr) (flags : ℕ) → interrupt_masks (opened c 43 flags) ≡ interrupt_masks c
masked_open_hnvc c flags = masked_opened c 43 flags (refl, refl) (refl, refl)

-- what was put
pub zero_put : (c : Ccr) (b : Bool) → has (put c 2 b) 2 ≡ b
zero_put c true = bit_or_is c.0 4 2
zero_put c false = bit_and_is c.0 251 2

pub zero_kept : (c : Ccr) (k : ℕ) (b : Bool) → k < 2 → has (put c k b) 2 ≡ has c 2
zero_kept c zero true h = bit_or_is c.0 1 2
zero_kept c zero false h = bit_and_is c.0 254 2
zero_kept c (suc zero) true h = bit_or_is c.0 2 2
zero_kept c (suc zero) false h = bit_and_is c.0 253 2
zero_kept c (suc (suc k)) b h = absurd (omega arith)

pub zero_tested : (c : Ccr) (n z : Bool) → has (put (put (put c 3 n) 2 z) 1 false) 2 ≡ z
zero_tested c n z = zero_kept (put (put c 3 n) 2 z) 1 false (omega arith) ∙ zero_put (put c 3 n) z

-- ANDCC #$FD clears V; ORCC #$01 sets C and leaves V; ANDCC #$EF clears I
pub overflow_off : (n : ℕ) → has (ccr_of (bit_and n 253)) 1 ≡ false
overflow_off n = bit_and_is n 253 1

pub overflow_or : (n : ℕ) → has (ccr_of (bit_or n 1)) 1 ≡ has (ccr_of n) 1
overflow_or n = bit_or_is n 1 1

pub carry_or : (n : ℕ) → has (ccr_of (bit_or n 1)) 0 ≡ true
carry_or n = bit_or_is n 1 0

pub unmasked : (n : ℕ) → has (ccr_of (bit_and n 239)) 4 ≡ false
unmasked n = bit_and_is n 239 4

-- ORCC #$10 sets I
pub masked_on : (n : ℕ) → has (ccr_of (bit_or n 16)) 4 ≡ true
masked_on n = bit_or_is n 16 4

pub zero_four : (c : Ccr) (n z v k : Bool) → has (put (put (put (put c 3 n) 2 z) 1 v) 0 k) 2 ≡ z
zero_four c n z v k = zero_kept (put (put (put c 3 n) 2 z) 1 v) 0 k (omega arith)
    ∙ zero_kept (put (put c 3 n) 2 z) 1 v (omega arith) ∙ zero_put (put c 3 n) z
