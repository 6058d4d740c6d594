-- The flags that mask interrupts, I and X, where others change.
use Rattle.std.proofs.Common.{◌≡◌, ℕ, zero, suc, ◌-◌, ◌^◌, ◌<◌, Bool, true, false, ◌&&◌, ◌||◌, refl, ap, ap₂, ◌∙◌}
use Rattle.std.proofs.Common.{arith, bit_and, bit_or}
use Rattle.cpu12_isa.specs.declared.instr.Ccr.{Ccr}
use Rattle.cpu12_isa.specs.{Flags.put, Flags.opened, Plain.flags_of, Plain.interrupt_masks}
use Rattle.cpu12_isa.proofs.Bits.{bit, bit_or_is, bit_and_is}

-- What is set leaves I and X where it has neither; what is kept does where it has both.
masked_or : (n m : ℕ) → bit m 4 ≡ false → bit m 6 ≡ false
    → interrupt_masks (flags_of (bit_or n m)) ≡ interrupt_masks (flags_of n)
masked_or n m i x =
    ap₂ (λ (p q : Bool). (p, q)) (bit_or_is n m 4 ∙ ap (λ (b : Bool). b || bit n 4) i)
    (bit_or_is n m 6 ∙ ap (λ (b : Bool). b || bit n 6) x)

masked_and : (n m : ℕ) → bit m 4 ≡ true → bit m 6 ≡ true
    → interrupt_masks (flags_of (bit_and n m)) ≡ interrupt_masks (flags_of n)
masked_and n m i x =
    ap₂ (λ (p q : Bool). (p, q)) (bit_and_is n m 4 ∙ ap (λ (b : Bool). b && bit n 4) i)
    (bit_and_is n m 6 ∙ ap (λ (b : Bool). b && bit n 6) x)

-- So do C, V, Z, N and H,
masked_by : (c : Ccr) (k : ℕ) (b : Bool) → (bit (2 ^ k) 4 ≡ false) × (bit (2 ^ k) 6 ≡ false)
    → (bit (255 - 2 ^ k) 4 ≡ true) × (bit (255 - 2 ^ k) 6 ≡ true) → interrupt_masks (put c k b) ≡ interrupt_masks c
masked_by c k true n y = masked_or c.0 (2 ^ k) n.0 n.1
masked_by c k false n y = masked_and c.0 (255 - 2 ^ k) y.0 y.1

pub masked_put : (c : Ccr) (k : ℕ) (b : Bool) → k < 4 → interrupt_masks (put c k b) ≡ interrupt_masks c
masked_put c zero b h = masked_by c 0 b (refl, refl) (refl, refl)
masked_put c (suc zero) b h = masked_by c 1 b (refl, refl) (refl, refl)
masked_put c (suc (suc zero)) b h = masked_by c 2 b (refl, refl) (refl, refl)
masked_put c (suc (suc (suc zero))) b h = masked_by c 3 b (refl, refl) (refl, refl)
masked_put c (suc (suc (suc (suc k)))) b h = absurd (omega arith)

-- and flags of a mask that has neither, taken from FLAGS.
pub masked_opened : (c : Ccr) (mask flags : ℕ) → (bit mask 4 ≡ false) × (bit mask 6 ≡ false)
    → (bit (255 - mask) 4 ≡ true) × (bit (255 - mask) 6 ≡ true)
    → interrupt_masks (opened c mask flags) ≡ interrupt_masks c
masked_opened c mask flags n y =
    masked_or (bit_and c.0 (255 - mask)) (bit_and flags mask)
    (bit_and_is flags mask 4 ∙ ap (λ (b : Bool). b && bit flags 4) n.0)
    (bit_and_is flags mask 6 ∙ ap (λ (b : Bool). b && bit flags 6) n.1)
    ∙ masked_and c.0 (255 - mask) y.0 y.1

pub masked_zero : (c : Ccr) (z : Bool) → interrupt_masks (put c 2 z) ≡ interrupt_masks c
masked_zero c z = masked_put c 2 z (omega arith)

-- Z, V and C; N, Z and V, also where V is put again; N, Z, V and C; and H as well
pub masked_three : (c : Ccr) (z v k : Bool) → interrupt_masks (put (put (put c 2 z) 1 v) 0 k) ≡ interrupt_masks c
masked_three c z v k = masked_put (put (put c 2 z) 1 v) 0 k (omega arith) ∙ masked_put (put c 2 z) 1 v (omega arith)
    ∙ masked_zero c z

pub masked_four : (c : Ccr) (n z v k : Bool)
    → interrupt_masks (put (put (put (put c 3 n) 2 z) 1 v) 0 k) ≡ interrupt_masks c
masked_four c n z v k = masked_three (put c 3 n) z v k ∙ masked_put c 3 n (omega arith)

pub masked_five : (c : Ccr) (h n z v k : Bool)
    → interrupt_masks (put (put (put (put (put c 5 h) 3 n) 2 z) 1 v) 0 k) ≡ interrupt_masks c
masked_five c h n z v k = masked_four (put c 5 h) n z v k ∙ masked_by c 5 h (refl, refl) (refl, refl)

pub masked_tested : (c : Ccr) (n z : Bool) → interrupt_masks (put (put (put c 3 n) 2 z) 1 false) ≡ interrupt_masks c
masked_tested c n z = masked_put (put (put c 3 n) 2 z) 1 false (omega arith) ∙ masked_zero (put c 3 n) z
    ∙ masked_put c 3 n (omega arith)

pub masked_again : (c : Ccr) (n z v : Bool)
    → interrupt_masks (put (put (put (put c 3 n) 2 z) 1 false) 1 v) ≡ interrupt_masks c
masked_again c n z v = masked_put (put (put (put c 3 n) 2 z) 1 false) 1 v (omega arith) ∙ masked_tested c n z
