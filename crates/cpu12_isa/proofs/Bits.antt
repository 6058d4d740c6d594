-- Flags by their bits: with numerals for a mask and a bit, the bits of a byte compute.
use Rattle.std.proofs.Common.{◌≡◌, ℕ, zero, suc, ◌-◌, ◌/◌, ◌%◌, ◌^◌, ◌<◌, ◌≤◌, Bool, true, false, ◌&&◌, ◌||◌, refl, ap}
use Rattle.std.proofs.Common.{sym, ◌∙◌, arith, inl, inr, ◌⊎◌, bit_and, bit_or, min, max, nat_eq, List, [], ◌∷◌}
use Rattle.std.specs.Int.{bit_at}
use Rattle.std.proofs.lemmas.Nat.Bits.{bit_at_and, bit_at_or, bit_at-lt, same_from_bits_below}
use Rattle.std.proofs.lemmas.Nat.{and_le_l, or_lt}
use Rattle.cpu12_isa.specs.declared.instr.Ccr.{Ccr}
use Rattle.cpu12_isa.specs.Flags.{put, opened, pulled_flags, interrupts_masked}

-- whether the bit k is set
abbrev pub bit : ℕ → ℕ → Bool
bit n k = nat_eq (n / 2 ^ k % 2) 1

-- the eight bits of a byte, from bit 7
abbrev pub bits_of : ℕ → List Bool
bits_of n = bit n 7 ∷ bit n 6 ∷ bit n 5 ∷ bit n 4 ∷ bit n 3 ∷ bit n 2 ∷ bit n 1 ∷ bit n 0 ∷ []

-- a number below two is 0 or 1
two_cases : (n : ℕ) → n < 2 → (n ≡ 0) ⊎ (n ≡ 1)
two_cases zero l = inl refl
two_cases (suc zero) l = inr refl
two_cases (suc (suc n)) l = absurd (omega arith)

max_test : (x y : ℕ) → x < 2 → y < 2 → nat_eq (max x y) 1 ≡ (nat_eq y 1 || nat_eq x 1)
max_test x y f g = elim (two_cases x f) [
  | inl e ↦ elim (two_cases y g) [ inl h ↦ rw (e, h) | inr h ↦ rw (e, h) ]
  | inr e ↦ elim (two_cases y g) [ inl h ↦ rw (e, h) | inr h ↦ rw (e, h) ]
]

min_test : (x y : ℕ) → x < 2 → y < 2 → nat_eq (min x y) 1 ≡ (nat_eq y 1 && nat_eq x 1)
min_test x y f g = elim (two_cases x f) [
  | inl e ↦ elim (two_cases y g) [ inl h ↦ rw (e, h) | inr h ↦ rw (e, h) ]
  | inr e ↦ elim (two_cases y g) [ inl h ↦ rw (e, h) | inr h ↦ rw (e, h) ]
]

-- a bit of an `|` and of an `&`: with a numeral on the right they compute
pub bit_or_is : (a m k : ℕ) → bit (bit_or a m) k ≡ (bit m k || bit a k)
bit_or_is a m k = ap (λ (n : ℕ). nat_eq n 1) (bit_at_or a m k)
    ∙ max_test (bit_at a k) (bit_at m k) (bit_at-lt a k) (bit_at-lt m k)

pub bit_and_is : (a m k : ℕ) → bit (bit_and a m) k ≡ (bit m k && bit a k)
bit_and_is a m k = ap (λ (n : ℕ). nat_eq n 1) (bit_at_and a m k)
    ∙ min_test (bit_at a k) (bit_at m k) (bit_at-lt a k) (bit_at-lt m k)

eight : (P : ℕ → Type 0) → P 0 → P 1 → P 2 → P 3 → P 4 → P 5 → P 6 → P 7 → (i : ℕ) → i < 8 → P i
eight P a b c d e f g h zero l = a
eight P a b c d e f g h (suc zero) l = b
eight P a b c d e f g h (suc (suc zero)) l = c
eight P a b c d e f g h (suc (suc (suc zero))) l = d
eight P a b c d e f g h (suc (suc (suc (suc zero)))) l = e
eight P a b c d e f g h (suc (suc (suc (suc (suc zero))))) l = f
eight P a b c d e f g h (suc (suc (suc (suc (suc (suc zero)))))) l = g
eight P a b c d e f g h (suc (suc (suc (suc (suc (suc (suc zero))))))) l = h
eight P a b c d e f g h (suc (suc (suc (suc (suc (suc (suc (suc i)))))))) l = absurd (omega arith)

-- a test of a bit says which it is
same_test : (x y : ℕ) → x < 2 → y < 2 → nat_eq x 1 ≡ nat_eq y 1 → x ≡ y
same_test x y f g e = elim (two_cases x f) [
  | inl a ↦ elim (two_cases y g) [
    | inl b ↦ a ∙ sym b
    | inr b ↦ absurd
        (let z : nat_eq 0 1 ≡ nat_eq 1 1 = ap (λ (n : ℕ). nat_eq n 1) (sym a) ∙ e ∙ ap (λ (n : ℕ). nat_eq n 1) b in cc)
  ]
  | inr a ↦ elim (two_cases y g) [
    | inl b ↦ absurd (let z : nat_eq 1 1 ≡ nat_eq 0 1 = ap (λ (n : ℕ). nat_eq n 1) (sym a) ∙ e
        ∙ ap (λ (n : ℕ). nat_eq n 1) b in cc)
    | inr b ↦ a ∙ sym b
  ]
]

-- two bytes with the same bits are equal
pub same_bits : (a b : ℕ) → a < 2 ^ 8 → b < 2 ^ 8 → bits_of a ≡ bits_of b → a ≡ b
same_bits a b f g e = same_from_bits_below 8 a b f g (eight (λ (i : ℕ). bit_at a i ≡ bit_at b i)
    (same_test (bit_at a 0) (bit_at b 0) (bit_at-lt a 0) (bit_at-lt b 0) cc)
    (same_test (bit_at a 1) (bit_at b 1) (bit_at-lt a 1) (bit_at-lt b 1) cc)
    (same_test (bit_at a 2) (bit_at b 2) (bit_at-lt a 2) (bit_at-lt b 2) cc)
    (same_test (bit_at a 3) (bit_at b 3) (bit_at-lt a 3) (bit_at-lt b 3) cc)
    (same_test (bit_at a 4) (bit_at b 4) (bit_at-lt a 4) (bit_at-lt b 4) cc)
    (same_test (bit_at a 5) (bit_at b 5) (bit_at-lt a 5) (bit_at-lt b 5) cc)
    (same_test (bit_at a 6) (bit_at b 6) (bit_at-lt a 6) (bit_at-lt b 6) cc)
    (same_test (bit_at a 7) (bit_at b 7) (bit_at-lt a 7) (bit_at-lt b 7) cc))

pub same_ccr : (c d : Ccr) → c.0 < 2 ^ 8 → d.0 < 2 ^ 8 → bits_of c.0 ≡ bits_of d.0 → c ≡ d
same_ccr c d p q e = ap (λ (n : ℕ). let r : Ccr = record { 0 = n } in r) (same_bits c.0 d.0 p q e)

pub and_same : (b : Bool) → (b && b) ≡ b
and_same true = refl
and_same false = refl

-- flags that fit
pub fits_put : (c : Ccr) (k : ℕ) (b : Bool) → 2 ^ k < 2 ^ 8 → c.0 < 2 ^ 8 → (put c k b).0 < 2 ^ 8
fits_put c k true l f = or_lt 8 c.0 (2 ^ k) f l
fits_put c k false l f = let h : bit_and c.0 (255 - 2 ^ k) ≤ c.0 = and_le_l c.0 (255 - 2 ^ k) in omega arith

pub fits_opened : (c : Ccr) (mask flags : ℕ) → c.0 < 2 ^ 8 → flags < 2 ^ 8 → (opened c mask flags).0 < 2 ^ 8
fits_opened c mask flags f g =
    or_lt 8 (bit_and c.0 (255 - mask)) (bit_and flags mask)
    (let h : bit_and c.0 (255 - mask) ≤ c.0 = and_le_l c.0 (255 - mask) in omega arith)
    (let h : bit_and flags mask ≤ flags = and_le_l flags mask in omega arith)

-- what is pulled after a push with I set is what was pushed
pub pulled_again : (c : Ccr) → c.0 < 2 ^ 8 → pulled_flags (put c interrupts_masked true) c.0 ≡ c
pulled_again c f = same_ccr (pulled_flags (put c interrupts_masked true) c.0) c
    (let h = and_le_l c.0 (bit_or (bit_or c.0 16) 191) in omega arith) f (simp (bit_or_is, bit_and_is, and_same))
