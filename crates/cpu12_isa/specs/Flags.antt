-- The condition codes (CPU12 Reference Manual, section 2.2.5, and the instruction pages of section 6).
-- Reached by the promise.
use Rattle.std.specs.Prelude.{◌+◌, ◌-◌, ◌/◌, ◌%◌, ◌^◌, ◌==◌, nat_lt, nat_le, ◌&&◌, ◌||◌, ℕ, Bool, true, false}
use Rattle.std.specs.Prelude.{if◌then◌else◌, bit_and, bit_or}
use Rattle.cpu12_isa.specs.declared.instr.Ccr.{Ccr}

-- the bits of the flags
abbrev pub carry : ℕ
carry = 0

abbrev pub overflow : ℕ
overflow = 1

abbrev pub zero_result : ℕ
zero_result = 2

abbrev pub negative : ℕ
negative = 3

abbrev pub interrupts_masked : ℕ
interrupts_masked = 4

abbrev pub half_carry : ℕ
half_carry = 5

-- the bit of X, which masks XIRQ
abbrev pub x_masked : ℕ
x_masked = 6

-- whether the flag of a bit is set
abbrev pub has : Ccr → ℕ → Bool
has c k = c.0 / 2 ^ k % 2 == 1

-- the flag of a bit set or cleared
abbrev pub put : Ccr → ℕ → Bool → Ccr
put c k true = record { 0 = bit_or c.0 (2 ^ k) }
put c k false = record { 0 = bit_and c.0 (255 - 2 ^ k) }

-- Flags that the manual leaves open take their bits from the byte FLAGS. These are their masks, by the flags' letters.
abbrev pub hnzvc : ℕ
hnzvc = 47

abbrev pub hnzc : ℕ
hnzc = 45

abbrev pub hnz : ℕ
hnz = 44

abbrev pub hnvc : ℕ
hnvc = 43

abbrev pub nzv : ℕ
nzv = 14

abbrev pub nz : ℕ
nz = 12

-- the flags of a mask taken from FLAGS
abbrev pub opened : Ccr → ℕ → ℕ → Ccr
opened c mask flags = record { 0 = bit_or (bit_and c.0 (255 - mask)) (bit_and flags mask) }

-- N and Z by a byte, V 0
abbrev pub tested : Ccr → ℕ → Ccr
tested c v = put (put (put c negative (nat_le 128 v)) zero_result (v == 0)) overflow false

-- N and Z by a word, V 0
abbrev pub tested_word : Ccr → ℕ → Ccr
tested_word c v = put (put (put c negative (nat_le 32768 v)) zero_result (v == 0)) overflow false

-- H N Z V C of the sum of two bytes
abbrev pub added : Ccr → ℕ → ℕ → Ccr
added c u v =
    let s = (u + v) % 2 ^ 8 in
    put (put (put (put (put c half_carry (nat_le 16 (u % 16 + v % 16))) negative (nat_le 128 s)) zero_result (s == 0))
    overflow ((nat_le 128 u && nat_le 128 v && nat_lt s 128)
    || (nat_lt u 128 && nat_lt v 128 && nat_le 128 s))) carry (nat_le 256 (u + v))

-- the sum of two bytes and C, before it is cut to a byte
abbrev pub sum_with_carry : Ccr → ℕ → ℕ → ℕ
sum_with_carry c u v = if has c carry then u + v + 1 else u + v

-- H N Z V C of the sum of two bytes and C
abbrev pub added_with_carry : Ccr → ℕ → ℕ → Ccr
added_with_carry c u v =
    let s = sum_with_carry c u v % 2 ^ 8 in
    put (put (put (put (put c half_carry (nat_le 16 (sum_with_carry c (u % 16)
    (v % 16)))) negative (nat_le 128 s)) zero_result (s == 0))
    overflow ((nat_le 128 u && nat_le 128 v && nat_lt s 128)
    || (nat_lt u 128 && nat_lt v 128 && nat_le 128 s))) carry (nat_le 256 (sum_with_carry c u v))

-- N Z V C of the difference of two bytes
abbrev pub subtracted : Ccr → ℕ → ℕ → Ccr
subtracted c u v =
    let d = (u + (2 ^ 8 - v)) % 2 ^ 8 in
    put (put (put (put c negative (nat_le 128 d)) zero_result (d == 0))
    overflow ((nat_le 128 u && nat_lt v 128 && nat_lt d 128)
    || (nat_lt u 128 && nat_le 128 v && nat_le 128 d))) carry (nat_lt u v)

-- N Z V C of the difference of two words
abbrev pub subtracted_word : Ccr → ℕ → ℕ → Ccr
subtracted_word c u v =
    let d = (u + (2 ^ 16 - v)) % 2 ^ 16 in
    put (put (put (put c negative (nat_le 32768 d)) zero_result (d == 0))
    overflow ((nat_le 32768 u && nat_lt v 32768 && nat_lt d 32768)
    || (nat_lt u 32768 && nat_le 32768 v && nat_le 32768 d))) carry (nat_lt u v)

-- the flags as they are pulled from the stack: a pull never sets X
abbrev pub pulled_flags : Ccr → ℕ → Ccr
pulled_flags c byte = record { 0 = bit_and byte (bit_or c.0 (255 - 2 ^ x_masked)) }
