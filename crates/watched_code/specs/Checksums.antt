-- A byte that makes the sum of bytes 0, modulo 256, and what it finds.
-- Beside the promise.
use Rattle.std.specs.Prelude.{◌≡◌, ◌≢◌, ℕ, ◌+◌, ◌-◌, ◌%◌, ◌^◌, ◌<◌, List, length, All, sum, slice_index, slice_set}

-- the byte that is added to the sum of bytes to make it 0
abbrev pub check_byte : List ℕ → ℕ
check_byte bytes = (2 ^ 8 - sum bytes % 2 ^ 8) % 2 ^ 8

-- the sum of bytes with a check byte
abbrev pub checked_sum : List ℕ → ℕ → ℕ
checked_sum bytes check = (sum bytes + check) % 2 ^ 8

abbrev pub Bytes : List ℕ → Type 0
Bytes bytes = All (λ v. v < 2 ^ 8) bytes

-- Unchanged bytes have the sum 0.
abbrev pub UnchangedSumIsZero : Type 0
UnchangedSumIsZero = (bytes : List ℕ) → checked_sum bytes (check_byte bytes) ≡ 0

-- One byte that is changed to another always changes it.
abbrev pub OneChangeIsSeen : Type 0
OneChangeIsSeen =
    (bytes : List ℕ) (at value : ℕ) → Bytes bytes → at < length bytes → value < 2 ^ 8 → value ≢ slice_index bytes at
    → checked_sum (slice_set bytes at value) (check_byte bytes) ≢ 0

-- bytes of which two are changed to others, and the sum is 0 as before
pub record TwoChangesUnseen (bytes : List ℕ) (first second v w : ℕ) : Type 0 where
  pub fit : Bytes bytes
  pub first_in : first < length bytes
  pub second_in : second < length bytes
  pub apart : first ≢ second
  pub first_fits : v < 2 ^ 8
  pub second_fits : w < 2 ^ 8
  pub first_other : v ≢ slice_index bytes first
  pub second_other : w ≢ slice_index bytes second
  pub unseen : checked_sum (slice_set (slice_set bytes first v) second w) (check_byte bytes) ≡ 0

-- Two may not.
abbrev pub TwoChangesMayPass : Type 0
TwoChangesMayPass =
    (bytes : List ℕ) × (first : ℕ) × (second : ℕ) × (v : ℕ) × (w : ℕ) × TwoChangesUnseen bytes first second v w
