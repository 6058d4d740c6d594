-- Good upsets.
-- Beside the promise.
use Rattle.std.specs.Prelude.{◌≡◌, ◌<◌, ◌≤◌, ◌^◌, ◌&&◌, nat_le, ℕ, Bool, true, false, List, length, All, Option, Some}
use Rattle.std.specs.Prelude.{None}
use Rattle.cpu12_asm.specs.Bytes.{byte_at}
use Rattle.interrupt_plan.specs.{declared.upsets.Upset.Upset, Rows.Ascend}

-- the byte is there
abbrev pub is_there : Option ℕ → Bool
is_there (Some byte) = true
is_there None = false

-- a byte of the image's tables: one that it has from $D000 to $FEFF
abbrev pub is_table : List (ℕ × ℕ) → ℕ → Bool
is_table image at = nat_le 0xD000 at && nat_le at 0xFEFF && is_there (byte_at image at)

pub record IsGoodUpset (image : List (ℕ × ℕ)) (u : Upset) : Type 0 where
  pub sample_from : 1 ≤ u.sample
  pub sample_to : u.sample ≤ 999999999
  pub table : is_table image u.at ≡ true
  pub value : u.value < 2 ^ 8

-- each sample is above the one before
abbrev pub IsBefore : Upset → Upset → Type 0
IsBefore a b = a.sample < b.sample

abbrev pub SamplesAscend : List Upset → Type 0
SamplesAscend = Ascend IsBefore

pub record AreGoodUpsets (image : List (ℕ × ℕ)) (upsets : List Upset) : Type 0 where
  pub few : length upsets ≤ 10000
  pub each : All (IsGoodUpset image) upsets
  pub ascend : SamplesAscend upsets
