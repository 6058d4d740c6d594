-- What a trace spells, and its first fault.
-- Reached by the promise.
use Rattle.std.specs.Prelude.{◌≡◌, ◌≢◌, ◌<◌, ◌+◌, ℕ, List, [], ◌∷◌, ◌++◌, length, Option, Some, None, option_map}
use Rattle.std.specs.Prelude.{Result, Ok, Err}
use Rattle.fz_num.specs.{declared.dec.Dec.Dec, Decimals.decimal}
use Rattle.fuzzy_meaning.specs.{Blocks.IsWithin, declared.block.Input.Input}
use Rattle.byte_scaling.specs.Cells.{bytes_of}
pub use Rattle.trace_io.specs.FirstRows.{Fields, AreFirstRows}
use Rattle.trace_io.specs.declared.{sample.Sample.Sample, sample.TraceFault.TraceFault}
use Rattle.trace_io.specs.declared.sample.TraceFault.TheVariants.{TooMany, BadRow, OutOfRange}

-- the decimals that fields spell, where each spells one
abbrev pub with_decimal : {E : Type 0} → Result Dec E → Option (List Dec) → Option (List Dec)
with_decimal (Ok d) ds = option_map (λ xs. d ∷ xs) ds
with_decimal (Err e) ds = None

abbrev pub decimals : Fields → Option (List Dec)
decimals [] = Some []
decimals (f ∷ fs) = with_decimal (decimal f) (decimals fs)

-- each value is within the range of its input
abbrev pub AreWithin : List Input → List Dec → Type 0
AreWithin [] [] = Unit {0}
AreWithin [] (d ∷ ds) = ⊥
AreWithin (i ∷ is) [] = ⊥
AreWithin (i ∷ is) (d ∷ ds) = IsWithin i.lo i.hi d × AreWithin is ds

-- the fields spell the sample: one decimal per input, each within its range
pub record SpellsSample (inputs : List Input) (fields : Fields) (s : Sample) : Type 0 where
  pub count : length fields ≡ length inputs
  pub values : decimals fields ≡ Some s.values
  pub within : AreWithin inputs s.values
  pub bytes : s.bytes.items ≡ bytes_of inputs s.values

-- the first value that is outside its input's range is that of input number n
pub record IsFirstOutside (inputs : List Input) (values : List Dec) (n : ℕ) : Type 0 where
  pub inputs_before : List Input
  pub input : Input
  pub inputs_after : List Input
  pub inputs_are : inputs ≡ inputs_before ++ input ∷ inputs_after
  pub values_before : List Dec
  pub value : Dec
  pub values_after : List Dec
  pub values_are : values ≡ values_before ++ value ∷ values_after
  pub within : AreWithin inputs_before values_before
  pub outside : IsWithin input.lo input.hi value → ⊥
  pub number : n ≡ length inputs_before + 1

-- row number n fails, by its fields
pub data RowFails (inputs : List Input) (n : ℕ) (fields : Fields) : TraceFault → Type 0 where
  miscounted : length fields ≢ length inputs → RowFails inputs n fields (BadRow n)
  unread : length fields ≡ length inputs → decimals fields ≡ None → RowFails inputs n fields (BadRow n)
  outside : (values : List Dec) (i : ℕ) → length fields ≡ length inputs → decimals fields ≡ Some values
      → IsFirstOutside inputs values i → RowFails inputs n fields (OutOfRange n i)

-- the rows spell these samples
abbrev pub SpellSamples : List Input → List Fields → List Sample → Type 0
SpellSamples inputs [] [] = Unit {0}
SpellSamples inputs [] (s ∷ ss) = ⊥
SpellSamples inputs (r ∷ rs) [] = ⊥
SpellSamples inputs (r ∷ rs) (s ∷ ss) = SpellsSample inputs r s × SpellSamples inputs rs ss

-- the first fault of rows: that of the first row that fails, where it is among the first 10000,
-- and else that there are more
pub data FirstFault (inputs : List Input) (rows : List Fields) : TraceFault → Type 0 where
  at_row : (before : List Fields) (row : Fields) (after : List Fields) (samples : List Sample)
      (fault : TraceFault) → rows ≡ before ++ row ∷ after → length before < 10000
      → SpellSamples inputs before samples → RowFails inputs (length before + 1) row fault
      → FirstFault inputs rows fault
  more : (before : List Fields) (row : Fields) (after : List Fields) (samples : List Sample)
      → rows ≡ before ++ row ∷ after → length before ≡ 10000
      → SpellSamples inputs before samples → FirstFault inputs rows TooMany

-- the text spells these samples
pub record Spells (inputs : List Input) (text : List ℕ) (samples : List Sample) : Type 0 where
  pub rows : List Fields
  pub first : AreFirstRows text rows
  pub few : length rows < 10001
  pub spelled : SpellSamples inputs rows samples

-- the text has this fault first
pub record HasFault (inputs : List Input) (text : List ℕ) (fault : TraceFault) : Type 0 where
  pub rows : List Fields
  pub first : AreFirstRows text rows
  pub fault_is : FirstFault inputs rows fault

-- the bytes of its inputs, as firmware is given them
abbrev pub input_bytes : Sample → List ℕ
input_bytes s = s.bytes.items
