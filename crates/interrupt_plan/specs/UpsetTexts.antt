-- What a text of upsets spells, and its first fault.
-- Beside the promise.
use Rattle.std.specs.Prelude.{◌≡◌, ◌<◌, ◌≤◌, ◌+◌, ℕ, false, true, List, [], ◌∷◌, ◌++◌, length, Some}
use Rattle.trace_io.specs.FirstRows.{Fields, AreFirstRows}
use Rattle.interrupt_plan.specs.declared.{upsets.Upset.Upset, upsets.UpsetFault.UpsetFault}
use Rattle.interrupt_plan.specs.declared.upsets.UpsetFault.TheVariants.{BadRow, NotTable, NotAscending, TooMany}
use Rattle.interrupt_plan.specs.{Rows.SpellAll, Rows.count_of, Rows.write_of, Upsets.AreGoodUpsets, Upsets.is_table}

-- three fields are an upset's sample, from 1, its address and its value
pub record SpellsUpset (fields : Fields) (u : Upset) : Type 0 where
  pub sample_text : List ℕ
  pub address : List ℕ
  pub value : List ℕ
  pub fields_are : fields ≡ sample_text ∷ address ∷ value ∷ []
  pub sample_is : count_of sample_text ≡ Some u.sample
  pub some : 1 ≤ u.sample
  pub write_is : write_of address value ≡ Some (record { at = u.at; value = u.value })

-- the upset's sample does not come after that of the last of those that stand before it
pub record FallsBack (before : List Upset) (u : Upset) : Type 0 where
  pub front : List Upset
  pub last : Upset
  pub before_is : before ≡ front ++ last ∷ []
  pub falls : u.sample ≤ last.sample

-- row number n fails, behind rows that spell these upsets
pub data UpsetRowFails (image : List (ℕ × ℕ)) (before : List Upset) (n : ℕ) (fields : Fields) : UpsetFault
    → Type 0 where
  unread : ((u : Upset) → SpellsUpset fields u → ⊥) → UpsetRowFails image before n fields (BadRow n)
  not_table : (u : Upset) → SpellsUpset fields u → is_table image u.at ≡ false
      → UpsetRowFails image before n fields (NotTable n u.at)
  not_ascending : (u : Upset) → SpellsUpset fields u → is_table image u.at ≡ true → FallsBack before u
      → UpsetRowFails image before n fields (NotAscending n)

-- the rows spell these upsets
abbrev pub SpellUpsets : List Fields → List Upset → Type 0
SpellUpsets = SpellAll SpellsUpset

-- the first fault of rows: that of the first row that fails, where it is among the first 10000,
-- and else that there are more
pub data FirstUpsetFault (image : List (ℕ × ℕ)) (rows : List Fields) : UpsetFault → Type 0 where
  at_row : (before : List Fields) (row : Fields) (after : List Fields) (upsets : List Upset)
      (fault : UpsetFault) → rows ≡ before ++ row ∷ after → length before < 10000
      → SpellUpsets before upsets → AreGoodUpsets image upsets
      → UpsetRowFails image upsets (length before + 1) row fault
      → FirstUpsetFault image rows fault
  more : (before : List Fields) (row : Fields) (after : List Fields) (upsets : List Upset)
      → rows ≡ before ++ row ∷ after → length before ≡ 10000
      → SpellUpsets before upsets → AreGoodUpsets image upsets → FirstUpsetFault image rows TooMany

-- the text spells these upsets of the image, which are good
pub record SpellsUpsets (image : List (ℕ × ℕ)) (text : List ℕ) (upsets : List Upset) : Type 0 where
  pub rows : List Fields
  pub first : AreFirstRows text rows
  pub few : length rows < 10001
  pub spelled : SpellUpsets rows upsets
  pub good : AreGoodUpsets image upsets

-- the text has this fault first
pub record HasUpsetFault (image : List (ℕ × ℕ)) (text : List ℕ) (fault : UpsetFault) : Type 0 where
  pub rows : List Fields
  pub first : AreFirstRows text rows
  pub fault_is : FirstUpsetFault image rows fault

-- A text that spells upsets has no fault.
abbrev pub SpelledUpsetsHaveNoFault : Type 0
SpelledUpsetsHaveNoFault = (image : List (ℕ × ℕ)) (text : List ℕ) (upsets : List Upset) (fault : UpsetFault)
    → SpellsUpsets image text upsets → HasUpsetFault image text fault → ⊥
