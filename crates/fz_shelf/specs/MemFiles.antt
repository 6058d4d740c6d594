-- What the files of a shelf in memory tell of a name: the first of that name counts.
-- Beside the promise.
use Rattle.std.specs.Prelude.{◌≡◌, ◌≢◌, ◌<◌, ℕ, List, [], ◌∷◌, length, if◌then◌else◌, Bool, slice_set}
use Rattle.std.specs.List.{slice_index_or}
use Rattle.std.specs.Str.{bytes_eq}
use Rattle.fz_shelf.specs.{Files.File, Files.absent, Files.known, declared.mem_shelf.MemFile.MemFile}

abbrev pub file_of : MemFile → File
file_of f = known f.bytes f.room

abbrev pub is_named : List ℕ → MemFile → Bool
is_named name f = bytes_eq f.name name

abbrev pub file_in : List MemFile → List ℕ → File
file_in [] name = absent
file_in (f ∷ fs) name = if is_named name f then file_of f else file_in fs name

-- the file of this name is the i-th
pub record IsPlace (fs : List MemFile) (name : List ℕ) (i : ℕ) : Type 0 where
  pub within : i < length fs
  pub told : (d : MemFile) → file_in fs name ≡ file_of (slice_index_or fs i d)
  pub changed : (f d : MemFile) → f.name ≡ (slice_index_or fs i d).name → file_in (slice_set fs i f) name ≡ file_of f
  pub others : (f d : MemFile) → f.name ≡ (slice_index_or fs i d).name
      → (other : List ℕ) → other ≢ name → file_in (slice_set fs i f) other ≡ file_in fs other
