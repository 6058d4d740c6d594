-- Files in memory, and differences in them.
-- Beside the promise.
use Rattle.std.specs.Prelude.{◌≡◌, ℕ, List}
use Rattle.std.specs.String.{string_bytes}
use Rattle.fz_shelf.specs.declared.mem_shelf.MemFile.{MemFile}
use Rattle.test_program_calls.specs.declared.difference.Difference.{Difference}
use Rattle.test_program_calls.specs.declared.difference.Difference.TheVariants as difference

abbrev pub file_with : List ℕ → List ℕ → ℕ → MemFile
file_with name bytes room = record { name = name; bytes = bytes; room = room }

-- the difference is in the file of this name, or memory was wanted
abbrev pub IsInFile : List ℕ → Difference → Type 0
IsInFile name (difference.File text) = string_bytes text ≡ name
IsInFile name difference.Memory = Unit {0}
IsInFile name d = ⊥
