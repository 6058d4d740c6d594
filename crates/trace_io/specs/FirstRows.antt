-- The rows of comma-separated text.
-- Reached by the promise.
use Rattle.std.specs.Prelude.{◌≡◌, ◌≤◌, ◌⊎◌, ℕ, Bool, true, false, List, [], length, None}
use Rattle.csv.specs.{Machine.next_record, Reading.Reached, Reading.default_config, Reading.strip_bom}
use Rattle.csv.specs.declared.{error.ErrorKind.ErrorKind, parser.State.State}
use Rattle.csv.specs.declared.error.ErrorKind.TheVariants.{Io, OutOfMemory}
use Rattle.csv.specs.declared.parser.State.TheVariants as st

-- the fields of a row
abbrev pub Fields : Type 0
Fields = List (List ℕ)

-- the first rows that csv cuts a text into by its defaults: all of them, or 10001 of more
pub record AreFirstRows (text : List ℕ) (rows : List Fields) : Type 0 where
  pub state : State
  pub rest : List ℕ
  pub cut : Reached default_config st.StartRecord (strip_bom text) rows state rest
  pub few : length rows ≤ 10001
  pub enough : (next_record default_config state [] [] rest ≡ None) ⊎ (length rows ≡ 10001)

-- a fault that tells nothing of the text
abbrev pub is_want_of_memory : ErrorKind → Bool
is_want_of_memory (Io e) = true
is_want_of_memory OutOfMemory = true
is_want_of_memory _ = false
