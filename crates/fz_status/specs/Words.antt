-- The words of the command line by their places.
-- Reached by the promise.
use Rattle.std.specs.Prelude.{ℕ, List, [], String, map}
use Rattle.std.specs.List.{slice_index_or}
use Rattle.std.specs.String.{string_bytes}
use Rattle.std.specs.declared.alloc.Global.{Global}
use Rattle.std.specs.Prelude.{Option, Some, None, Result, Ok, Err}
use Rattle.hex.specs.Hex.{decode_sized}

abbrev pub Text : Type 0
Text = List ℕ

abbrev pub texts_of : List (String Global) → List Text
texts_of = map string_bytes

-- the word at this place, and nothing where there is none
abbrev pub word_at : List Text → ℕ → Text
word_at words i = slice_index_or words i []

-- ---- FLAGS

abbrev pub only_byte : {E : Type 0} → Result (List ℕ) E → Option ℕ
only_byte (Ok bytes) = Some (slice_index_or bytes 0 0)
only_byte (Err e) = None

-- two hexadecimal digits
abbrev pub flags_of : Text → Option ℕ
flags_of text = only_byte (decode_sized text 1)
