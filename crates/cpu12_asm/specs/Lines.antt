-- Lines of assembler source, in capitals, and their words.
-- Beside the promise.
use Rattle.std.specs.Prelude.{ℕ, ◌==◌, ◌||◌, Bool, not, List, [], ◌∷◌, length, take, drop, take_while}
use Rattle.std.specs.List.{slice_split}
use Rattle.std.specs.Str.Lines.{strip_carriage_return}

-- the pieces of a text between bytes c
abbrev pub pieces : ℕ → List ℕ → List (List ℕ)
pieces c text = slice_split (λ b. b == c) text

-- lines that end with LF or CR LF, the last perhaps with neither
abbrev pub without_returns : List (List ℕ) → List (List ℕ)
without_returns [] = []
without_returns (line ∷ []) = line ∷ []
without_returns (line ∷ next ∷ lines) = strip_carriage_return line ∷ without_returns (next ∷ lines)

abbrev pub lines_of : List ℕ → List (List ℕ)
lines_of text = without_returns (pieces 0x0A text)

abbrev pub is_blank : ℕ → Bool
is_blank b = (b == 0x20) || (b == 0x09)

-- how long the run at the front is whose bytes pass
abbrev pub run : (ℕ → Bool) → List ℕ → ℕ
run p text = length (take_while p text)

-- the word at the front, and what stands behind it and the blanks after it
abbrev pub is_in_word : ℕ → Bool
is_in_word b = not (is_blank b)

abbrev pub first_word : List ℕ → List ℕ
first_word text = take (run is_in_word text) text

abbrev pub without_blanks : List ℕ → List ℕ
without_blanks text = drop (run is_blank text) text

abbrev pub behind_word : List ℕ → List ℕ
behind_word text = without_blanks (drop (run is_in_word text) text)

-- a line up to its comment
abbrev pub is_code : ℕ → Bool
is_code b = not (b == 0x3B)

abbrev pub code_of : List ℕ → List ℕ
code_of line = take (run is_code line) line
