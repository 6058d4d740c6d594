-- Numbers in a text.
-- Beside the promise.
use Rattle.std.specs.Prelude.{◌≡◌, ℕ, ◌+◌, ◌-◌, ◌*◌, Bool, true, false, ◌==◌, List, [], ◌∷◌, not, fold}
use Rattle.std.specs.Char.{is_ascii_digit}
use Rattle.std.specs.List.{position_or_len}

-- how many digits stand at the front of a text
abbrev pub is_no_digit : ℕ → Bool
is_no_digit c = not (is_ascii_digit c)

abbrev pub digits_len_of : List ℕ → ℕ
digits_len_of text = position_or_len is_no_digit text

-- no digit follows
abbrev pub EndsNumber : List ℕ → Type 0
EndsNumber [] = Unit {0}
EndsNumber (c ∷ cs) = is_ascii_digit c ≡ false

-- the number that digits spell behind those of n
abbrev pub with_digit : ℕ → ℕ → ℕ
with_digit n c = 10 * n + (c - 48)

abbrev pub number_behind : ℕ → List ℕ → ℕ
number_behind n digits = fold with_digit n digits

-- there is a digit, and no zero before others
abbrev pub is_plain_numeral : List ℕ → Bool
is_plain_numeral [] = false
is_plain_numeral (d ∷ []) = true
is_plain_numeral (d ∷ e ∷ ds) = not (d == 48)
