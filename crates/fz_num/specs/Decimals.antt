-- Decimals and their texts.
-- Reached by the promise.
use Rattle.std.specs.Prelude.{ℕ, ◌+◌, ◌-◌, ◌*◌, Bool, false, if◌then◌else◌, ◌==◌, nat_lt, nat_le, ◌&&◌, ◌||◌, not, List}
use Rattle.std.specs.Prelude.{[], ◌∷◌, ◌++◌, length, drop, fold, Result, Ok, Err, ℤ, pos, neg_ℤ, ◌-ℤ◌, unsigned_abs}
use Rattle.std.specs.List.{list_all, position_or_len, before_first, after_first, slice_index_or}
use Rattle.fz_num.specs.declared.{dec.Dec.Dec, dec.DecFault.DecFault}
use Rattle.fz_num.specs.declared.dec.DecFault.TheVariants.{Shape, Places, Large}

-- how far x stands above lo, in 1/10000
abbrev pub distance : Dec → Dec → ℕ
distance lo x = unsigned_abs (x.0 -ℤ lo.0)

-- '0' to '9', and '.'
abbrev pub is_digit : ℕ → Bool
is_digit c = nat_le 48 c && nat_le c 57

abbrev pub is_point : ℕ → Bool
is_point c = c == 46

-- one digit at least, and nothing else
abbrev pub are_digits : List ℕ → Bool
are_digits cs = nat_lt 0 (length cs) && list_all is_digit cs

-- whether a '-' leads, and what follows a leading '+' or '-'
abbrev pub is_negative : List ℕ → Bool
is_negative [] = false
is_negative (c ∷ cs) = c == 45

abbrev pub without_sign : List ℕ → List ℕ
without_sign [] = []
without_sign (c ∷ cs) = if c == 43 || c == 45 then cs else c ∷ cs

-- digits, and where a point follows, digits after it
abbrev pub is_numeral : List ℕ → Bool
is_numeral cs =
    are_digits (before_first is_point cs)
    && (nat_le (length cs) (position_or_len is_point cs) || are_digits (after_first is_point cs))

-- no place past the fourth but 0
abbrev pub has_four_places : List ℕ → Bool
has_four_places cs = list_all (λ c. c == 48) (drop 4 (after_first is_point cs))

-- the first four places, 0 where there are none
abbrev pub four_places : List ℕ → List ℕ
four_places ps = slice_index_or ps 0 48 ∷ slice_index_or ps 1 48 ∷ slice_index_or ps 2 48 ∷ slice_index_or ps 3 48 ∷ []

-- the number that digits spell
abbrev pub next_number : ℕ → ℕ → ℕ
next_number n c = 10 * n + (c - 48)

abbrev pub number : List ℕ → ℕ
number cs = fold next_number 0 cs

-- in 1/10000
abbrev pub magnitude : List ℕ → ℕ
magnitude cs = number (before_first is_point cs ++ four_places (after_first is_point cs))

abbrev pub signed : Bool → ℕ → ℤ
signed negative n = if negative then neg_ℤ (pos n) else pos n

-- the decimal that bytes spell, or the first of the three faults that they have
abbrev pub decimal : List ℕ → Result Dec DecFault
decimal bytes =
    let cs = without_sign bytes in
    if not (is_numeral cs) then Err Shape
    else (if not (has_four_places cs) then Err Places
    else (if nat_lt 1000000000 (magnitude cs) then Err Large
    else Ok (record { 0 = signed (is_negative bytes) (magnitude cs) })))
