-- A memory is the list of its 65536 bytes. Addresses go over its end to its start.
-- Reached by the promise.
use Rattle.std.specs.Prelude.{ℕ, suc, zero, ◌+◌, ◌*◌, ◌%◌, ◌/◌, ◌^◌, List, [], ◌∷◌, replicate, slice_index}

-- n zeros. It does not unfold, since at a numeral as 65536 a copy would be made of each
unfoldable pub zeros : ℕ → List ℕ
zeros n = replicate n 0

-- the address n further on
abbrev pub plus : ℕ → ℕ → ℕ
plus at n = (at + n) % 2 ^ 16

-- n addresses, one after the other
abbrev pub from : ℕ → ℕ → List ℕ
from at zero = []
from at (suc n) = at ∷ from (plus at 1) n

-- the bytes at these addresses
abbrev pub bytes_at : List ℕ → List ℕ → List ℕ
bytes_at mem [] = []
bytes_at mem (at ∷ ats) = slice_index mem at ∷ bytes_at mem ats

-- the writes that put bytes one after the other
abbrev pub placed : ℕ → List ℕ → List (ℕ × ℕ)
placed at [] = []
placed at (v ∷ vs) = (at, v) ∷ placed (plus at 1) vs

-- a word from its high and its low byte
abbrev pub word_of : ℕ → ℕ → ℕ
word_of high low = high * 2 ^ 8 + low

abbrev pub high_of : ℕ → ℕ
high_of word = word / 2 ^ 8

abbrev pub low_of : ℕ → ℕ
low_of word = word % 2 ^ 8
