-- Memory as pages of 256 bytes, each with a place in a pool.
-- Beside the promise.
use Rattle.std.specs.Prelude.{◌≡◌, ◌≢◌, ◌<◌, ◌≤◌, ℕ, suc, zero, ◌+◌, ◌*◌, ◌%◌, ◌/◌, Bool, true, false, not, ◌&&◌, ◌==◌}
use Rattle.std.specs.Prelude.{List, [], ◌∷◌, ◌++◌, length, map, count_by, replicate, slice_index, slice_set}
use Rattle.std.specs.Prelude.{if◌then◌else◌}
use Rattle.std.specs.List.{list_any, range_with_len}

-- the byte at an address: the table has for each page of the memory the place of its bytes
abbrev pub byte_in : List ℕ → List ℕ → ℕ → ℕ
byte_in table pool at = slice_index pool (slice_index table (at / 256) * 256 + at % 256)

-- the first n bytes. It does not unfold, since at a numeral as 65536 each byte would be made
unfoldable pub bytes_in : List ℕ → List ℕ → ℕ → List ℕ
bytes_in table pool zero = []
bytes_in table pool (suc n) = bytes_in table pool n ++ byte_in table pool n ∷ []

-- which pages have a place of their own, place 0 being that of the zero page
abbrev pub given_in : List ℕ → List Bool
given_in table = map (λ place. not (place == 0)) table

-- each of 256 pages has the zero page's place or one of its own, the places are taken one after the other, and the
-- zero page and all places that are not taken hold zeros
pub record ArePages (table pool : List ℕ) (used : ℕ) : Type 0 where
  pub places : length table ≡ 256
  pub bytes : length pool ≡ 65792
  pub count : used ≡ count_by (λ given. given) (given_in table)
  pub taken : (page : ℕ) → page < 256 → slice_index table page ≤ used
  pub apart : (page other : ℕ) → page < 256 → other < 256 → slice_index table page ≢ 0
      → slice_index table page ≡ slice_index table other → page ≡ other
  pub zero_page : (n : ℕ) → n < 256 → slice_index pool n ≡ 0
  pub rest : (n : ℕ) → used * 256 + 256 ≤ n → slice_index pool n ≡ 0

-- of pages, which have a place of their own after a byte is written: a byte other than 0 gives its page one
abbrev pub given_with : List Bool → ℕ → ℕ → List Bool
given_with given at value = (if value == 0 then given else slice_set given (at / 256) true)

-- the same after writes, each an address and a byte, in their order
abbrev pub given_after : List (ℕ × ℕ) → List Bool → List Bool
given_after [] given = given
given_after (w ∷ ws) given = given_after ws (given_with given w.0 w.1)

-- a byte other than 0 is written into a page
abbrev pub is_page_written : List (ℕ × ℕ) → ℕ → Bool
is_page_written ws page = list_any (λ w. not (w.1 == 0) && (w.0 / 256 == page)) ws

-- where no page has a place at first, as many have one after writes as a byte other than 0 was ever written into
abbrev pub GivenAreWritten : Type 0
GivenAreWritten =
    (ws : List (ℕ × ℕ)) → count_by (λ is_given. is_given) (given_after ws (replicate 256 false))
    ≡ count_by (is_page_written ws) (range_with_len 0 256)
