-- Calls that are numbered from 1, of which those in a list fail.
-- Beside the promise.
use Rattle.std.specs.Prelude.{◌<◌, ◌+◌, ◌-◌, ◌^◌, ℕ, List, Contains, min}

-- one call more; the calls after the last value of a u32 have no number of their own
abbrev pub one_more : ℕ → ℕ
one_more made = min (made + 1) (2 ^ 32 - 1)

-- the call after so many is one of those that fail
abbrev pub IsListed : List ℕ → ℕ → Type 0
IsListed failing made = (made < 2 ^ 32 - 1) × Contains failing (made + 1)
