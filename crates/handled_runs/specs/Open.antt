-- What is open to handlers that are code.
-- Beside the promise.
use Rattle.std.specs.Prelude.{ℕ, ◌&&◌, ◌||◌, nat_le, nat_lt, Bool}
use Rattle.cpu12_isa.specs.Regions.{is_free, is_vector}
use Rattle.handler_check.specs.Cut.{code_start, code_limit}

-- where a handler's code may stand
abbrev pub is_code : ℕ → Bool
is_code at = nat_le code_start at && nat_lt at code_limit

-- Beside the run without interrupts not only the free bytes are the handlers' own: so is their code, with the vector.
abbrev pub is_open_to_code : ℕ → Bool
is_open_to_code at = is_free at || (is_code at || is_vector at)
