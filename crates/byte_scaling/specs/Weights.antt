-- Weights as bytes.
-- Beside the promise.
use Rattle.std.specs.Prelude.{ℕ, ◌+◌, ◌-◌, ◌*◌, ◌/◌, Option, Some, None, unsigned_abs}
use Rattle.fz_num.specs.declared.dec.Dec.{Dec}

-- the weight in 1/256, to the nearest and a tie going up, less one where it is not 0
abbrev pub weight_byte_of : Option Dec → ℕ
weight_byte_of None = 255
weight_byte_of (Some w) = (512 * unsigned_abs w.0 + 10000) / 20000 - 1
