-- The image that runs: a firmware's with a handler's bytes, and $4000 in the interrupt's vector.
-- Beside the promise.
use Rattle.std.specs.Prelude.{ℕ, ◌+◌, ◌/◌, ◌%◌, Option, Some, None, List, ◌∷◌, ◌++◌}
use Rattle.cpu12_isa.specs.Regions.{vector}
use Rattle.cpu12_emul.specs.Image.{image_memory}
use Rattle.handler_check.specs.Cut.{code_start}

-- its bytes, of which the first at an address stands there: the vector's, then the handler's, then the firmware's
abbrev pub joint_bytes : List (ℕ × ℕ) → List (ℕ × ℕ) → List (ℕ × ℕ)
joint_bytes firmware handler =
    (vector, code_start / 256) ∷ (vector + 1, code_start % 256) ∷ (handler ++ firmware)

abbrev pub joint_memory : List (ℕ × ℕ) → List (ℕ × ℕ) → List ℕ
joint_memory firmware handler = image_memory (joint_bytes firmware handler)

-- a byte, or another where there is none
abbrev pub either : Option ℕ → Option ℕ → Option ℕ
either (Some byte) other = Some byte
either None other = other
