-- The bytes of a handler, cut into instructions one after the other.
-- Beside the promise.
use Rattle.std.specs.Prelude.{◌≡◌, ℕ, ◌+◌, ◌⊎◌, List, [], ◌∷◌, length}
use Rattle.cpu12_isa.specs.{declared.instr.Instr.Instr, Code.code_bytes, Code.encode_of, Code.StandsAt}

-- the first address of a handler, and the one behind the last that it may have
abbrev pub code_start : ℕ
code_start = 0x4000

abbrev pub code_limit : ℕ
code_limit = 0x5000

abbrev pub size_of : Instr → ℕ
size_of i = length (encode_of i)

-- the place behind instructions that stand from $4000 on
abbrev pub code_end : List Instr → ℕ
code_end is = code_start + length (code_bytes is)

-- i stands at a place, where these instructions stand one after the other from another place on
abbrev pub IsFrom : ℕ → List Instr → ℕ → Instr → Type 0
IsFrom from [] at i = ⊥
IsFrom from (j ∷ js) at i = ((at ≡ from) × (i ≡ j)) ⊎ IsFrom (from + size_of j) js at i

-- handlers stand from $4000 on
abbrev pub IsAt : List Instr → ℕ → Instr → Type 0
IsAt is at i = IsFrom code_start is at i

-- a memory with these instructions
abbrev pub HasCode : List Instr → List ℕ → Type 0
HasCode is mem = (at : ℕ) (i : Instr) → IsAt is at i → StandsAt mem at i
