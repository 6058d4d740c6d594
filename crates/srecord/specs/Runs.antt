-- Neighbouring bytes.
-- Beside the promise.
use Rattle.std.specs.Prelude.{◌≡◌, ℕ, ◌+◌, List, [], ◌∷◌, map, slice_index_or}

abbrev pub address_at : List (ℕ × ℕ) → ℕ → ℕ
address_at bytes i = (slice_index_or bytes i (0, 0)).0

-- without their addresses
abbrev pub bytes_only : List (ℕ × ℕ) → List ℕ
bytes_only bytes = map (λ b. b.1) bytes

-- each byte stands behind the one before it, the first at an address
abbrev pub IsRun : ℕ → List (ℕ × ℕ) → Type 0
IsRun at [] = Unit {0}
IsRun at (b ∷ bytes) = (b.0 ≡ at) × IsRun (at + 1) bytes
