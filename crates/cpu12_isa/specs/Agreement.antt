-- Memories that agree but for hidden bytes, and what an act does on them.
-- Beside the promise.
use Rattle.std.specs.Prelude.{◌≡◌, ℕ, ◌<◌, ◌≤◌, Bool, false, List, [], ◌∷◌, length, slice_index, ◌⊎◌}
use Rattle.cpu12_isa.specs.Act.{Act, outcome, read_by, write_all}

-- two memories have the same bytes but at hidden addresses
pub record Agree (hidden : ℕ → Bool) (m n : List ℕ) : Type 0 where
  pub size : length m ≡ length n
  pub bytes : (at : ℕ) → hidden at ≡ false → slice_index m at ≡ slice_index n at

-- n has the bytes of m from an address on
abbrev pub AgreeFrom : ℕ → List ℕ → List ℕ → Type 0
AgreeFrom from m n = (at : ℕ) → from ≤ at → slice_index n at ≡ slice_index m at

-- so it has up to another
abbrev pub AgreeBetween : ℕ → ℕ → List ℕ → List ℕ → Type 0
AgreeBetween from to m n = (at : ℕ) → from ≤ at → at < to → slice_index n at ≡ slice_index m at

-- none of these addresses is hidden
abbrev pub AllShown : (ℕ → Bool) → List ℕ → Type 0
AllShown hidden [] = Unit {0}
AllShown hidden (at ∷ ats) = (hidden at ≡ false) × AllShown hidden ats

-- the addresses of writes
abbrev pub addresses : List (ℕ × ℕ) → List ℕ
addresses [] = []
addresses (w ∷ ws) = w.0 ∷ addresses ws

-- an address is one of those written
abbrev pub IsWritten : List (ℕ × ℕ) → ℕ → Type 0
IsWritten [] at = ⊥
IsWritten (w ∷ ws) at = (at ≡ w.0) ⊎ IsWritten ws at

-- what is hidden no more is written
abbrev pub Uncovers : (ℕ → Bool) → List (ℕ × ℕ) → (ℕ → Bool) → Type 0
Uncovers hidden ws later = (at : ℕ) → later at ≡ false → (hidden at ≡ false) ⊎ IsWritten ws at

-- What acts of a kind do depends on the bytes that they read alone: where an act reads no hidden byte, memories that
-- agree give the same outcome, and it reads the same addresses.
abbrev pub ReadsAlone : Type 0 → Type 0
ReadsAlone A = (act : Act A) (m n : List ℕ) (hidden : ℕ → Bool) → Agree hidden m n → AllShown hidden (read_by act n)
    → (outcome act m ≡ outcome act n) × (read_by act m ≡ read_by act n)

-- The same writes keep memories agreed, also where less is hidden after them, if they write what is hidden no more.
abbrev pub WritesAgree : Type 0
WritesAgree =
    (ws : List (ℕ × ℕ)) (m n : List ℕ) (hidden later : ℕ → Bool) → Agree hidden m n → Uncovers hidden ws later
    → Agree later (write_all ws m) (write_all ws n)

-- Writes change the bytes at their addresses alone.
abbrev pub WritesStay : Type 0
WritesStay =
    (ws : List (ℕ × ℕ)) (m : List ℕ) → (length (write_all ws m) ≡ length m)
    × ((at : ℕ) → (IsWritten ws at → ⊥) → slice_index (write_all ws m) at ≡ slice_index m at)
