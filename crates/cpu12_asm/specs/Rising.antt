-- Items that never go back to a lower place, part by part.
-- Beside the promise.
use Rattle.std.specs.Prelude.{ℕ, ◌+◌, ◌^◌, ◌≤◌, List, ◌∷◌, ◌++◌, length}
use Rattle.cpu12_asm.specs.declared.items.Item.{Item}
use Rattle.cpu12_asm.specs.{Bytes.IsAscending}
use Rattle.cpu12_asm.specs.Items.{item_bytes, place_after, place_behind, given_by, CanBePlaced, IsRisingFrom, IsRising}

-- The first item's bytes end where the others begin, or before, and those rise from there.
abbrev pub RisesBehindFirst : Type 0
RisesBehindFirst = (at : ℕ) (item : Item) (items : List Item) → IsRisingFrom at (item ∷ items)
    → (at + length (item_bytes item) ≤ place_after at item) × IsRisingFrom (place_after at item) items

-- The end is no lower than the start, and within the memory.
abbrev pub EndsInMemory : Type 0
EndsInMemory = (at : ℕ) (items : List Item) → IsRisingFrom at items
    → (at ≤ place_behind at items) × (place_behind at items ≤ 2 ^ 16)

-- What stands behind a part rises from its end.
abbrev pub RisesBehindPart : Type 0
RisesBehindPart = (at : ℕ) (part items : List Item) → IsRisingFrom at (part ++ items)
    → IsRisingFrom (place_behind at part) items

-- The bytes that they give ascend, and an image can hold them.
abbrev pub RisingBytesAscend : Type 0
RisingBytesAscend = (items : List Item) → IsRising items → IsAscending (given_by items) × CanBePlaced items
