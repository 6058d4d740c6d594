-- Where items put their bytes, and which of them can't be put.
-- Beside the promise.
use Rattle.std.specs.Prelude.{◌≡◌, ℕ, ◌+◌, ◌^◌, ◌<◌, ◌≤◌, List, [], ◌∷◌, ◌++◌, length, IsSome}
use Rattle.cpu12_isa.specs.Code.{encode_of}
use Rattle.cpu12_asm.specs.declared.{items.AsmFault.AsmFault, items.Item.Item}
use Rattle.cpu12_asm.specs.declared.items.AsmFault.TheVariants.{Range, Overlap, Memory}
use Rattle.cpu12_asm.specs.declared.items.Item.TheVariants.{Place, Byte, Op}
use Rattle.cpu12_asm.specs.Bytes.{byte_at, placed, IsGivenOnce, FitsMemory}

-- the bytes that an item gives
abbrev pub item_bytes : Item → List ℕ
item_bytes (Place at) = []
item_bytes (Byte byte) = byte ∷ []
item_bytes (Op instruction) = encode_of instruction

-- the place behind an item that stands at a place
abbrev pub place_after : ℕ → Item → ℕ
place_after at (Place to) = to
place_after at (Byte byte) = at + 1
place_after at (Op instruction) = at + length (encode_of instruction)

-- the place behind items, of which the first stands at a place
abbrev pub place_behind : ℕ → List Item → ℕ
place_behind at [] = at
place_behind at (item ∷ items) = place_behind (place_after at item) items

-- the bytes that items give with their addresses, where the first stands at a place
abbrev pub given_from : ℕ → List Item → List (ℕ × ℕ)
given_from at [] = []
given_from at (item ∷ items) = placed at (item_bytes item) ++ given_from (place_after at item) items

-- where the next item stands, and what was given
abbrev pub place_of : List Item → ℕ
place_of items = place_behind 0 items

abbrev pub given_by : List Item → List (ℕ × ℕ)
given_by items = given_from 0 items

-- an image can hold what the items give
pub record CanBePlaced (items : List Item) : Type 0 where
  pub once : IsGivenOnce (given_by items)
  pub fits : FitsMemory (given_by items)

-- behind these items, a byte of the next would stand past the last address
abbrev pub PassesEnd : List Item → Item → Type 0
PassesEnd before item = 2 ^ 16 < place_of before + length (item_bytes item)

-- behind these items, the next would not pass the end, but one of its bytes stands where one of theirs does
pub record WritesOver (before : List Item) (item : Item) : Type 0 where
  pub fits : place_of before + length (item_bytes item) ≤ 2 ^ 16
  pub k : ℕ
  pub within : k < length (item_bytes item)
  pub given : IsSome (byte_at (given_by before) (place_of before + k))

-- the n-th item, from 1, is the first that fails: those before it can be placed, and it fails behind them
pub record FailsFirst (Fails : List Item → Item → Type 0) (items : List Item) (n : ℕ) : Type 0 where
  pub before : List Item
  pub item : Item
  pub behind : List Item
  pub parts : items ≡ before ++ (item ∷ behind)
  pub number : n ≡ length before + 1
  pub placed_before : CanBePlaced before
  pub fails : Fails before item

-- items are refused for these faults alone
abbrev pub IsItemFault : AsmFault → Type 0
IsItemFault (Range n) = Unit {0}
IsItemFault (Overlap n) = Unit {0}
IsItemFault Memory = Unit {0}
IsItemFault _ = ⊥

-- items that never go back to a lower place, of which the first stands at a place, and that end within the memory
abbrev pub IsRisingFrom : ℕ → List Item → Type 0
IsRisingFrom at [] = at ≤ 2 ^ 16
IsRisingFrom at (Place to ∷ items) = (at ≤ to) × IsRisingFrom to items
IsRisingFrom at (Byte byte ∷ items) = IsRisingFrom (at + 1) items
IsRisingFrom at (Op instruction ∷ items) = IsRisingFrom (at + length (encode_of instruction)) items

abbrev pub IsRising : List Item → Type 0
IsRising items = IsRisingFrom 0 items
