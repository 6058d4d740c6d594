-- The bytes of an image, as a list of addresses with their bytes.
-- Reached by the promise.
use Rattle.std.specs.Prelude.{◌≡◌, ◌≢◌, ℕ, ◌+◌, ◌*◌, ◌^◌, ◌<◌, List, [], ◌∷◌, Option, Some, None}
use Rattle.std.specs.BTreeMap.{is_at}
use Rattle.std.specs.Ordering.{nat_cmp}
use Rattle.std.specs.Map.{lookup, keys_of}
use Rattle.std.specs.List.Sorted.{IsStrictlySortedBy}

-- the byte at an address: the first that is given there
abbrev pub byte_at : List (ℕ × ℕ) → ℕ → Option ℕ
byte_at bytes at = lookup (is_at (nat_cmp at)) bytes

-- the addresses ascend, so each stands once
abbrev pub IsAscending : List (ℕ × ℕ) → Type 0
IsAscending bytes = IsStrictlySortedBy nat_cmp (keys_of bytes)

-- no address is given twice
abbrev pub IsGivenOnce : List (ℕ × ℕ) → Type 0
IsGivenOnce [] = Unit {0}
IsGivenOnce (b ∷ bytes) = (byte_at bytes b.0 ≡ None) × IsGivenOnce bytes

-- each address is one of the memory's
abbrev pub FitsMemory : List (ℕ × ℕ) → Type 0
FitsMemory [] = Unit {0}
FitsMemory (b ∷ bytes) = (b.0 < 2 ^ 16) × FitsMemory bytes

-- each byte of the first, below an address, is the second's
abbrev pub HaveBelow : ℕ → List (ℕ × ℕ) → List (ℕ × ℕ) → Type 0
HaveBelow limit bytes others = (q b : ℕ) → q < limit → byte_at bytes q ≡ Some b → byte_at others q ≡ Some b

-- the least address of a byte of the first that is not the second's
pub record IsFirstMissing (bytes others : List (ℕ × ℕ)) (at : ℕ) : Type 0 where
  pub byte : ℕ
  pub has : byte_at bytes at ≡ Some byte
  pub lacks : byte_at others at ≢ Some byte
  pub before : HaveBelow at bytes others

-- the least address at which two have different bytes, or one a byte and the other none
pub record IsFirstDifference (bytes others : List (ℕ × ℕ)) (at : ℕ) : Type 0 where
  pub differs : byte_at bytes at ≢ byte_at others at
  pub before : (q : ℕ) → q < at → byte_at bytes q ≡ byte_at others q

-- bytes with their addresses, one after another from a place
abbrev pub placed : ℕ → List ℕ → List (ℕ × ℕ)
placed at [] = []
placed at (byte ∷ bytes) = (at, byte) ∷ placed (at + 1) bytes

-- an image has just the bytes that are given, each of them given once
pub record Holds (image given : List (ℕ × ℕ)) : Type 0 where
  pub bytes : (at : ℕ) → byte_at image at ≡ byte_at given at
  pub once : IsGivenOnce given
  pub fits : FitsMemory given

-- the word of two bytes, or 0 where one is missing
abbrev pub word_or_zero : Option ℕ → Option ℕ → ℕ
word_or_zero (Some high) (Some low) = high * 256 + low
word_or_zero (Some high) None = 0
word_or_zero None low = 0

-- the address in the reset vector
abbrev pub start_of : List (ℕ × ℕ) → ℕ
start_of bytes = word_or_zero (byte_at bytes 65534) (byte_at bytes 65535)
