-- One record, the fields of one line, and what is wrong with a line that has none.
-- Reached by the promise.
use Rattle.std.specs.Prelude.{◌≡◌, ◌≢◌, ℕ, ◌+◌, ◌≤◌, ◌==◌, ◌||◌, Bool, true, if◌then◌else◌, List, [], ◌∷◌, ◌++◌, length}
use Rattle.std.specs.Prelude.{Option, Some, None, Ok}
use Rattle.hex.specs.Hex.{decode_of}
use Rattle.srecord.specs.declared.{fault.SrecFault.SrecFault, fields.Kind.Kind}
use Rattle.srecord.specs.declared.fault.SrecFault.TheVariants.{BadLine, BadSum, Wide}
use Rattle.srecord.specs.declared.fields.Kind.TheVariants.{Header, Bytes, Count, Start}
use Rattle.std.specs.Prelude.{◌-◌, ◌/◌, ◌%◌, sum, codes}
use Rattle.hex.specs.Hex.{encode_upper}

-- how many bytes follow, an address, and bytes
abbrev pub body_of : ℕ → List ℕ → List ℕ
body_of address bytes = (length bytes + 3) ∷ address / 256 ∷ address % 256 ∷ bytes

-- the one's complement of the low byte of the sum
abbrev pub checksum_of : List ℕ → ℕ
checksum_of body = 255 - sum body % 256

-- the record of a digit, which is its kind, with its body and the checksum in hexadecimal
abbrev pub record_text : ℕ → ℕ → List ℕ → List ℕ
record_text digit address bytes =
    codes "S"
    ++ (digit ∷ (encode_upper (body_of address bytes ++ checksum_of (body_of address bytes) ∷ []) ++ codes "\n"))

-- the letter S in either case
abbrev pub is_letter : ℕ → Bool
is_letter c = (c == 0x53) || (c == 0x73)

-- the digit behind a line's letter, and the digits behind that
abbrev pub parts_of : List ℕ → Option (ℕ × List ℕ)
parts_of [] = None
parts_of (letter ∷ []) = None
parts_of (letter ∷ digit ∷ digits) = if is_letter letter then Some (digit, digits) else None

-- the digits of records with addresses of more than 16 bits
abbrev pub is_wide : ℕ → Bool
is_wide digit = (digit == 0x32) || ((digit == 0x33) || ((digit == 0x37) || (digit == 0x38)))

abbrev pub kind_of : ℕ → Option Kind
kind_of digit =
    if digit == 0x30 then Some Header
    else if digit == 0x31 then Some Bytes
    else if digit == 0x35 then Some Count
    else if digit == 0x39 then Some Start
    else None

-- a line begins as a record with a wide address
pub record BeginsWide (line : List ℕ) : Type 0 where
  pub digit : ℕ
  pub digits : List ℕ
  pub parts : parts_of line ≡ Some (digit, digits)
  pub wide : is_wide digit ≡ true

-- a line is of this kind, and its digits spell these bytes
pub record Opens (line : List ℕ) (kind : Kind) (bytes : List ℕ) : Type 0 where
  pub digit : ℕ
  pub digits : List ℕ
  pub parts : parts_of line ≡ Some (digit, digits)
  pub kind_is : kind_of digit ≡ Some kind
  pub bytes_are : decode_of digits ≡ Ok bytes

-- the data of a record of bytes end within the memory, and a count and a start have none
abbrev pub FitsKind : Kind → ℕ → List ℕ → Type 0
FitsKind Header at payload = Unit {0}
FitsKind Bytes at payload = at + length payload ≤ 65536
FitsKind Count at payload = payload ≡ []
FitsKind Start at payload = payload ≡ []

-- a record's bytes are a count, this address, data and checksum
pub record HasFields (kind : Kind) (bytes : List ℕ) (at : ℕ) (payload : List ℕ) (sum : ℕ) : Type 0 where
  pub bytes_are : bytes ≡ body_of at payload ++ sum ∷ []
  pub fits : FitsKind kind at payload

-- the checksum is right
abbrev pub HasGoodFields : Kind → List ℕ → ℕ → List ℕ → Type 0
HasGoodFields kind bytes at payload = HasFields kind bytes at payload (checksum_of (body_of at payload))

-- line number n has no kind or no bytes
pub data OpeningFails (line : List ℕ) (n : ℕ) : SrecFault → Type 0 where
  wide : BeginsWide line → OpeningFails line n (Wide n)
  unopened : (BeginsWide line → ⊥) → ((kind : Kind) (bytes : List ℕ) → Opens line kind bytes → ⊥)
      → OpeningFails line n (BadLine n)

-- the bytes of line number n are no fields, or have another checksum
pub data FieldsFail (kind : Kind) (bytes : List ℕ) (n : ℕ) : SrecFault → Type 0 where
  unread : ((at : ℕ) (payload : List ℕ) (sum : ℕ) → HasFields kind bytes at payload sum → ⊥)
      → FieldsFail kind bytes n (BadLine n)
  bad_sum : (at : ℕ) (payload : List ℕ) (sum : ℕ) → HasFields kind bytes at payload sum
      → sum ≢ checksum_of (body_of at payload)
      → FieldsFail kind bytes n (BadSum n sum (checksum_of (body_of at payload)))
