-- What the lines of a text give, and a text's first fault.
-- Reached by the promise.
use Rattle.std.specs.Prelude.{◌≡◌, ◌≢◌, ℕ, ◌+◌, ◌-◌, ◌<◌, ◌&&◌, nat_le, nat_lt, if◌then◌else◌, List, [], ◌∷◌, ◌++◌}
use Rattle.std.specs.Prelude.{length, slice_index, Option, Some, None, IsSome}
use Rattle.std.specs.Str.Lines.{lines}
use Rattle.cpu12_asm.specs.{Bytes.byte_at, declared.image.Image.Image}
use Rattle.srecord.specs.declared.{fault.SrecFault.SrecFault, fields.Kind.Kind}
use Rattle.srecord.specs.declared.fault.SrecFault.TheVariants.{AfterEnd, CountDiffers, NoEnd, Overlap}
use Rattle.srecord.specs.declared.fields.Kind.TheVariants.{Header, Bytes, Count, Start}
use Rattle.srecord.specs.Lines.{FieldsFail, HasGoodFields, Opens, OpeningFails}

-- the byte of each address that has one, how many records of bytes there are, and the start
pub record Given : Type 0 where
  pub bytes : ℕ → Option ℕ
  pub records : ℕ
  pub start : Option ℕ

abbrev pub nothing_given : Given
nothing_given = record { bytes = λ q. None; records = 0; start = None }

-- the byte of an address, where the first n of a payload stand one after another from a place
abbrev pub with_first : ℕ → (ℕ → Option ℕ) → ℕ → List ℕ → ℕ → Option ℕ
with_first n bytes at payload q =
    if nat_le at q && nat_lt q (at + n) then Some (slice_index payload (q - at)) else bytes q

abbrev pub with_bytes : (ℕ → Option ℕ) → ℕ → List ℕ → ℕ → Option ℕ
with_bytes bytes at payload = with_first (length payload) bytes at payload

-- no byte from a place on for a payload is given yet
abbrev pub IsFree : (ℕ → Option ℕ) → ℕ → List ℕ → Type 0
IsFree bytes at payload = (k : ℕ) → k < length payload → bytes (at + k) ≡ None

-- one of them is
abbrev pub IsTaken : (ℕ → Option ℕ) → ℕ → List ℕ → Type 0
IsTaken bytes at payload = (k : ℕ) × (k < length payload) × IsSome (bytes (at + k))

-- a record gives no byte again, and counts the records of bytes before it
abbrev pub MayFollow : Given → Kind → ℕ → List ℕ → Type 0
MayFollow g Header at payload = Unit {0}
MayFollow g Bytes at payload = IsFree g.bytes at payload
MayFollow g Count at payload = at ≡ g.records
MayFollow g Start at payload = Unit {0}

-- what is given with one record more
abbrev pub given_with : Given → Kind → ℕ → List ℕ → Given
given_with g Header at payload = g
given_with g Bytes at payload =
    record { bytes = with_bytes g.bytes at payload; records = g.records + 1; start = g.start }
given_with g Count at payload = g
given_with g Start at payload = record { bytes = g.bytes; records = g.records; start = Some at }

-- a line is a record of this kind, address and data, with the right checksum
pub record IsRecord (line : List ℕ) (kind : Kind) (at : ℕ) (payload : List ℕ) : Type 0 where
  pub bytes : List ℕ
  pub opens : Opens line kind bytes
  pub fields : HasGoodFields kind bytes at payload

-- lines are good records, and give this
pub data Give : List (List ℕ) → Given → Type 0 where
  none : Give [] nothing_given
  more : (before : List (List ℕ)) (g : Given) (line : List ℕ) (kind : Kind) (at : ℕ) (payload : List ℕ)
      → Give before g → g.start ≡ None → IsRecord line kind at payload → MayFollow g kind at payload
      → Give (before ++ line ∷ []) (given_with g kind at payload)

-- what is wrong with a record behind lines that give this
pub data RecordFails (g : Given) (n : ℕ) : Kind → ℕ → List ℕ → SrecFault → Type 0 where
  overlap : (at : ℕ) (payload : List ℕ) → IsTaken g.bytes at payload
      → RecordFails g n Bytes at payload (Overlap n)
  count_differs : (at : ℕ) (payload : List ℕ) → at ≢ g.records
      → RecordFails g n Count at payload (CountDiffers at g.records)

-- what is wrong with line number n behind lines that give this: the first that is
pub data LineFails (g : Given) (n : ℕ) (line : List ℕ) : SrecFault → Type 0 where
  after_end : g.start ≢ None → LineFails g n line (AfterEnd n)
  opening_fails : (fault : SrecFault) → g.start ≡ None → OpeningFails line n fault → LineFails g n line fault
  fields_fail : (kind : Kind) (bytes : List ℕ) (fault : SrecFault) → g.start ≡ None → Opens line kind bytes
      → FieldsFail kind bytes n fault → LineFails g n line fault
  record_fails : (kind : Kind) (at : ℕ) (payload : List ℕ) (fault : SrecFault) → g.start ≡ None
      → IsRecord line kind at payload → RecordFails g n kind at payload fault → LineFails g n line fault

-- a text's lines give this image
pub record GivesImage (text : List ℕ) (image : Image) : Type 0 where
  pub given : Given
  pub lines_give : Give (lines text) given
  pub bytes : (q : ℕ) → byte_at image.bytes q ≡ given.bytes q
  pub start : given.start ≡ Some image.start

-- a text's first fault: that of the first line that fails, or else that there is no start
pub data HasFault (text : List ℕ) : SrecFault → Type 0 where
  at_line : (before after : List (List ℕ)) (line : List ℕ) (g : Given) (fault : SrecFault)
      → lines text ≡ before ++ line ∷ after → Give before g
      → LineFails g (length before + 1) line fault → HasFault text fault
  no_end : (g : Given) → Give (lines text) g → g.start ≡ None → HasFault text NoEnd
