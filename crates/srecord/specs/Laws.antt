-- What holds of every text of records.
-- Beside the promise.
use Rattle.std.specs.Prelude.{◌≡◌, ◌⊎◌, ℕ, ◌^◌, ◌<◌, ◌≤◌, List, length, Some}
use Rattle.cpu12_asm.specs.{Bytes.IsAscending, Bytes.byte_at, declared.image.Image.Image}
use Rattle.srecord.specs.declared.fault.SrecFault.{SrecFault}
use Rattle.srecord.specs.{Images.AreCut, Images.ImageText, Images.Piece, Texts.GivesImage, Texts.HasFault}

-- a text gives one image at most: one start, and one byte or none at each address
abbrev pub ImagesAreOne : Type 0
ImagesAreOne = (text : List ℕ) (a b : Image) → GivesImage text a → GivesImage text b
    → (a.start ≡ b.start) × ((q : ℕ) → byte_at a.bytes q ≡ byte_at b.bytes q)

-- a text that gives an image has no fault
abbrev pub ImagesHaveNoFault : Type 0
ImagesHaveNoFault = (text : List ℕ) (image : Image) (fault : SrecFault) → GivesImage text image
    → HasFault text fault → ⊥

-- a text has one first fault at most
abbrev pub FaultsAreOne : Type 0
FaultsAreOne = (text : List ℕ) (f g : SrecFault) → HasFault text f → HasFault text g → f ≡ g

-- bytes at ascending addresses take 32768 records at most: one each where every second address has a byte
abbrev pub ImagesHaveFewRecords : Type 0
ImagesHaveFewRecords = (bytes : List (ℕ × ℕ)) (pieces : List Piece) → IsAscending bytes → AreCut bytes pieces
    → length pieces ≤ 32768

-- a text gives an image, or it has a fault
abbrev pub EachTextIsJudged : Type 0
EachTextIsJudged = (text : List ℕ) → ((image : Image) × GivesImage text image) ⊎
    ((fault : SrecFault) × HasFault text fault)

-- the image of bytes, with this start, has one text
abbrev pub ImageTextsAreOne : Type 0
ImageTextsAreOne = (bytes : List (ℕ × ℕ)) (start : ℕ) (text other : List ℕ) → ImageText bytes start text
    → ImageText bytes start other → text ≡ other

-- each address that has a byte is one of the memory's, and it has a byte
abbrev pub AreMemoryBytes : List (ℕ × ℕ) → Type 0
AreMemoryBytes bytes = (at byte : ℕ) → byte_at bytes at ≡ Some byte → (at < 2 ^ 16) × (byte < 2 ^ 8)

-- and bytes of memory at ascending addresses have one, with each start
abbrev pub ImagesHaveTexts : Type 0
ImagesHaveTexts = (bytes : List (ℕ × ℕ)) (start : ℕ) → IsAscending bytes → AreMemoryBytes bytes → start < 2 ^ 16
    → (text : List ℕ) × ImageText bytes start text
