-- The records of an image.
-- Beside the promise.
use Rattle.std.specs.Prelude.{◌≡◌, ◌⊎◌, ℕ, ◌+◌, ◌<◌, ◌≤◌, List, [], ◌∷◌, ◌++◌, length, codes}
use Rattle.cpu12_asm.specs.Bytes.{placed}
use Rattle.hex.specs.Hex.{IsBytes}
use Rattle.srecord.specs.Lines.{record_text}

-- the bytes of one record, and the address of the first
pub record Piece : Type 0 where
  pub at : ℕ
  pub bytes : List ℕ

-- the first of these bytes stands at this address
abbrev pub StartsAt : ℕ → List (ℕ × ℕ) → Type 0
StartsAt at [] = ⊥
StartsAt at (b ∷ bytes) = b.0 ≡ at

-- a piece of 1 to 32 bytes within the memory, that could not be longer before the bytes that follow
pub record IsPiece (p : Piece) (behind : List (ℕ × ℕ)) : Type 0 where
  pub some : 1 ≤ length p.bytes
  pub few : length p.bytes ≤ 32
  pub fits : p.at + length p.bytes ≤ 65536
  pub are_bytes : IsBytes p.bytes
  pub ends : (length p.bytes ≡ 32) ⊎ (StartsAt (p.at + length p.bytes) behind → ⊥)

-- bytes cut into pieces from the first on
pub data AreCut : List (ℕ × ℕ) → List Piece → Type 0 where
  none : AreCut [] []
  next : (p : Piece) (behind : List (ℕ × ℕ)) (pieces : List Piece) → IsPiece p behind → AreCut behind pieces
      → AreCut (placed p.at p.bytes ++ behind) (p ∷ pieces)

abbrev pub data_text : List Piece → List ℕ
data_text [] = []
data_text (p ∷ pieces) = record_text 49 p.at p.bytes ++ data_text pieces

-- the text of the image of these bytes, with this start: a header, the bytes, how many records they take, and the start
pub record ImageText (bytes : List (ℕ × ℕ)) (start : ℕ) (text : List ℕ) : Type 0 where
  pub pieces : List Piece
  pub cut : AreCut bytes pieces
  pub fits : start < 65536
  pub records : text ≡ record_text 48 0 (codes "FZ12") ++ (data_text pieces
      ++ (record_text 53 (length pieces) [] ++ record_text 57 start []))
