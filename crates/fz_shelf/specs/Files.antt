-- What a shelf tells of a name.
-- Reached by the promise.
use Rattle.std.specs.Prelude.{◌≡◌, ◌<◌, ◌≤◌, ℕ, List, length}

-- nothing, that it is not there, or its bytes and the greatest number of bytes that it holds
pub data File : Type 0 where
  untold : File
  absent : File
  known : (bytes : List ℕ) (room : ℕ) → File

abbrev pub Names : Type 0
Names = List ℕ → File

-- these are the file's bytes, where the shelf tells it
abbrev pub Holds : File → List ℕ → Type 0
Holds untold bytes = Unit {0}
Holds absent bytes = ⊥
Holds (known b room) bytes = bytes ≡ b

-- the file is longer than a read takes, where the shelf tells it
abbrev pub IsLong : File → Type 0
IsLong untold = Unit {0}
IsLong absent = ⊥
IsLong (known b room) = 1048576 < length b

-- the shelf tells that the file is there
abbrev pub IsThere : File → Type 0
IsThere untold = ⊥
IsThere absent = ⊥
IsThere (known b room) = Unit {0}

-- the shelf tells that the file is there, with room for so many bytes
abbrev pub Fits : File → ℕ → Type 0
Fits untold n = ⊥
Fits absent n = ⊥
Fits (known b room) n = n ≤ room

-- the file after a write that is Ok: the bytes are within its room
abbrev pub Written : File → List ℕ → File → Type 0
Written untold bytes new = Unit {0}
Written absent bytes new = ⊥
Written (known b room) bytes new = (length bytes ≤ room) × (new ≡ known bytes room)
