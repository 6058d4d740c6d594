-- What a shelf and a sink tell: the files, counts of faults, the list of reads and writes, and the bytes that a sink
-- took and the room that is left, or nothing.
-- Reached by the promise.
use Rattle.std.specs.Prelude.{◌≡◌, ◌≢◌, ◌<◌, ◌≤◌, ◌-◌, ◌++◌, ℕ, List, [], length, take, Option, Some, None, Result, Ok}
use Rattle.std.specs.Prelude.{Err}
use Rattle.fz_shelf.specs.{Files.Names, declared.log.Answer.Answer}

-- the bytes that a sink took, and the room that is left
pub record Taken : Type 0 where
  pub bytes : List ℕ
  pub room : ℕ

-- what a sink tells after it took these bytes too
abbrev pub gained : Option Taken → List ℕ → Option Taken
gained None bytes = None
gained (Some t) bytes = Some (record { bytes = t.bytes ++ bytes; room = t.room - length bytes })

-- what it tells after a put
abbrev pub after_put : {E : Type 0} → Option Taken → List ℕ → Result ℕ E → Option Taken
after_put told bytes (Ok n) = gained told (take n bytes)
after_put told bytes (Err e) = told

-- there is room for so many bytes more, as the sink tells
abbrev pub HasRoom : Option Taken → ℕ → Type 0
HasRoom None n = ⊥
HasRoom (Some t) n = n ≤ t.room

-- so many bytes are no more than the room, where the sink tells it
abbrev pub IsWithinRoom : Option Taken → ℕ → Type 0
IsWithinRoom None n = Unit {0}
IsWithinRoom (Some t) n = n ≤ t.room

-- a nonempty prefix of a piece that is not empty
pub record IsPart (n len : ℕ) : Type 0 where
  pub within : n ≤ len
  pub some : 0 < len → 0 < n

-- the sink gained a prefix of these bytes and nothing else
pub record GainedPart (old new : Option Taken) (bytes : List ℕ) : Type 0 where
  pub part : List ℕ
  pub rest : List ℕ
  pub split : part ++ rest ≡ bytes
  pub told : new ≡ gained old part

-- the sink gained a beginning of these bytes, which is not all of them, and nothing else
pub record GainedShort (old new : Option Taken) (bytes : List ℕ) : Type 0 where
  pub part : List ℕ
  pub rest : List ℕ
  pub split : part ++ rest ≡ bytes
  pub short : rest ≢ []
  pub told : new ≡ gained old part

-- how many reads failed, how many files were too long, how many writes failed
pub record Counts : Type 0 where
  pub reads : ℕ
  pub longs : ℕ
  pub writes : ℕ

-- the list of reads and writes, each with the kind of its answer
abbrev pub Log : Type 0
Log = List (List ℕ × Answer)

-- what a shelf tells
pub record ShelfTold : Type 0 where
  pub files : Names
  pub counts : Counts
  pub asked : Log

-- what a sink tells: what it took, and how many puts failed
pub record SinkTold : Type 0 where
  pub taken : Option Taken
  pub faults : ℕ

-- what the shelf and out tell
pub record World : Type 0 where
  pub files : Names
  pub counts : Counts
  pub asked : Log
  pub told : Option Taken
  pub faults : ℕ

abbrev pub world : ShelfTold → SinkTold → World
world s o = record { files = s.files; counts = s.counts; asked = s.asked; told = o.taken; faults = o.faults }
