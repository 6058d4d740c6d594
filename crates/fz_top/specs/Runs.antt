-- What a run leaves, status by status.
-- Beside the promise.
use Rattle.std.specs.Prelude.{◌≡◌, ◌≢◌, ◌⊎◌, ◌<◌, ◌≤◌, ℕ, List, [], ◌∷◌, ◌++◌, length, Option, Some, None}
use Rattle.std.specs.Prelude.{is_some, true, Result, Ok, Err}
use Rattle.std.specs.List.{concat}
use Rattle.fz_shelf.specs.{Faults.Rose, Told.Log, Told.Taken, Lines.GainedLines, Told.gained, Told.HasRoom, Files.Names}
use Rattle.fz_shelf.specs.declared.log.Answer.{Answer}
use Rattle.fz_shelf.specs.declared.log.Answer.TheVariants as answer
use Rattle.fz_shelf.specs.{Files.Written, Files.Fits, Files.known}
use Rattle.fz_status.specs.Words.{Text, word_at}
use Rattle.fz_top.specs.{Accepted.Accepts, Commands.Makes, Commands.command_in, Commands.inputs_of}
use Rattle.fz_top.specs.Reads.{AreHeld, ReadsFirst, names_at, whole_entries, StopsBy}
use Rattle.fz_top.specs.declared.{command.Command.Command, reading.Stop.Stop}
use Rattle.command_parts.specs.SeenOutputs.{SeenOutput}
use Rattle.fz_top.specs.declared.reading.Stop.TheVariants as stop
use Rattle.fz_status.specs.declared.status.Status.{Status}
use Rattle.fz_status.specs.declared.status.Status.TheVariants as status
use Rattle.fz_shelf.specs.Told.{World}

-- the file of OUT alone may have changed
abbrev pub ChangesOnly : List Text → Option (ℕ × List ℕ) → Names → Names → Type 0
ChangesOnly words None old new = new ≡ old
ChangesOnly words (Some p) old new = (other : Text) → other ≢ word_at words p.0 → new other ≡ old other

abbrev pub IsWritten : List Text → Option (ℕ × List ℕ) → Names → Names → Type 0
IsWritten words None old new = new ≡ old
IsWritten words (Some p) old new = Written (old (word_at words p.0)) p.1 (new (word_at words p.0))

abbrev pub FileFits : List Text → Option (ℕ × List ℕ) → Names → Type 0
FileFits words None files = Unit {0}
FileFits words (Some p) files = Fits (files (word_at words p.0)) (length p.1)

-- the list of reads and writes with OUT's write behind it, where there is an OUT: one write, and of no other file
abbrev pub with_write : List Text → Option (ℕ × List ℕ) → Answer → Log → Log
with_write words None answer asked = asked
with_write words (Some p) answer asked = asked ++ (word_at words p.0, answer) ∷ []

-- all is written and put
pub record Delivered (words : List Text) (output : SeenOutput) (old new : World) : Type 0 where
  pub asked : new.asked ≡ with_write words output.file answer.Written old.asked
  pub others : ChangesOnly words output.file old.files new.files
  pub written : IsWritten words output.file old.files new.files
  pub told : new.told ≡ gained old.told (concat output.lines)
  pub counts : new.counts ≡ old.counts
  pub faults : new.faults ≡ old.faults

-- the write failed, and nothing was put
pub record WriteFailed (words : List Text) (output : SeenOutput) (old new : World) : Type 0 where
  pub asked : new.asked ≡ with_write words output.file answer.Unwritten old.asked
  pub has_file : is_some output.file ≡ true
  pub counts : new.counts ≡ record old.counts { writes = new.counts.writes }
  pub rose : Rose old.counts.writes new.counts.writes
  pub told : new.told ≡ old.told
  pub faults : new.faults ≡ old.faults

-- a put failed, and OUT is whole; so are the lines that were put before the one of which a beginning was
pub record PutFailed (words : List Text) (output : SeenOutput) (old new : World) : Type 0 where
  pub asked : new.asked ≡ with_write words output.file answer.Written old.asked
  pub written : IsWritten words output.file old.files new.files
  pub counts : new.counts ≡ old.counts
  pub rose : Rose old.faults new.faults
  pub part : GainedLines old.told new.told output.lines

-- the command of the words, the contents that its files have where the shelf tells them, and what it makes of them
pub record Worked (words : List Text) (old : World) (r : Result SeenOutput Status) : Type 0 where
  pub command : Command
  pub is : command_in words ≡ Some command
  pub contents : List (List ℕ)
  pub held : AreHeld old.files (names_at words (inputs_of command)) contents
  pub outcome : Makes command contents r

-- what the shelf and out tell when its files were each read whole, and nothing else was done
abbrev pub read_whole : List Text → Command → World → World
read_whole words command old = record old { asked = old.asked ++ whole_entries words (inputs_of command) }

-- nothing was written or put
pub record Untouched (old new : World) : Type 0 where
  pub files : new.files ≡ old.files
  pub writes : new.counts.writes ≡ old.counts.writes
  pub told : new.told ≡ old.told
  pub faults : new.faults ≡ old.faults

-- a read refused
pub record Refused (words : List Text) (old new : World) (s : Stop) : Type 0 where
  pub command : Command
  pub is : command_in words ≡ Some command
  pub stops : StopsBy words (inputs_of command) old.files old.counts new.counts old.asked new.asked s
  pub untouched : Untouched old new

-- the contents are refused
pub record Faulted (words : List Text) (old new : World) (s : Status) : Type 0 where
  pub worked : Worked words old (Err s)
  pub left : new ≡ read_whole words worked.command old

-- memory was wanted, the command's first files, or none, being read whole
pub record OutOfMemory (words : List Text) (old new : World) : Type 0 where
  pub counts : new.counts ≡ old.counts
  pub untouched : Untouched old new
  pub reads : (new.asked ≡ old.asked) ⊎ ((command : Command) × (command_in words ≡ Some command)
      × ReadsFirst words (inputs_of command) old.files old.asked new.asked)

-- the table of statuses
abbrev pub Runs : List Text → World → World → Status → Type 0
Runs words old new status.Ok = (output : SeenOutput) × (w : Worked words old (Ok output))
    × Delivered words output (read_whole words w.command old) new
Runs words old new status.Usage = (command_in words ≡ None) × (new ≡ old)
Runs words old new (status.ReadFault p) = Refused words old new (stop.Failed p)
Runs words old new status.WriteFault = (output : SeenOutput) × (w : Worked words old (Ok output))
    × ChangesOnly words output.file old.files new.files
    × (WriteFailed words output (read_whole words w.command old) new
    ⊎ PutFailed words output (read_whole words w.command old) new)
Runs words old new status.Memory = OutOfMemory words old new
Runs words old new (status.TooLong p) = Refused words old new (stop.TooLong p)
Runs words old new s = Faulted words old new s

-- the shelf tells these contents, and none is too long
abbrev pub AreKnown : Names → List Text → List (List ℕ) → Type 0
AreKnown files [] [] = Unit {0}
AreKnown files [] (c ∷ cs) = ⊥
AreKnown files (n ∷ ns) [] = ⊥
AreKnown files (n ∷ ns) (c ∷ cs) = ((room : ℕ) × (files n ≡ known c room)) × (length c ≤ 1048576) × AreKnown files ns cs

-- there is room for what the command writes and puts, whatever that is
abbrev pub RoomFor : List Text → Names → Option Taken → (Result SeenOutput Status → Type 0) → Type 0
RoomFor words files told makes =
    (output : SeenOutput) → makes (Ok output) → FileFits words output.file files
    × HasRoom told (length (concat output.lines))

-- the words are of a command whose files are told, and there is room
pub record IsReady (words : List Text) (old : World) (command : Command) (contents : List (List ℕ)) : Type 0 where
  pub is : command_in words ≡ Some command
  pub known : AreKnown old.files (names_at words (inputs_of command)) contents
  pub room : RoomFor words old.files old.told (Makes command contents)

-- the words are of a command whose files are told, and the contents are accepted
pub record CanBeDone (words : List Text) (files : Names) (command : Command) (contents : List (List ℕ)) : Type 0 where
  pub is : command_in words ≡ Some command
  pub known : AreKnown files (names_at words (inputs_of command)) contents
  pub accepted : Accepts command contents

-- no read, write or put failed
pub record HasNoFault (old new : World) : Type 0 where
  pub reads : Rose old.counts.reads new.counts.reads → ⊥
  pub writes : Rose old.counts.writes new.counts.writes → ⊥
  pub puts : Rose old.faults new.faults → ⊥

-- the words are of a command; the shelf tells the files before this word, none too long, and
-- tells this one as too long
pub record IsTooLong (words : List Text) (files : Names) (place : ℕ) : Type 0 where
  pub command : Command
  pub is : command_in words ≡ Some command
  pub before : List ℕ
  pub after : List ℕ
  pub split : before ++ place ∷ after ≡ inputs_of command
  pub contents : List (List ℕ)
  pub known_before : AreKnown files (names_at words before) contents
  pub bytes : List ℕ
  pub room : ℕ
  pub told : files (word_at words place) ≡ known bytes room
  pub long : 1048576 < length bytes

abbrev pub status_of : Result SeenOutput Status → Status
status_of (Ok output) = status.Ok
status_of (Err s) = s

abbrev pub IsReadFault : Status → Type 0
IsReadFault (status.ReadFault p) = Unit {0}
IsReadFault _ = ⊥

abbrev pub IsWriteFault : Status → Type 0
IsWriteFault status.WriteFault = Unit {0}
IsWriteFault _ = ⊥

-- no two results are made
abbrev pub HasOneResult : (Result SeenOutput Status → Type 0) → Type 0
HasOneResult makes = (r q : Result SeenOutput Status) → makes r → makes q → r ≡ q

-- the status is that of the one result that the contents make
abbrev pub IsMade : (Result SeenOutput Status → Type 0) → Status → Type 0
IsMade makes s = HasOneResult makes × (r : Result SeenOutput Status) × makes r × (s ≡ status_of r)

-- the same, but for want of memory and faults of the shelf and out
abbrev pub Settles : (Result SeenOutput Status → Type 0) → Status → Type 0
Settles makes s = IsMade makes s ⊎ ((s ≡ status.Memory) ⊎ (IsReadFault s ⊎ IsWriteFault s))
