-- What a session notes: the bytes that stand at the watched addresses.
-- Beside the promise.
use Rattle.std.specs.Prelude.{◌≡◌, ℕ, if◌then◌else◌, Option, Some, None, List, length, slice_index, slice_index_or}
use Rattle.std.specs.BTreeSet.{BTreeSet, contains_by}
use Rattle.std.specs.Ordering.{nat_cmp}
use Rattle.alone_runs.specs.Sessions.{SessionSeen}

-- the byte at an address, where it is watched
abbrev pub noted_at : BTreeSet ℕ → List ℕ → ℕ → Option ℕ
noted_at watches mem at = if contains_by (nat_cmp at) watches then Some (slice_index mem at) else None

-- of the 65536 addresses those that are watched are noted, each with its byte
pub record AreNoted (watches : BTreeSet ℕ) (mem : List ℕ) (noted : List (Option ℕ)) : Type 0 where
  pub size : length noted ≡ 65536
  pub bytes : (at : ℕ) → slice_index_or noted at None ≡ noted_at watches mem at

-- a session notes the bytes where it stands
abbrev pub NotesBytes : BTreeSet ℕ → SessionSeen → Type 0
NotesBytes watches s = AreNoted watches s.rest.here.state.mem s.noted

-- whatever is watched: where a session noted the bytes, it notes them still
abbrev pub KeepsNotes : SessionSeen → SessionSeen → Type 0
KeepsNotes old new = (watches : BTreeSet ℕ) → NotesBytes watches old → NotesBytes watches new
