-- What a read and a write do to a shelf's bytes and counts.
-- Beside the promise.
use Rattle.std.specs.Prelude.{◌≡◌, ◌≤◌, ℕ, List, length, Result, Ok, Err}
use Rattle.fz_shelf.specs.Faults.{Rose, one_fault_more}
use Rattle.fz_shelf.specs.{Files.File, Files.Holds, Files.IsLong, declared.errors.ReadError.ReadError}
use Rattle.fz_shelf.specs.declared.errors.ReadError.TheVariants as error
use Rattle.fz_shelf.specs.declared.errors.WriteError.{WriteError}
use Rattle.fz_shelf.specs.declared.errors.WriteError.TheVariants as write
use Rattle.fz_shelf.specs.Told.{Counts}

-- what an answer to a read says of the file: a whole one is the file, and within the limit; too
-- long comes only for a file above it
abbrev pub ReadTells : File → Result Unit ReadError → List ℕ → Type 0
ReadTells file (Ok u) bytes = Holds file bytes × (length bytes ≤ 1048576)
ReadTells file (Err error.Failed) bytes = Unit {0}
ReadTells file (Err error.TooLong) bytes = IsLong file
ReadTells file (Err error.Memory) bytes = Unit {0}

-- the counts after a read: each fault raises its own
abbrev pub ReadCounts : Counts → Counts → Result Unit ReadError → Type 0
ReadCounts old new (Ok u) = new ≡ old
ReadCounts old new (Err error.Failed) =
    (new ≡ record old { reads = new.reads }) × (old.reads ≤ new.reads) × Rose old.reads new.reads
ReadCounts old new (Err error.TooLong) =
    (new ≡ record old { longs = new.longs }) × (old.longs ≤ new.longs) × Rose old.longs new.longs
ReadCounts old new (Err error.Memory) = new ≡ old

-- the counts after a write
abbrev pub WriteCounts : Counts → Counts → Result Unit WriteError → Type 0
WriteCounts old new (Ok u) = new ≡ old
WriteCounts old new (Err write.Failed) =
    (new ≡ record old { writes = new.writes }) × (old.writes ≤ new.writes) × Rose old.writes new.writes
WriteCounts old new (Err write.Memory) = new ≡ old

-- the counts after calls of a shelf that counts each fault once
abbrev pub counts_after_read : Counts → Result Unit ReadError → Counts
counts_after_read old (Ok u) = old
counts_after_read old (Err error.Failed) = record old { reads = one_fault_more old.reads }
counts_after_read old (Err error.TooLong) = record old { longs = one_fault_more old.longs }
counts_after_read old (Err error.Memory) = old

abbrev pub counts_after_write : Counts → Result Unit WriteError → Counts
counts_after_write old (Ok u) = old
counts_after_write old (Err write.Failed) = record old { writes = one_fault_more old.writes }
counts_after_write old (Err write.Memory) = old
