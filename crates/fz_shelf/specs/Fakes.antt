-- What a shelf and a sink in memory tell, and what they are told to do.
-- Beside the promise.
use Rattle.std.specs.Prelude.{◌≡◌, ℕ, List, [], Some}
use Rattle.fz_shelf.specs.{Calls.IsListed, Log.asked_of, MemFiles.file_in, Told.ShelfTold, Told.SinkTold}
use Rattle.fz_shelf.specs.declared.{mem_shelf.MemFile.MemFile, mem_shelf.MemShelf.MemShelf, mem_sink.MemSink.MemSink}

abbrev pub shelf_told : MemShelf → ShelfTold
shelf_told s = record {
  files = file_in s.files.items;
  counts = record { reads = s.failed_reads; longs = s.too_long; writes = s.failed_writes };
  asked = asked_of s.asked.items;
}

-- the same of a shelf of these files before any call
abbrev pub told_first : List MemFile → ShelfTold
told_first files = record { files = file_in files; counts = record { reads = 0; longs = 0; writes = 0 }; asked = [] }

abbrev pub sink_told : MemSink → SinkTold
sink_told s = record { taken = Some (record { bytes = s.bytes.items; room = s.room }); faults = s.faults }

-- the numbers of the reads that fail
abbrev pub failing_reads_of : MemShelf → List ℕ
failing_reads_of s = s.failing_reads

-- the numbers of the writes that fail
abbrev pub failing_writes_of : MemShelf → List ℕ
failing_writes_of s = s.failing_writes

-- the numbers of the puts that fail
abbrev pub failing_puts_of : MemSink → List ℕ
failing_puts_of s = s.failing

-- the most bytes that one put takes, 0 being 1
abbrev pub most_of : MemSink → ℕ
most_of s = s.most

-- how many calls of a kind were made, as far as they are numbered
abbrev pub reads_of : MemShelf → ℕ
reads_of s = s.reads

abbrev pub writes_of : MemShelf → ℕ
writes_of s = s.writes

abbrev pub puts_of : MemSink → ℕ
puts_of s = s.puts

-- the next call of a kind is listed to fail
abbrev pub IsReadListed : MemShelf → Type 0
IsReadListed s = IsListed s.failing_reads s.reads

abbrev pub IsWriteListed : MemShelf → Type 0
IsWriteListed s = IsListed s.failing_writes s.writes

-- the shelf goes on failing where it was told to
abbrev pub AreKept : MemShelf → MemShelf → Type 0
AreKept old new = (new.failing_reads ≡ old.failing_reads) × (new.failing_writes ≡ old.failing_writes)
