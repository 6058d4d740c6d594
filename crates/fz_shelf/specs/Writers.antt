-- What a sink over a writer writes to.
-- Beside the promise.
use Rattle.fz_shelf.specs.declared.std_sink.StdSink.{StdSink}

abbrev pub writer_of : {W : Type 0} → StdSink W → W
writer_of s = s.writer
