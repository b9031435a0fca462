-- What contracts see of the adapters over std's readers and writers.
use Rattle.std.specs.Prelude.{ℕ}
use Rattle.io_edge.specs.declared.standard.StdSource.{StdSource}
use Rattle.io_edge.specs.declared.standard.StdSink.{StdSink}

-- the reader of a source
abbrev pub reader_of : {R : Type 0} → StdSource R → R
reader_of s = s.inner

-- the number of reads that failed
abbrev pub reader_faults : {R : Type 0} → StdSource R → ℕ
reader_faults s = s.faults

-- the writer of a sink
abbrev pub writer_of : {W : Type 0} → StdSink W → W
writer_of s = s.inner

-- the number of writes that failed
abbrev pub writer_faults : {W : Type 0} → StdSink W → ℕ
writer_faults s = s.faults
