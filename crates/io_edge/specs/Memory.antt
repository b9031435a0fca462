-- What contracts see of the sources and sinks in memory.
use Rattle.std.specs.Prelude.{ℕ, List, ◌-◌, drop, length}
use Rattle.io_edge.specs.declared.memory.MemSource.{MemSource}
use Rattle.io_edge.specs.declared.memory.MemSink.{MemSink}

-- the bytes that a source has left
abbrev pub left_of : MemSource → List ℕ
left_of s = drop s.at s.bytes.items

-- the numbers of the reads that fail
abbrev pub failing_reads : MemSource → List ℕ
failing_reads s = s.fails.items

-- the number of reads so far
abbrev pub reads_so_far : MemSource → ℕ
reads_so_far s = s.calls

-- the number of reads that failed
abbrev pub source_faults : MemSource → ℕ
source_faults s = s.faults

-- the maximum number of bytes that a read gives
abbrev pub most_read : MemSource → ℕ
most_read s = s.most

-- the bytes that were written to a sink
abbrev pub written_of : MemSink → List ℕ
written_of s = s.bytes.items

-- the numbers of the writes that fail
abbrev pub failing_writes : MemSink → List ℕ
failing_writes s = s.fails.items

-- the number of writes so far
abbrev pub writes_so_far : MemSink → ℕ
writes_so_far s = s.calls

-- the number of writes that failed
abbrev pub sink_faults : MemSink → ℕ
sink_faults s = s.faults

-- the number of bytes for which there is still room
abbrev pub room_left : MemSink → ℕ
room_left s = s.room - length s.bytes.items

-- the maximum number of bytes that a write accepts
abbrev pub most_written : MemSink → ℕ
most_written s = s.most
