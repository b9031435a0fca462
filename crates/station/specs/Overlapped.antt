-- What an answer to `overlaps` says about the input and the output.
use Rattle.std.specs.Prelude.{◌≡◌, ◌⊎◌, ℕ, List, Option, IfSome}
use Rattle.io_edge.specs.Edge.{Appends}
use Rattle.trace_writer.specs.Bytes.{AppendsFront}
use Rattle.command_words.specs.declared.command.Overlap.{Overlap}
use Rattle.overlap_run.specs.declared.faults.OverlapFault.{OverlapFault}
use Rattle.overlap_report.specs.Overlaps.{TellsOverlap, BreaksRule}
use Rattle.trace_check.specs.declared.faults.TraceFault.{TraceFault}
use Rattle.trace_laws.specs.Traces.{IsTrace, IsCheckable}
use Rattle.trace_laws.specs.Faults.{FirstFault}
use Rattle.station.specs.declared.status.Status.{Status}
use Rattle.station.specs.declared.status.Status.TheVariants.{Done, NotATrace, Overlap as BrokenOverlap, ReadFault, WriteFault, NoMemory}
use Rattle.station.specs.Bytes.{AreInput, nothing_left}
use Rattle.station.specs.Io.{Io}
use Rattle.station.specs.Checked.{IsNoTrace}

-- the source was read to its end, it had at most 67,108,864 bytes, and `IsSo` holds for these bytes
pub record IsTextRead (IsSo : List ℕ → Type 0) (left ends : Option (List ℕ)) : Type 0 where
  pub bytes : List ℕ
  pub all : AreInput left bytes
  pub short : IsCheckable bytes
  pub so : IsSo bytes
  pub ended : ends ≡ nothing_left left

-- what an answer to `overlaps` says, status by status. Done: the input is a trace, and the whole text of the overlap
-- at its cabinet was written. WriteFault: a write failed, and a proper prefix of this text was written. NotATrace:
-- the input is not a trace. BrokenOverlap: the overlap breaks a rule in this trace. Except with Done and WriteFault
-- nothing was written
abbrev pub Overlapped : Overlap → Status → Io → Type 0
Overlapped asked Done io = (text : List ℕ) × IsTextRead (λ bytes. TellsOverlap bytes asked text) io.left io.ends × Appends io.old io.new text
Overlapped asked (NotATrace fault) io = IsNoTrace fault io.left io.ends × (io.new ≡ io.old)
Overlapped asked (BrokenOverlap fault) io = IsTextRead (λ bytes. BreaksRule bytes asked fault) io.left io.ends × (io.new ≡ io.old)
Overlapped asked ReadFault io = io.unread × (io.new ≡ io.old)
Overlapped asked WriteFault io =
    io.unwritten × ((text : List ℕ) × IsTextRead (λ bytes. TellsOverlap bytes asked text) io.left io.ends × AppendsFront io.old io.new text)
Overlapped asked NoMemory io = io.new ≡ io.old
Overlapped asked _ io = ⊥

-- the answer to `overlaps` that is expected if no read fails. If the input is not a trace, the answer is its first
-- fault. If the overlap breaks a rule in the trace, the answer names this rule; otherwise it is Done if no write
-- fails
pub record IsOverlapDue (asked : Overlap) (status : Status) (input : List ℕ) (unwritten : Type 0) : Type 0 where
  pub fault : (fault : TraceFault) → FirstFault input fault.line fault.rule → status ≡ NotATrace fault
  pub broken : (fault : OverlapFault) → IsCheckable input → BreaksRule input asked fault → status ≡ BrokenOverlap fault
  pub done : IsCheckable input → IsTrace input → ((fault : OverlapFault) → BreaksRule input asked fault → ⊥) → ¬ unwritten → status ≡ Done

-- what an answer to `overlaps` says. If no read fails, the answer is the one expected for the input, or memory ran
-- out
pub record OverlapAnswer (asked : Overlap) (status : Status) (io : Io) : Type 0 where
  pub told : Overlapped asked status io
  pub due : ¬ io.unread → IfSome io.left (λ input. IsOverlapDue asked status input io.unwritten ⊎ (status ≡ NoMemory))
