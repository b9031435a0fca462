-- What a pen has taken; a pen is a writer with its sink.
use Rattle.std.specs.Prelude.{◌≡◌, ℕ, Bool, List, Option, Ok, Err}
use Rattle.trace_text.specs.declared.lines.Line.{Line}
use Rattle.trace_writer.specs.declared.writer.Stop.{Stop}
use Rattle.trace_writer.specs.declared.writer.Stop.TheVariants.{NoMemory}
use Rattle.whole_run.specs.declared.pen.Pen.{Pen}
use Rattle.safety_laws.specs.TraceText.{lines_text}
use Rattle.trace_writer.specs.Handing.{HandsOver}

-- a pen with the same writer and the same sink
abbrev pub SamePen : {K : Type 0} → Pen K → Pen K → Type 0
SamePen a b = (b.writer.ghost_name ≡ a.writer.ghost_name) × (b.sink.ghost_name ≡ a.sink.ghost_name)

-- the text of the lines was handed over
abbrev pub pen_told : {K : Type 0} → (K → Option (List ℕ)) → (K → ℕ) → Bool → Pen K → Pen K → List Line → Type 0
pen_told written faults exact a b lines =
    SamePen a b × HandsOver written faults exact (Ok tt) a.writer.now b.writer.now a.sink.now b.sink.now (lines_text lines)

-- the pen stopped while the text of the lines was handed over
abbrev pub pen_stopped : {K : Type 0} → (K → Option (List ℕ)) → (K → ℕ) → Bool → Pen K → Pen K → Stop → List Line → Type 0
pen_stopped written faults exact a b stop lines =
    SamePen a b × HandsOver written faults exact (Err stop) a.writer.now b.writer.now a.sink.now b.sink.now (lines_text lines)

abbrev pub stop_out_of_memory : Stop
stop_out_of_memory = NoMemory
