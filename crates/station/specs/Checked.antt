-- What an answer to `check` says about the input and the faults of reading.
use Rattle.std.specs.Prelude.{◌≡◌, ◌<◌, ◌⊎◌, ℕ, List, Option, Some, IfSome, drop, length}
use Rattle.trace_check.specs.declared.faults.TraceFault.{TraceFault}
use Rattle.trace_laws.specs.Traces.{IsTrace, IsCheckable}
use Rattle.trace_laws.specs.Faults.{FirstFault}
use Rattle.trace_laws.specs.Laws.{TellsOfRun}
use Rattle.trace_laws.specs.BandDriving.{BandIsGreen}
use Rattle.station.specs.declared.status.Status.{Status}
use Rattle.station.specs.declared.status.Status.TheVariants.{Done, NotATrace, ReadFault, NoMemory}
use Rattle.station.specs.Bytes.{AreInput, nothing_left}
use Rattle.station.specs.Io.{Io}

-- the source was read to its end, and its bytes are a trace of at most 67,108,864 bytes. A trace is the text of a run
-- of a scenario with some journals. By its lines every street is safe, versions are whole, and coordination is met. A
-- vehicle inside a progression band meets green at each cabinet that is on offset
pub record IsTraceRead (left ends : Option (List ℕ)) : Type 0 where
  pub bytes : List ℕ
  pub all : AreInput left bytes
  pub short : IsCheckable bytes
  pub tells : TellsOfRun bytes
  pub bands : BandIsGreen bytes tells
  pub ended : ends ≡ nothing_left left

-- the input has more than 67,108,864 bytes, and the source was read to one byte past this limit
abbrev pub IsTooLongText : Option (List ℕ) → Option (List ℕ) → Type 0
IsTooLongText left ends = IfSome left (λ input. (67108864 < length input) × (ends ≡ Some (drop 67108865 input)))

-- the source was read to its end, and `fault` is the first fault of its bytes
pub record HasTraceFault (fault : TraceFault) (left ends : Option (List ℕ)) : Type 0 where
  pub bytes : List ℕ
  pub all : AreInput left bytes
  pub short : IsCheckable bytes
  pub first : FirstFault bytes fault.line fault.rule
  pub ended : ends ≡ nothing_left left

-- the input is not a trace: it is too long (rule 1 at line 0), or `fault` is its first fault
abbrev pub IsNoTrace : TraceFault → Option (List ℕ) → Option (List ℕ) → Type 0
IsNoTrace fault left ends = ((fault ≡ record { line = 0; rule = 1 }) × IsTooLongText left ends) ⊎ HasTraceFault fault left ends

-- what an answer to `check` says about the input, status by status. `unread` means that a read failed
abbrev pub Checked : Status → Option (List ℕ) → Option (List ℕ) → Type 0 → Type 0
Checked Done left ends unread = IsTraceRead left ends
Checked (NotATrace fault) left ends unread = IsNoTrace fault left ends
Checked ReadFault left ends unread = unread
Checked NoMemory left ends unread = Unit {0}
Checked _ left ends unread = ⊥

-- the answer to `check` that is expected for an input. A trace within the limit is answered with Done, and every
-- other text with its first fault
pub record IsCheckDue (status : Status) (input : List ℕ) : Type 0 where
  pub trace : IsCheckable input → IsTrace input → status ≡ Done
  pub fault : (fault : TraceFault) → FirstFault input fault.line fault.rule → status ≡ NotATrace fault

-- what an answer to `check` says. If no read fails, the answer is the one expected for the input, or memory ran out
pub record CheckAnswer (status : Status) (io : Io) : Type 0 where
  pub told : Checked status io.left io.ends io.unread
  pub due : ¬ io.unread → IfSome io.left (λ input. IsCheckDue status input ⊎ (status ≡ NoMemory))
