-- Which values are lines of a trace.
use Rattle.std.specs.Prelude.{ℕ, ◌+◌, ◌^◌, ◌<◌, ◌≤◌, ◌≡◌, ◌≢◌, List, length, get_or, Option, Some, None, Result, Ok, Err}
use Rattle.std.specs.Int.{w32}
use Rattle.std.specs.Int.RustNames.{FitsSigned}
use Rattle.hex.specs.Hex.{IsBytes}
use Rattle.arrayvec.specs.ArrayVec.{ArrayVec, array_vec_len}
use Rattle.sig_types.specs.declared.frame.Mode.{Mode}
use Rattle.sig_types.specs.declared.frame.Mode.TheVariants as mode
use Rattle.sig_types.specs.declared.notes.Broken.{Broken}
use Rattle.sig_types.specs.declared.notes.MasterNote.{MasterNote}
use Rattle.sig_types.specs.declared.notes.MasterNote.TheVariants as note
use Rattle.trace_text.specs.Words.{Lacks}
use Rattle.trace_text.specs.declared.lines.Line.{Line}
use Rattle.trace_text.specs.declared.lines.Line.TheVariants.{S, F, R, M, J, L, A, Z}

-- the runs are as long as possible: there is at least one, each has at least one item, and no two neighbours have the
-- same pass
pub record AreLongest (runs : List (ℕ × ℕ)) : Type 0 where
  pub some : 0 < length runs
  pub full : (k : ℕ) → k < length runs → 0 < (get_or runs k (0, 0)).1
  pub apart : (k : ℕ) → k + 1 < length runs → (get_or runs k (0, 0)).0 ≢ (get_or runs (k + 1) (0, 0)).0

-- if there is a reply, it has 1 to 1,472 octets
abbrev pub IsReply : Option (ArrayVec ℕ) → Type 0
IsReply None = Unit {0}
IsReply (Some octets) = (0 < array_vec_len octets) × (array_vec_len octets ≤ 1472)

-- the form of the line is valid: the text of a scenario has no newline, a journal is in longest runs, and a reply has
-- 1 to 1,472 octets
abbrev pub IsProper : Line → Type 0
IsProper (S json) = Lacks 10 json
IsProper (J cab runs) = AreLongest runs
IsProper (A cab pass reply) = IsReply reply
IsProper _ = Unit {0}

-- the number of a pattern or a preempt has at most 8 bits
abbrev pub FitsMode : Mode → Type 0
FitsMode (mode.Seek n) = n < 2 ^ 8
FitsMode (mode.Coord n) = n < 2 ^ 8
FitsMode (mode.Entry n) = n < 2 ^ 8
FitsMode (mode.Track n) = n < 2 ^ 8
FitsMode (mode.Dwell n) = n < 2 ^ 8
FitsMode (mode.Exit n) = n < 2 ^ 8
FitsMode _ = Unit {0}

-- the numbers of a note have at most 32 bits, and the number of a pattern at most 8. The status and the index of a
-- refusal may be below 0
abbrev pub FitsNote : MasterNote → Type 0
FitsNote (note.Fail cab) = cab < 2 ^ 32
FitsNote (note.Good cab) = cab < 2 ^ 32
FitsNote (note.Pattern cab pattern) = (cab < 2 ^ 32) × (pattern < 2 ^ 8)
FitsNote (note.LoadDone cab load) = (cab < 2 ^ 32) × (load < 2 ^ 32)
FitsNote (note.LoadRefused cab load status index) =
    (cab < 2 ^ 32) × (load < 2 ^ 32) × FitsSigned w32 status × FitsSigned w32 index

-- a version has at most 32 bits, a rule at most 8, and a row at most 16
abbrev pub FitsLoad : Result ℕ Broken → Type 0
FitsLoad (Ok version) = version < 2 ^ 32
FitsLoad (Err broken) = (broken.rule < 2 ^ 8) × (broken.row < 2 ^ 16)

-- each octet of the reply is below 256
abbrev pub FitsReply : Option (ArrayVec ℕ) → Type 0
FitsReply None = Unit {0}
FitsReply (Some octets) = IsBytes octets.items

-- these are the octets of a reply: 1 to 1,472 octets, each below 256
abbrev pub IsOctets : ArrayVec ℕ → Type 0
IsOctets octets = IsReply (Some octets) × FitsReply (Some octets)

-- the pass and the count of a run have at most 32 bits
abbrev pub FitsRun : ℕ × ℕ → Type 0
FitsRun run = (run.0 < 2 ^ 32) × (run.1 < 2 ^ 32)

-- all passes and counts of a journal have at most 32 bits
abbrev pub FitsRuns : List (ℕ × ℕ) → Type 0
FitsRuns runs = (k : ℕ) → k < length runs → FitsRun (get_or runs k (0, 0))

-- the numbers of a line are within their types, and an F line has 16 phases
abbrev pub Fits : Line → Type 0
Fits (S json) = Unit {0}
Fits (F cab tick veh ped mode counter target version) =
    (cab < 2 ^ 32) × (tick < 2 ^ 32) × (length veh ≡ 16) × (length ped ≡ 16) × FitsMode mode
    × (counter < 2 ^ 32) × (target < 2 ^ 32) × (version < 2 ^ 32)
Fits (R round) = round < 2 ^ 32
Fits (M note) = FitsNote note
Fits (J cab runs) = (cab < 2 ^ 32) × FitsRuns runs
Fits (L cab id outcome) = (cab < 2 ^ 32) × (id < 2 ^ 32) × FitsLoad outcome
Fits (A cab pass reply) = (cab < 2 ^ 32) × (pass < 2 ^ 32) × FitsReply reply
Fits (Z rounds) = rounds < 2 ^ 32

-- the value is a line of a trace: its form is valid, and its numbers are within their types
abbrev pub IsLine : Line → Type 0
IsLine line = IsProper line × Fits line

-- the value is a line of a trace, and its spaces separate its words: any line except an S line
abbrev pub IsWorded : Line → Type 0
IsWorded (S json) = ⊥
IsWorded line = IsLine line
