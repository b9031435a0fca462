-- What an answer says, command by command.
use Rattle.std.specs.Prelude.{◌≡◌, ◌⊎◌, ℕ, List, Option}
use Rattle.io_edge.specs.Edge.{Appends}
use Rattle.trace_writer.specs.Bytes.{AppendsFront}
use Rattle.command_words.specs.declared.command.Command.{Command}
use Rattle.command_words.specs.declared.command.Command.TheVariants.{Run, Check, Generate, Survey, Band, Respond, Overlaps, Live, Judge, Help, Version}
use Rattle.gen_arterial.specs.Written.{generated, generated_text}
use Rattle.whole_run.specs.Counting.{surveyed_text}
use Rattle.station.specs.declared.status.Status.{Status}
use Rattle.scenario_data.specs.declared.refusal.Refusal.{Refusal}
use Rattle.scenario_read.specs.Answers.{IsFirstFault}
use Rattle.band_report.specs.BandAnswer.{AsksOfBands, TellsBands, IsFirstBandFault}
use Rattle.field_file.specs.FieldAnswer.{HasResult, TellsResult, IsFirstResultFault}
use Rattle.command_words.specs.Words.{IsRun, IsCheck, IsGenerate, IsSurvey, IsBand, IsRespond, IsOverlaps, IsLive, IsJudge, IsHelp, IsVersion, AskFor}
use Rattle.judge_laws.specs.declared.Terms.{Terms}
use Rattle.command_words.specs.declared.command.Seeding.{Seeding}
use Rattle.command_words.specs.declared.command.Overlap.{Overlap}
use Rattle.overlap_run.specs.declared.faults.OverlapFault.{OverlapFault}
use Rattle.trace_check.specs.declared.faults.TraceFault.{TraceFault}
use Rattle.station.specs.declared.status.Status.TheVariants.{Done, Scenario, NotATrace, Overlap as BrokenOverlap, Unsafe, NotALog, ReadFault, WriteFault, NoMemory}
use Rattle.station.specs.declared.help.TheConstants.{HELP, VERSION}
use Rattle.station.specs.Io.{Io}
use Rattle.station.specs.Answers.{WritesText, StopsShort, RunAnswer, IsRefused}
use Rattle.station.specs.Replied.{ReplyAnswer}
use Rattle.station.specs.Checked.{CheckAnswer}
use Rattle.station.specs.Overlapped.{OverlapAnswer}
use Rattle.station.specs.Lived.{IsFirstLineFault, IsLineRefused, LivesShort, LiveAnswer}
use Rattle.station.specs.declared.status.LogFault.{LogFault}
use Rattle.station.specs.Judged.{EndsLog, IsHeadFault, JudgeAnswer}

-- a status about a text that the program generates. Done: the whole text was written. WriteFault: a write failed, and
-- a proper prefix of the text was written. NoMemory: memory ran out, and nothing was written
abbrev pub MakesText : Status → List ℕ → Type 0 → Option (List ℕ) → Option (List ℕ) → Type 0
MakesText Done text unwritten old new = Appends old new text
MakesText WriteFault text unwritten old new = unwritten × AppendsFront old new text
MakesText NoMemory text unwritten old new = new ≡ old
MakesText _ text unwritten old new = ⊥

-- what an answer to a command says about the input and the output, command by command
abbrev pub Answered : Command → Status → Io → Type 0
Answered (Run workers) status io = RunAnswer workers status io
Answered Check status io = (io.new ≡ io.old) × CheckAnswer status io
Answered (Generate from) status io = MakesText status (generated_text from.seed from.cabinets from.rounds) io.unwritten io.old io.new
Answered (Survey from) status io = MakesText status (surveyed_text (generated from.seed from.cabinets from.rounds)) io.unwritten io.old io.new
Answered Band status io = ReplyAnswer TellsBands AsksOfBands IsFirstBandFault status io
Answered Respond status io = ReplyAnswer TellsResult HasResult IsFirstResultFault status io
Answered (Overlaps o) status io = OverlapAnswer o status io
Answered Live status io = LiveAnswer status io
Answered (Judge terms) status io = JudgeAnswer terms status io
Answered Help status io = WritesText status HELP.now io.unwritten io.old io.new
Answered Version status io = WritesText status VERSION.now io.unwritten io.old io.new

-- the command reads nothing
abbrev pub ReadsNothing : Command → Type 0
ReadsNothing (Run workers) = ⊥
ReadsNothing Check = ⊥
ReadsNothing Band = ⊥
ReadsNothing Respond = ⊥
ReadsNothing (Overlaps o) = ⊥
ReadsNothing Live = ⊥
ReadsNothing (Judge terms) = ⊥
ReadsNothing _ = Unit {0}

-- the words are a command that reads an input, and the command refuses its input for this reason. `run`, `band` and
-- `respond` refuse the whole input; `live` and `judge` refuse its first line
abbrev pub IsRefusedFor : List (List ℕ) → Refusal → Option (List ℕ) → Option (List ℕ) → Type 0
IsRefusedFor words refusal left ends =
    (((workers : ℕ) × IsRun words workers) × IsRefused IsFirstFault refusal left ends)
    ⊎ ((IsBand words × IsRefused IsFirstBandFault refusal left ends)
    ⊎ ((IsRespond words × IsRefused IsFirstResultFault refusal left ends)
    ⊎ ((IsLive words × IsLineRefused IsFirstLineFault refusal left)
    ⊎ (((terms : Terms) × IsJudge words terms) × IsLineRefused IsHeadFault refusal left))))

-- the words are `live`, and the session stopped before its whole text was written
abbrev pub LeavesSession : List (List ℕ) → Io → Type 0
LeavesSession words io = IsLive words × LivesShort io.left io.old io.new

-- the words are `judge ..`, and the judging of the log ended with this status
abbrev pub LeavesLog : List (List ℕ) → Status → Io → Type 0
LeavesLog words status io = (terms : Terms) × IsJudge words terms × EndsLog terms status io

-- the words are `run ..`, and the run stopped before its whole text was written
abbrev pub LeavesRun : List (List ℕ) → Io → Type 0
LeavesRun words io = (workers : ℕ) × IsRun words workers × StopsShort workers io.left io.ends io.old io.new

-- the words are a command that reads nothing
abbrev pub NeedsNoInput : List (List ℕ) → Type 0
NeedsNoInput words = (command : Command) × AskFor words command × ReadsNothing command

-- the cause of each failure, for any words. If memory ran out, nothing was written, or a run, a session or a judging
-- stopped while it wrote. If a read failed, nothing was written, or a session or a judging stopped. If the input was
-- refused, nothing was written. The refusal names the first fault of the input of `run`, `band` or `respond`, or of
-- the first line of `live` or `judge`. The path `.` with Limit means only that the input or the line is too long. The
-- other four statuses are answers to `check`, `overlaps` or `judge`
pub record Causes (words : List (List ℕ)) (status : Status) (io : Io) : Type 0 where
  pub no_memory : status ≡ NoMemory → (io.new ≡ io.old) ⊎ (LeavesRun words io ⊎ (LeavesSession words io ⊎ LeavesLog words NoMemory io))
  pub read_fault : status ≡ ReadFault → io.unread × ((io.new ≡ io.old) ⊎ (LeavesSession words io ⊎ LeavesLog words ReadFault io))
  pub refused : (refusal : Refusal) → status ≡ Scenario refusal → IsRefusedFor words refusal io.left io.ends × (io.new ≡ io.old)
  pub no_trace : (fault : TraceFault) → status ≡ NotATrace fault → IsCheck words ⊎ ((o : Overlap) × IsOverlaps words o)
  pub broken_overlap : (fault : OverlapFault) → status ≡ BrokenOverlap fault → (o : Overlap) × IsOverlaps words o
  pub unsafe : status ≡ Unsafe → (terms : Terms) × IsJudge words terms
  pub no_log : (fault : LogFault) → status ≡ NotALog fault → (terms : Terms) × IsJudge words terms

-- what an answer says, for any words: one fact for each command. Help and version: the whole text was written, or a
-- write failed and a proper prefix of it was written. Generate: the same holds for the text of the generated
-- scenario; if memory runs out, nothing is written. Survey: the same holds for the totals of a run of the generated
-- scenario. They are counted in the lines of its trace in the serial order.
pub record Answers (words : List (List ℕ)) (status : Status) (io : Io) : Type 0 where
  pub help : IsHelp words → WritesText status HELP.now io.unwritten io.old io.new
  pub version : IsVersion words → WritesText status VERSION.now io.unwritten io.old io.new
  pub generate : (from : Seeding) → IsGenerate words from → MakesText status (generated_text from.seed from.cabinets from.rounds) io.unwritten io.old io.new
  pub survey : (from : Seeding) → IsSurvey words from
      → MakesText status (surveyed_text (generated from.seed from.cabinets from.rounds)) io.unwritten io.old io.new
  pub run : (workers : ℕ) → IsRun words workers → RunAnswer workers status io
  pub check : IsCheck words → CheckAnswer status io
  pub overlaps : (o : Overlap) → IsOverlaps words o → OverlapAnswer o status io
  pub band : IsBand words → ReplyAnswer TellsBands AsksOfBands IsFirstBandFault status io
  pub respond : IsRespond words → ReplyAnswer TellsResult HasResult IsFirstResultFault status io
  pub live : IsLive words → LiveAnswer status io
  pub judge : (terms : Terms) → IsJudge words terms → JudgeAnswer terms status io
  pub causes : Causes words status io
