-- What each answer of the top call says about the words, the input, the output and the faults.
use Rattle.std.specs.Prelude.{◌≡◌, ◌≤◌, ◌<◌, ◌⊎◌, ℕ, List, Option, Some, IfSome, codes, drop, length, string_bytes}
use Rattle.io_edge.specs.Edge.{Appends}
use Rattle.scenario_data.specs.declared.refusal.Refusal.{Refusal}
use Rattle.scenario_data.specs.declared.refusal.Refusal.TheVariants.{Syntax, Field, Limit, Broken}
use Rattle.scenario_data.specs.Content.{ScenarioContent}
use Rattle.scenario_read.specs.Answers.{IsScenario, IsFirstFault}
use Rattle.station.specs.declared.status.Status.{Status}
use Rattle.station.specs.declared.status.Status.TheVariants.{Done, Scenario, ReadFault, WriteFault, NoMemory}
use Rattle.trace_writer.specs.Bytes.{AppendsFront, AppendsUpTo}
use Rattle.station.specs.Bytes.{AreInput, nothing_left}
use Rattle.station.specs.Io.{Io}
use Rattle.run_definition.specs.Lines.{run_text}
use Rattle.trace_laws.specs.Text.{TellsAllKept}
use Rattle.whole_run.specs.Orders.{AreBroughtBy, GoesOnSerially, closed_text}

-- if the status is Done, the whole text was written. If it is WriteFault, a write failed, and a proper prefix of the
-- text was written. No other status is possible
abbrev pub WritesText : Status → List ℕ → Type 0 → Option (List ℕ) → Option (List ℕ) → Type 0
WritesText Done text unwritten old new = Appends old new text
WritesText WriteFault text unwritten old new = unwritten × AppendsFront old new text
WritesText _ text unwritten old new = ⊥

-- the input is within the limit of 16,777,216 bytes
abbrev pub IsShort : List ℕ → Type 0
IsShort input = length input ≤ 16777216

-- the input is within the limit, and it is a scenario with content `s`
abbrev pub IsRead : Option (List ℕ) → ScenarioContent → Type 0
IsRead left s = (bytes : List ℕ) × AreInput left bytes × IsShort bytes × IsScenario bytes s

-- the input is not a scenario
abbrev pub IsNoScenario : List ℕ → Type 0
IsNoScenario input = (s : ScenarioContent) → IsScenario input s → ⊥

-- a run by that many workers is complete. The source was read to its end, and its bytes are a scenario. The whole
-- text of the run was appended to the sink, with some journals that these workers may produce. (Without workers these
-- are the serial journals.) By the lines of this text every street is safe, versions are whole, the tables in force
-- are those of whole accepted downloads, and coordination is met
pub record RunsWhole (workers : ℕ) (left ends old new : Option (List ℕ)) : Type 0 where
  pub scenario : ScenarioContent
  pub journals : List (List (List ℕ))
  pub brought : AreBroughtBy workers scenario journals
  pub input : IsRead left scenario
  pub ended : ends ≡ nothing_left left
  pub written : Appends old new (run_text scenario journals)
  pub kept : TellsAllKept scenario journals (run_text scenario journals)

-- a run stopped while it wrote. The source was read to its end, its bytes are a scenario, and a proper prefix of the
-- text of a run was appended to the sink. The first rounds of this run are closed, with journals that the workers may
-- produce; the other rounds have their serial journals. If there are other rounds, no lines after those of the closed
-- rounds were written
pub record StopsShort (workers : ℕ) (left ends old new : Option (List ℕ)) : Type 0 where
  pub scenario : ScenarioContent
  pub journals : List (List (List ℕ))
  pub brought : AreBroughtBy workers scenario journals
  pub input : IsRead left scenario
  pub ended : ends ≡ nothing_left left
  pub front : AppendsFront old new (run_text scenario journals)
  pub closed : List (List (List ℕ))
  pub goes_on : GoesOnSerially scenario closed journals
  pub within : 0 < goes_on.left → AppendsUpTo old new (closed_text scenario closed)

-- the refusal is that of an input that is too long: its kind is Limit, and its path is `.`
abbrev pub IsLengthLimit : Refusal → Type 0
IsLengthLimit Syntax = ⊥
IsLengthLimit (Field path) = ⊥
IsLengthLimit (Limit path) = string_bytes path ≡ codes "."
IsLengthLimit (Broken cabinet rule row) = ⊥

-- the input has more than 16,777,216 bytes, and the source was read to one byte past this limit
abbrev pub IsTooLong : Option (List ℕ) → Option (List ℕ) → Type 0
IsTooLong left ends = IfSome left (λ input. (16777216 < length input) × (ends ≡ Some (drop 16777217 input)))

-- the input is within the limit and was read to its end, and this refusal names its first fault. `IsFirst` defines
-- the first fault of this kind of input
pub record HasFault (IsFirst : List ℕ → Refusal → Type 0) (refusal : Refusal) (left ends : Option (List ℕ)) : Type 0 where
  pub bytes : List ℕ
  pub all : AreInput left bytes
  pub short : IsShort bytes
  pub first : IsFirst bytes refusal
  pub ended : ends ≡ nothing_left left

-- the input is refused, and `ends` is what is left of it. Either the input is too long and the refusal says so, or
-- the refusal names its first fault
abbrev pub IsRefused : (List ℕ → Refusal → Type 0) → Refusal → Option (List ℕ) → Option (List ℕ) → Type 0
IsRefused IsFirst refusal left ends =
    (IsLengthLimit refusal × IsTooLong left ends) ⊎ ((IsLengthLimit refusal → ⊥) × HasFault IsFirst refusal left ends)

-- what an answer to `run` with that many workers says about the input and the output, status by status
abbrev pub Ran : ℕ → Status → Io → Type 0
Ran workers Done io = RunsWhole workers io.left io.ends io.old io.new
Ran workers (Scenario refusal) io = IsRefused IsFirstFault refusal io.left io.ends × (io.new ≡ io.old)
Ran workers ReadFault io = io.unread × (io.new ≡ io.old)
Ran workers WriteFault io = io.unwritten × StopsShort workers io.left io.ends io.old io.new
Ran workers NoMemory io = (io.new ≡ io.old) ⊎ StopsShort workers io.left io.ends io.old io.new
Ran workers _ io = ⊥

-- the answer is the refusal of an input that is too long
abbrev pub IsLengthRefusal : Status → Type 0
IsLengthRefusal (Scenario refusal) = IsLengthLimit refusal
IsLengthRefusal _ = ⊥

-- the answer is the refusal that names the first fault of the input
abbrev pub NamesFault : (List ℕ → Refusal → Type 0) → Status → List ℕ → Type 0
NamesFault IsFirst status input = (refusal : Refusal) × (status ≡ Scenario refusal) × IsFirst input refusal

-- the answer to `run` that is expected if no read fails. An input that is too long is refused for its length. An
-- input that is not a scenario is refused for its first fault. For a scenario the answer is Done if no write fails
pub record IsDue (status : Status) (input : List ℕ) (unwritten : Type 0) : Type 0 where
  pub too_long : 16777216 < length input → IsLengthRefusal status
  pub fault : IsShort input → IsNoScenario input → NamesFault IsFirstFault status input
  pub done : IsShort input → (s : ScenarioContent) → IsScenario input s → ¬ unwritten → status ≡ Done

-- what an answer to `run` says. If no read fails, the answer is the one expected for the input, or memory ran out
pub record RunAnswer (workers : ℕ) (status : Status) (io : Io) : Type 0 where
  pub told : Ran workers status io
  pub due : ¬ io.unread → IfSome io.left (λ input. IsDue status input io.unwritten ⊎ (status ≡ NoMemory))
