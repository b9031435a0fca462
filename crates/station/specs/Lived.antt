-- What an answer to `live` says about the input and the output.
use Rattle.std.specs.Prelude.{◌≡◌, ◌<◌, ◌⊎◌, ℕ, List, Option, IfSome, length}
use Rattle.io_edge.specs.Edge.{Appends}
use Rattle.trace_writer.specs.Bytes.{AppendsFront}
use Rattle.scenario_data.specs.declared.refusal.Refusal.{Refusal}
use Rattle.scenario_data.specs.Content.{ScenarioContent}
use Rattle.scenario_read.specs.Answers.{IsScenario, IsFirstFault}
use Rattle.run_definition.specs.SessionDialogue.{first_line, requests_in, session_text, IsByRounds, IsOrderFault}
use Rattle.run_definition.specs.SessionLaws.{SessionIsRun}
use Rattle.station.specs.declared.status.Status.{Status}
use Rattle.station.specs.declared.status.Status.TheVariants.{Done, Scenario, ReadFault, WriteFault, NoMemory}
use Rattle.station.specs.Io.{Io}
use Rattle.station.specs.Answers.{IsShort, IsLengthLimit, IsLengthRefusal, NamesFault}

-- the line is a scenario with content `s` for a session: it has at most 16,777,216 bytes, and its items are ordered
-- by rounds
pub record IsBase (line : List ℕ) (s : ScenarioContent) : Type 0 where
  pub short : IsShort line
  pub scenario : IsScenario line s
  pub by_rounds : IsByRounds s

-- if the source reports its bytes, the input is a session: its first line is a scenario with content `s`, and its
-- other lines are these requests
pub record IsSession (left : Option (List ℕ)) (s : ScenarioContent) (requests : List (List ℕ)) : Type 0 where
  pub line : List ℕ
  pub first : IfSome left (λ input. line ≡ first_line input)
  pub base : IsBase line s
  pub asked : IfSome left (λ input. requests ≡ requests_in input)

-- a session is complete: each request and the end of the input were answered, and the whole text of the answers was
-- appended. For any compact text of the resulting scenario, the session is a run of this scenario with the session's
-- own journals. By its lines every street is safe, versions are whole, the tables in force are those of whole
-- accepted downloads, and coordination is met
pub record LivesWhole (left old new : Option (List ℕ)) : Type 0 where
  pub scenario : ScenarioContent
  pub requests : List (List ℕ)
  pub input : IsSession left scenario requests
  pub written : Appends old new (session_text scenario requests)
  pub run : (compact : List ℕ) → SessionIsRun scenario requests compact

-- a session stopped: a proper prefix of the text of its answers was appended
pub record LivesShort (left old new : Option (List ℕ)) : Type 0 where
  pub scenario : ScenarioContent
  pub requests : List (List ℕ)
  pub input : IsSession left scenario requests
  pub front : AppendsFront old new (session_text scenario requests)

-- the first line has more than 16,777,216 bytes
abbrev pub IsTooLongLine : Option (List ℕ) → Type 0
IsTooLongLine left = IfSome left (λ input. 16777216 < length (first_line input))

-- the first fault of a first line: the first fault of its scenario, or the first item of a scenario that isn't
-- ordered by rounds
abbrev pub IsFirstLineFault : List ℕ → Refusal → Type 0
IsFirstLineFault line refusal = IsFirstFault line refusal ⊎ ((s : ScenarioContent) × IsScenario line s × IsOrderFault s refusal)

-- the first line is within the limit, and this refusal names its first fault. `IsFirst` defines the first fault of
-- this kind of line
pub record HasLineFault (IsFirst : List ℕ → Refusal → Type 0) (refusal : Refusal) (left : Option (List ℕ)) : Type 0 where
  pub line : List ℕ
  pub first : IfSome left (λ input. line ≡ first_line input)
  pub short : IsShort line
  pub fault : IsFirst line refusal

-- the first line is refused. Either the line is too long and the refusal says so, or the refusal names its first
-- fault
abbrev pub IsLineRefused : (List ℕ → Refusal → Type 0) → Refusal → Option (List ℕ) → Type 0
IsLineRefused IsFirst refusal left =
    (IsLengthLimit refusal × IsTooLongLine left) ⊎ ((IsLengthLimit refusal → ⊥) × HasLineFault IsFirst refusal left)

-- what an answer to `live` says about the input and the output
abbrev pub Lived : Status → Io → Type 0
Lived Done io = LivesWhole io.left io.old io.new
Lived (Scenario refusal) io = IsLineRefused IsFirstLineFault refusal io.left × (io.new ≡ io.old)
Lived ReadFault io = io.unread × ((io.new ≡ io.old) ⊎ LivesShort io.left io.old io.new)
Lived WriteFault io = io.unwritten × LivesShort io.left io.old io.new
Lived NoMemory io = (io.new ≡ io.old) ⊎ LivesShort io.left io.old io.new
Lived _ io = ⊥

-- the line is not a scenario for a session
abbrev pub IsNoBase : List ℕ → Type 0
IsNoBase line = (s : ScenarioContent) → IsBase line s → ⊥

-- the answer to `live` that is expected if no read fails. A first line that is too long is refused for its length. A
-- first line that is not a scenario ordered by rounds is refused for its first fault. If the first line is valid, the
-- answer is Done if no write fails
pub record IsLiveDue (status : Status) (line : List ℕ) (unwritten : Type 0) : Type 0 where
  pub too_long : 16777216 < length line → IsLengthRefusal status
  pub fault : IsShort line → IsNoBase line → NamesFault IsFirstLineFault status line
  pub done : IsShort line → (s : ScenarioContent) → IsBase line s → ¬ unwritten → status ≡ Done

-- what an answer to `live` says. If no read fails, the answer is the one expected for the first line, or memory ran
-- out
pub record LiveAnswer (status : Status) (io : Io) : Type 0 where
  pub told : Lived status io
  pub due : ¬ io.unread → IfSome io.left (λ input. IsLiveDue status (first_line input) io.unwritten ⊎ (status ≡ NoMemory))
