-- A session as a run: the resulting scenario, the journals, and the lines of the answers in the order of a trace.
use Rattle.std.specs.Prelude.{ℕ, zero, suc, ◌+◌, ◌==◌, nat_le, Bool, true, false, if◌then◌else◌, List, [], ◌∷◌, ◌++◌, length}
use Rattle.std.specs.List.{filter}
use Rattle.sig_types.specs.Items.{InputTold, Came}
use Rattle.sig_types.specs.declared.notes.Way.{Way}
use Rattle.sig_types.specs.declared.notes.Way.TheVariants.{Poll, Load, Prio}
use Rattle.trace_text.specs.declared.lines.Line.{Line}
use Rattle.trace_text.specs.declared.lines.Line.TheVariants.{F, R, M, J, L, A, Z}
use Rattle.scenario_data.specs.declared.scenario.Input.{Input}
use Rattle.scenario_data.specs.Content.{ScenarioContent, FrameContent}
use Rattle.run_definition.specs.CabinetState.{CabinetState}
use Rattle.run_definition.specs.Session.{Step, Brings, states_after}
use Rattle.run_definition.specs.SessionAnswers.{Answer, Lines, NotTaken, journal_by}

-- the input that a step of this round adds to the scenario, if it brings one
abbrev pub input_of : ℕ → Step → List Input
input_of round (Brings cab pass (InputTold field)) = record { round = round; cabinet = cab; field = field } ∷ []
input_of round step = []

-- the stream of a pass that brings messages
abbrev pub way_of : ℕ → Way
way_of pass = if pass == 1 then Poll else if pass == 2 then Load else Prio

-- the message that a step of this round adds to the scenario, if it brings one
abbrev pub frame_of : ℕ → Step → List FrameContent
frame_of round (Brings cab pass (Came octets)) = record { round = round; cabinet = cab; stream = way_of pass; hex = octets } ∷ []
frame_of round step = []

-- the inputs that these steps of a round add, in order
abbrev pub inputs_by : ℕ → List Step → List Input
inputs_by round [] = []
inputs_by round (step ∷ steps) = input_of round step ++ inputs_by round steps

-- the messages that these steps of a round add, in order
abbrev pub frames_by : ℕ → List Step → List FrameContent
frames_by round [] = []
frames_by round (step ∷ steps) = frame_of round step ++ frames_by round steps

-- the inputs that rounds with these steps add, in order; the newest round is the first in the list
abbrev pub inputs_brought : List (List Step) → List Input
inputs_brought [] = []
inputs_brought (steps ∷ before) = inputs_brought before ++ inputs_by (length before + 1) steps

-- the messages that rounds with these steps add, in order; the newest round is the first in the list
abbrev pub frames_brought : List (List Step) → List FrameContent
frames_brought [] = []
frames_brought (steps ∷ before) = frames_brought before ++ frames_by (length before + 1) steps

-- the items of a list that belong to the first `rounds` rounds
abbrev pub of_rounds : {A : Type 0} → (A → ℕ) → ℕ → List A → List A
of_rounds round_of rounds xs = filter (λ x. nat_le (round_of x) rounds) xs

-- the scenario that results from a session with these rounds. It has the items of the base scenario for these rounds
-- only. The inputs and messages of the session come after those of the base scenario
abbrev pub resulting : ScenarioContent → List (List Step) → List ℕ → ScenarioContent
resulting s rounds compact = record {
  version = s.version;
  rounds = length rounds;
  ticks = s.ticks;
  community = s.community;
  cabinets = s.cabinets;
  master = s.master;
  inputs = of_rounds (λ i. i.round) (length rounds) s.inputs ++ inputs_brought rounds;
  loads = of_rounds (λ l. l.round) (length rounds) s.loads;
  priority = of_rounds (λ p. p.round) (length rounds) s.priority;
  frames = of_rounds (λ f. f.round) (length rounds) s.frames ++ frames_brought rounds;
  faults = of_rounds (λ f. f.round) (length rounds) s.faults;
  compact = compact;
}

-- the journals of the cabinets in a round with these steps; cabinets are numbered from `first`
abbrev pub round_journals : ScenarioContent → ℕ → List CabinetState → List Step → List (List ℕ)
round_journals s first [] steps = []
round_journals s first (t ∷ ts) steps = journal_by s first t steps ∷ round_journals s (first + 1) ts steps

-- the journals of a session with these rounds. Like those of a run they have the oldest round first
abbrev pub session_journals : ScenarioContent → List (List Step) → List (List (List ℕ))
session_journals s [] = []
session_journals s (steps ∷ before) = session_journals s before ++ round_journals s 1 (states_after s before) steps ∷ []

-- the lines in these answers; a request that isn't accepted has none
abbrev pub lines_in : List Answer → List Line
lines_in [] = []
lines_in (Lines lines ∷ answers) = lines ++ lines_in answers
lines_in (NotTaken untaken ∷ answers) = lines_in answers

-- the line begins a part of a trace: it is an R line or a Z line
abbrev pub begins_part : Line → Bool
begins_part (R round) = true
begins_part (Z rounds) = true
begins_part _ = false

-- the parts, with this line at the beginning of the first part
abbrev pub before_parts : Line → List (List Line) → List (List Line)
before_parts line [] = (line ∷ []) ∷ []
before_parts line (part ∷ parts) = (line ∷ part) ∷ parts

-- the parts of these lines: the lines before the first round, the lines of each round, and the Z line
abbrev pub parts_of : List Line → List (List Line)
parts_of [] = [] ∷ []
parts_of (line ∷ lines) = if begins_part line then [] ∷ before_parts line (parts_of lines) else before_parts line (parts_of lines)

-- the line isn't of one cabinet: it is an R line, an M line or a Z line
abbrev pub is_of_street : Line → Bool
is_of_street (R round) = true
is_of_street (M note) = true
is_of_street (Z rounds) = true
is_of_street _ = false

-- the line is the journal of this cabinet
abbrev pub is_journal_of : ℕ → Line → Bool
is_journal_of cab (J of runs) = of == cab
is_journal_of cab _ = false

-- the line is of this cabinet, but not its journal
abbrev pub is_told_of : ℕ → Line → Bool
is_told_of cab (F of tick veh ped mode counter target version) = of == cab
is_told_of cab (L of id result) = of == cab
is_told_of cab (A of pass hex) = of == cab
is_told_of cab _ = false

-- the lines of this many cabinets in a part of a trace, cabinet by cabinet: first the journal, then the other lines.
-- Cabinets are numbered from `first`
abbrev pub cabinets_in_order : ℕ → ℕ → List Line → List Line
cabinets_in_order first zero part = []
cabinets_in_order first (suc many) part =
    filter (is_journal_of first) part ++ (filter (is_told_of first) part ++ cabinets_in_order (first + 1) many part)

-- a part in the order of a trace: first the lines that aren't of one cabinet, then the lines of each cabinet
abbrev pub part_in_order : ℕ → List Line → List Line
part_in_order cabinets part = filter is_of_street part ++ cabinets_in_order 1 cabinets part

abbrev pub parts_in_order : ℕ → List (List Line) → List Line
parts_in_order cabinets [] = []
parts_in_order cabinets (part ∷ parts) = part_in_order cabinets part ++ parts_in_order cabinets parts

-- these lines in the order of a trace
abbrev pub in_trace_order : ℕ → List Line → List Line
in_trace_order cabinets lines = parts_in_order cabinets (parts_of lines)
