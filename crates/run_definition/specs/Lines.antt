-- The lines of a run by its journals, and its text. Journals are in the order of the text: the oldest round first,
-- and within a round cabinet by cabinet.
use Rattle.std.specs.Prelude.{ℕ, ◌+◌, List, [], ◌∷◌, ◌++◌, map, Option, Some, None}
use Rattle.sig_types.specs.declared.frame.Frame.{Frame}
use Rattle.sig_tables.specs.Decide.{last_frame_of}
use Rattle.trace_text.specs.declared.lines.Line.{Line}
use Rattle.trace_text.specs.declared.lines.Line.TheVariants.{S, F, R, M, J, L, A, Z}
use Rattle.safety_laws.specs.TraceText.{lines_text}
use Rattle.scenario_data.specs.Content.{ScenarioContent}
use Rattle.sig_types.specs.Items.{Item}
use Rattle.cabinet_history.specs.declared.Load.{Load}
use Rattle.cabinet_history.specs.declared.Reply.{Reply}
use Rattle.cabinet_history.specs.CabinetHistory.{CabinetHistory, with_item}
use Rattle.cabinet_history.specs.Journals.{Act, runs_of}
use Rattle.cabinet_history.specs.Coming.{history_of}
use Rattle.cabinet_history.specs.CabinetAnswers.{item_replies, item_written}
use Rattle.master_rounds.specs.Rounds.{noted}
use Rattle.run_definition.specs.CabinetState.{CabinetState, opened_cabinet_states, round_acts, each_cabinet_state}

-- the F line of a cabinet after `tick` ticks
abbrev pub shown_line : ℕ → ℕ → Frame → Line
shown_line cab tick f = F cab tick f.veh f.ped f.mode f.counter f.target f.version

-- the F lines of these displays; each display has the number of its tick
abbrev pub frame_lines : ℕ → List (ℕ × Frame) → List Line
frame_lines cab [] = []
frame_lines cab (f ∷ frames) = shown_line cab f.0 f.1 ∷ frame_lines cab frames

-- the L line of the end of a download, if one ended
abbrev pub load_lines : ℕ → Option Load → List Line
load_lines cab None = []
load_lines cab (Some load) = L cab load.id load.result ∷ []

-- the lines of replies. For each reply there is an L line if a download ended, and then an A line; the A line has a
-- dash if the cabinet didn't reply
abbrev pub reply_lines : ℕ → List Reply → List Line
reply_lines cab [] = []
reply_lines cab (r ∷ replies) = load_lines cab r.load ++ A cab r.pass r.text ∷ reply_lines cab replies

-- the lines of an item that a pass brings after a cabinet history. A tick has an F line if its display is to be
-- written; a message has the lines of its reply
abbrev pub item_lines : ℕ → CabinetHistory → ℕ → Item → List Line
item_lines cab cabinet_history pass item = frame_lines cab (item_written cabinet_history item) ++ reply_lines cab (item_replies cabinet_history pass item)

-- the lines of these acts, in order
abbrev pub acts_lines : ℕ → CabinetHistory → List Act → List Line
acts_lines cab cabinet_history [] = []
acts_lines cab cabinet_history (act ∷ acts) = item_lines cab cabinet_history act.pass act.item ++ acts_lines cab (with_item cabinet_history act.item) acts

-- the lines of a cabinet in a round: the J line with its journal as longest runs, then the lines of its acts
abbrev pub cabinet_lines : ScenarioContent → ℕ → CabinetState → List ℕ → List Line
cabinet_lines s cab t journal = J cab (runs_of journal) ∷ acts_lines cab t.cabinet_history (round_acts s cab t journal)

-- the lines of the cabinets in turn, by the journals of the round; cabinets are numbered from `first`
abbrev pub each_lines : ScenarioContent → ℕ → List CabinetState → List (List ℕ) → List Line
each_lines s first (t ∷ ts) (journal ∷ journals) = cabinet_lines s first t journal ++ each_lines s (first + 1) ts journals
each_lines s first _ _ = []

-- the M lines of what the master notes of each cabinet at the start of the next round
abbrev pub notes_lines : ScenarioContent → ℕ → List CabinetState → List Line
notes_lines s first [] = []
notes_lines s first (t ∷ ts) = map M (noted s first t.cabinet t.answered) ++ notes_lines s (first + 1) ts

-- the head of a round: its R line and the M lines
abbrev pub head_lines : ScenarioContent → ℕ → List CabinetState → List Line
head_lines s round ts = R round ∷ notes_lines s 1 ts

-- the lines of a round: its head, then the lines of each cabinet
abbrev pub round_lines : ScenarioContent → ℕ → List CabinetState → List (List ℕ) → List Line
round_lines s round ts journals = head_lines s round ts ++ each_lines s 1 ts journals

-- the lines of the rounds from this number on; each round has one list of journals
abbrev pub rounds_lines : ScenarioContent → ℕ → List CabinetState → List (List (List ℕ)) → List Line
rounds_lines s round ts [] = []
rounds_lines s round ts (journals ∷ later) =
    round_lines s round ts journals ++ rounds_lines s (round + 1) (each_cabinet_state s 1 ts journals) later

-- the F lines of the cabinets before any tick
abbrev pub opening_lines : ℕ → List CabinetState → List Line
opening_lines first [] = []
opening_lines first (t ∷ ts) = shown_line first 0 (last_frame_of (history_of t.cabinet_history)) ∷ opening_lines (first + 1) ts

-- the lines of the first rounds of a run, after the S line: the F lines before any tick, then the lines of these
-- rounds
abbrev pub front_lines : ScenarioContent → List (List (List ℕ)) → List Line
front_lines s journals =
    opening_lines 1 (opened_cabinet_states s s.cabinets) ++ rounds_lines s 1 (opened_cabinet_states s s.cabinets) journals

-- the lines of a run after the S line
abbrev pub rest_lines : ScenarioContent → List (List (List ℕ)) → List Line
rest_lines s journals = front_lines s journals ++ Z s.rounds ∷ []

-- the lines of a run: the S line with its scenario, the F lines before any tick, its rounds, and the Z line
abbrev pub run_lines : ScenarioContent → List (List (List ℕ)) → List Line
run_lines s journals = S s.compact ∷ rest_lines s journals

-- the text of a run
abbrev pub run_text : ScenarioContent → List (List (List ℕ)) → List ℕ
run_text s journals = lines_text (run_lines s journals)
