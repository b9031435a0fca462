-- What the master sends to a cabinet in a round, and what it notes about it. Both depend only on the scenario and on
-- what has arrived from the cabinet so far. Lists of rounds have the newest first.
use Rattle.std.specs.Prelude.{ℕ, ℤ, ◌+◌, List, [], ◌∷◌, map, length, Option, None}
use Rattle.std.specs.Option.{option_map}
use Rattle.sig_types.specs.declared.notes.MasterNote.{MasterNote}
use Rattle.oid_map.specs.declared.names.Name.{Name}
use Rattle.oid_map.specs.declared.names.Name.TheVariants.{Group, PatternStatus, PatternControl, Txn, Clock as ClockName, Counter, Target, ModeCode}
use Rattle.scenario_data.specs.Content.{ScenarioContent, CabinetContent}
use Rattle.requests.specs.Requests.{set_text, get_text, number_at, asked_for, messages}
use Rattle.master_plan.specs.Schedule.{master_clock, scheduled}
use Rattle.master_load.specs.Downloads.{frame_text}
use Rattle.master_poll.specs.declared.command.Task.{Task}
use Rattle.master_poll.specs.declared.command.Task.TheVariants.{Pattern, Clock, Poll}
use Rattle.master_poll.specs.declared.command.Command.{Command}
use Rattle.master_poll.specs.Commands.{Turn}
use Rattle.master_poll.specs.Turns.{Plan, next_turn}
use Rattle.master_poll.specs.Notes.{turn_notes}

-- what has arrived from a cabinet at the master's turn: the octets of the replies on the poll stream and on the load
-- stream
pub record Arrived : Type 0 where
  pub polls : List (List ℕ)
  pub loads : List (List ℕ)

-- what the master sends to a cabinet in a round: the octets of at most one message on each of the two streams
pub record Frames : Type 0 where
  pub poll : Option (List ℕ)
  pub load : Option (List ℕ)

-- the objects that a poll asks for: pattern status, counter, target, mode, version of the tables, green phases, and
-- the commanded pattern
abbrev pub polled : List Name
polled =
    PatternStatus ∷ Counter ∷ Target ∷ ModeCode ∷ Txn 10 ∷ Group 4 1 ∷ Group 4 2 ∷ PatternControl ∷ []

-- the octets of a command of this kind, with this id
abbrev pub task_text : List ℕ → ℤ → Task → List ℕ
task_text community id (Pattern n) = set_text community id (number_at PatternControl n ∷ [])
task_text community id (Clock time) = set_text community id (number_at ClockName time ∷ [])
task_text community id Poll = get_text community id (map asked_for polled)

-- the octets of a command
abbrev pub command_text : List ℕ → Command → List ℕ
command_text community c = task_text community c.id c.task

-- what the master knows in a round about the cabinet with this number
abbrev pub plan_of : ScenarioContent → ℕ → CabinetContent → ℕ → Plan
plan_of s cab c round = record {
  setup = s.master;
  cab = cab;
  now = record {
    round = round;
    clock = master_clock s round;
    pattern = scheduled s.master.schedule c.section (master_clock s round);
  };
  loads = s.loads;
}

-- the turn after these turns, if this has arrived
abbrev pub turn_after : ScenarioContent → ℕ → CabinetContent → Arrived → List Turn → Turn
turn_after s cab c arrived past =
    next_turn (plan_of s cab c (length past + 1)) past (messages arrived.polls) (messages arrived.loads)

-- the turns with the next turn, if this has arrived
abbrev pub with_turn : ScenarioContent → ℕ → CabinetContent → Arrived → List Turn → List Turn
with_turn s cab c arrived past = turn_after s cab c arrived past ∷ past

-- the turns at a cabinet, by what has arrived at each turn
abbrev pub turns : ScenarioContent → ℕ → CabinetContent → List Arrived → List Turn
turns s cab c [] = []
turns s cab c (arrived ∷ before) = with_turn s cab c arrived (turns s cab c before)

-- what the master sent at the last turn
abbrev pub last_sending : ScenarioContent → List Turn → Frames
last_sending s [] = record { poll = None; load = None }
last_sending s (t ∷ past) = record {
  poll = option_map (command_text s.community) t.command;
  load = option_map (frame_text s.community s.loads) t.frame;
}

-- what the master noted at the last turn
abbrev pub last_notes : ScenarioContent → ℕ → CabinetContent → List Turn → List MasterNote
last_notes s cab c [] = []
last_notes s cab c (t ∷ past) = turn_notes (plan_of s cab c (length past + 1)) past t.polls t.loads

-- what the master sends to the cabinet with this number in the newest round, by what has arrived at each turn
abbrev pub sending_of : ScenarioContent → ℕ → CabinetContent → List Arrived → Frames
sending_of s cab c arrived = last_sending s (turns s cab c arrived)

-- what the master notes about the cabinet in the newest round
abbrev pub notes_of : ScenarioContent → ℕ → CabinetContent → List Arrived → List MasterNote
notes_of s cab c arrived = last_notes s cab c (turns s cab c arrived)
