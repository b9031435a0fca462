-- What a cabinet answers to its items: replies to messages, ends of downloads, and the displays of ticks that have a
-- line.
use Rattle.std.specs.Prelude.{ℕ, ◌+◌, List, [], ◌∷◌, ◌++◌, Option, Some, None, Ok, Err}
use Rattle.arrayvec.specs.ArrayVec.{ArrayVec}
use Rattle.sig_types.specs.declared.notes.StageAnswer.{StageAnswer}
use Rattle.sig_types.specs.declared.notes.StageAnswer.TheVariants.{Accepted, Refused}
use Rattle.sig_types.specs.declared.frame.Frame.{Frame}
use Rattle.sig_tables.specs.declared.shown.Shown.{Shown}
use Rattle.sig_tables.specs.Past.{Past}
use Rattle.sig_tables.specs.Seen.{frame_seen, vehicle_seen, pedestrian_seen}
use Rattle.sig_tables.specs.Showing.{command_shown, clock_shown, states_shown}
use Rattle.sig_types.specs.declared.phase_set.PhaseSet.{PhaseSet}
use Rattle.sig_types.specs.Phases.{is_in}
use Rattle.stage_txn.specs.Answers.{answered, stage_state, state_code, last_answer}
use Rattle.snmp_msg.specs.Shortest.{shortest}
use Rattle.agent.specs.declared.ask.Wish.{Wish}
use Rattle.agent.specs.declared.ask.Wish.TheVariants.{Verify, Finish}
use Rattle.agent.specs.declared.ask.Ask.{Ask}
use Rattle.agent.specs.Groups.{bits}
use Rattle.agent.specs.Seen.{Seen}
use Rattle.agent.specs.Replies.{reply}
use Rattle.sig_types.specs.Items.{Item, InputTold, Came, Ticked}
use Rattle.cabinet_history.specs.declared.Load.{Load}
use Rattle.cabinet_history.specs.declared.Reply.{Reply}
use Rattle.cabinet_history.specs.CabinetHistory.{CabinetHistory, with_item}
use Rattle.cabinet_history.specs.Journals.{Act}
use Rattle.cabinet_history.specs.Coming.{Coming, past_of, in_force, coming, history_of, ask_after, outcome}
use Rattle.cabinet_history.specs.Frames.{tick_written}

-- the set of the phases in this list
abbrev pub set_of : List ℕ → PhaseSet
set_of phases = record { 0 = bits (is_in phases) 16 1 }

-- the values that a cabinet can show in a reply, except its tables
abbrev pub shown_at : Past → Shown
shown_at past = record {
  frame = frame_seen past;
  command = command_shown past;
  clock = clock_shown past;
  veh_calls = set_of (vehicle_seen past);
  ped_calls = set_of (pedestrian_seen past);
  requests = states_shown past;
  version = past.version;
}

-- everything that a reply can show: the tables in force, the other values, the state of the download stage and its
-- last answer
abbrev pub seen_in : Coming → Seen
seen_in c = record {
  tables = in_force c;
  shown = shown_at (past_of c);
  state = state_code (stage_state (answered c.calls));
  last = last_answer (answered c.calls);
}

-- the octets of the reply to a request, by the state of the cabinet before it; None if nothing is asked
abbrev pub replied : Coming → Option Ask → Option (List ℕ)
replied c None = None
replied c (Some ask) = Some (shortest (reply (seen_in c) ask.message ask.wish (outcome c ask.wish)))

-- the octets of the reply to a message after a cabinet history
abbrev pub reply_to : CabinetHistory → List ℕ → Option (List ℕ)
reply_to cabinet_history octets = replied (coming cabinet_history) (ask_after cabinet_history octets)

-- a verify ends a download if a rule refuses the staged tables
abbrev pub verify_end : ℕ → Option StageAnswer → Option Load
verify_end id (Some (Refused broken)) = Some (record { id = id; result = Err broken })
verify_end id _ = None

-- a finish ends a download if it is accepted, or if a rule refuses the staged tables. An accepted finish makes the
-- next version
abbrev pub finish_end : ℕ → ℕ → Option StageAnswer → Option Load
finish_end version id (Some Accepted) = Some (record { id = id; result = Ok (version + 1) })
finish_end version id (Some (Refused broken)) = Some (record { id = id; result = Err broken })
finish_end version id _ = None

-- the end of a download that a request brings, by the answer of the stage; None if it brings no end
abbrev pub wish_end : ℕ → Wish → Option StageAnswer → Option Load
wish_end version (Verify id total) answer = verify_end id answer
wish_end version (Finish id) answer = finish_end version id answer
wish_end version _ answer = None

abbrev pub ask_end : Coming → Option Ask → Option Load
ask_end c None = None
ask_end c (Some ask) = wish_end (past_of c).version ask.wish (outcome c ask.wish)

-- the end of a download that a message brings after a cabinet history; None if it brings no end
abbrev pub load_end : CabinetHistory → List ℕ → Option Load
load_end cabinet_history octets = ask_end (coming cabinet_history) (ask_after cabinet_history octets)

-- these octets as a vector, if there are any
abbrev pub in_frame : Option (List ℕ) → Option (ArrayVec ℕ)
in_frame None = None
in_frame (Some octets) = Some (record { items = octets })

-- the replies to an item that a pass brings after a cabinet history. A message has one: the octets of its answer, if
-- it is answered, and the end of a download, if it brings one. An input and a tick have none
abbrev pub item_replies : CabinetHistory → ℕ → Item → List Reply
item_replies cabinet_history pass (InputTold field) = []
item_replies cabinet_history pass (Came octets) = record { pass = pass; text = in_frame (reply_to cabinet_history octets); load = load_end cabinet_history octets } ∷ []
item_replies cabinet_history pass Ticked = []

-- the display of a tick with the tick's number, if it has a line
abbrev pub item_written : CabinetHistory → Item → List (ℕ × Frame)
item_written cabinet_history (InputTold field) = []
item_written cabinet_history (Came octets) = []
item_written cabinet_history Ticked = tick_written (history_of cabinet_history)

-- the replies to these acts, in order
abbrev pub acts_replies : CabinetHistory → List Act → List Reply
acts_replies cabinet_history [] = []
acts_replies cabinet_history (act ∷ acts) = item_replies cabinet_history act.pass act.item ++ acts_replies (with_item cabinet_history act.item) acts

-- the displays of these acts that have a line, in order
abbrev pub acts_written : CabinetHistory → List Act → List (ℕ × Frame)
acts_written cabinet_history [] = []
acts_written cabinet_history (act ∷ acts) = item_written cabinet_history act.item ++ acts_written (with_item cabinet_history act.item) acts
