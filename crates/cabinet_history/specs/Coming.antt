-- The result of a cabinet history: the history of the cabinet's controller, and the calls of its download stage, the
-- newest first. Messages make these calls.
use Rattle.std.specs.Prelude.{ℕ, Bool, List, [], ◌∷◌, map, Option, Some, None}
use Rattle.sig_types.specs.declared.frame.Mode.TheVariants.{Flash}
use Rattle.sig_types.specs.Colour.{same_mode}
use Rattle.sig_types.specs.declared.notes.StageAnswer.{StageAnswer}
use Rattle.sig_types.specs.declared.notes.StageAnswer.TheVariants.{Accepted}
use Rattle.sig_tables.specs.declared.tables.Tables.{Tables}
use Rattle.sig_tables.specs.Past.{Event, Input, Install, SetPattern, SetClock, Ask as GivePriority, Cancel, History, Past}
use Rattle.sig_tables.specs.Looking.{last_frame}
use Rattle.sig_tables.specs.Decide.{past_at, with_one, ticked}
use Rattle.sig_tables.specs.Putting.{put_content}
use Rattle.stage_txn.specs.Calls.{Call, Begin as BeginCall, Part as PartCall, Verify as VerifyCall, Finish as FinishCall}
use Rattle.stage_txn.specs.Answers.{answered, answer_to, staged}
use Rattle.agent.specs.declared.ask.Order.{Order}
use Rattle.agent.specs.declared.ask.Order.TheVariants.{Pattern as PatternOrder, Clock as ClockOrder, Request as RequestOrder, Cancel as CancelOrder}
use Rattle.agent.specs.declared.ask.Wish.{Wish}
use Rattle.agent.specs.declared.ask.Wish.TheVariants.{Direct, Begin, Part, Verify, Finish}
use Rattle.agent.specs.declared.ask.Ask.{Ask}
use Rattle.agent.specs.Asks.{ask_of}
use Rattle.sig_types.specs.Items.{Item, InputTold, Came, Ticked}
use Rattle.cabinet_history.specs.CabinetHistory.{CabinetHistory}

-- the result of a cabinet history: the history of its controller, and the calls of its download stage
pub record Coming : Type 0 where
  pub history : History
  pub calls : List Call

-- the state that the history of the controller has reached
abbrev pub past_of : Coming → Past
past_of c = past_at c.history

-- the tables in force
abbrev pub in_force : Coming → Tables
in_force c = (past_of c).tables

-- the cabinet is in flash: this is the mode of its last display
abbrev pub is_flashing : Past → Bool
is_flashing past = same_mode (last_frame past.moments).mode Flash

-- the call of the download stage that a wish makes, if it makes one. (A wish is what a message asks the cabinet to
-- do.)
abbrev pub call_of : Coming → Wish → Option Call
call_of c (Begin id) = Some (BeginCall id (in_force c))
call_of c (Part id number puts) = Some (PartCall id number (map put_content puts.items))
call_of c (Verify id total) = Some (VerifyCall id total (in_force c) (is_flashing (past_of c)))
call_of c (Finish id) = Some (FinishCall id (in_force c) (is_flashing (past_of c)))
call_of c _ = None

-- the answer of the stage to a call
abbrev pub answer_in : Coming → Call → StageAnswer
answer_in c call = answer_to (answered c.calls) call

-- the answer of the stage, if it is called
abbrev pub outcome_in : Coming → Option Call → Option StageAnswer
outcome_in c None = None
outcome_in c (Some call) = Some (answer_in c call)

abbrev pub outcome : Coming → Wish → Option StageAnswer
outcome c wish = outcome_in c (call_of c wish)

-- the event that an order causes in the controller
abbrev pub order_event : Order → Event
order_event (PatternOrder n) = SetPattern n
order_event (ClockOrder tick) = SetClock tick
order_event (RequestOrder r) = GivePriority r
order_event (CancelOrder number) = Cancel number

-- the event of a finish: if it was accepted, the staged tables are put in force
abbrev pub installs : Tables → StageAnswer → List Event
installs t Accepted = Install t ∷ []
installs t _ = []

-- the events that a wish causes in the controller, in order. Each order causes one event; an accepted finish puts the
-- staged tables in force
abbrev pub events_of : Coming → Wish → List Event
events_of c (Direct orders) = map order_event orders.items
events_of c (Finish id) = installs (staged (answered c.calls)) (answer_in c (FinishCall id (in_force c) (is_flashing (past_of c))))
events_of c _ = []

-- the history after these events, the oldest event first
abbrev pub with_events : History → List Event → History
with_events h [] = h
with_events h (e ∷ events) = with_events (with_one h e) events

-- the calls with one more call, if there is one
abbrev pub with_call : List Call → Option Call → List Call
with_call calls None = calls
with_call calls (Some call) = call ∷ calls

-- the result after a wish is carried out
abbrev pub carried_out : Coming → Wish → Coming
carried_out c wish = record { history = with_events c.history (events_of c wish); calls = with_call c.calls (call_of c wish) }

-- the result after a request is carried out; unchanged if nothing is asked
abbrev pub heeded : Coming → Option Ask → Coming
heeded c None = c
heeded c (Some ask) = carried_out c ask.wish

-- the result after one more item, for a cabinet with this community
abbrev pub with_item : List ℕ → Item → Coming → Coming
with_item community (InputTold field) c = record { history = with_one c.history (Input field); calls = c.calls }
with_item community (Came octets) c = heeded c (ask_of octets community (in_force c))
with_item community Ticked c = record { history = ticked c.history; calls = c.calls }

-- the result of these items, the newest item first
abbrev pub coming_from : List ℕ → History → List Item → Coming
coming_from community opening [] = record { history = opening; calls = [] }
coming_from community opening (item ∷ items) = with_item community item (coming_from community opening items)

-- the result of a cabinet history
abbrev pub coming : CabinetHistory → Coming
coming cabinet_history = coming_from cabinet_history.community cabinet_history.opening cabinet_history.items

-- the history of the controller that results from a cabinet history
abbrev pub history_of : CabinetHistory → History
history_of cabinet_history = (coming cabinet_history).history

-- what a message asks after a cabinet history
abbrev pub ask_after : CabinetHistory → List ℕ → Option Ask
ask_after cabinet_history octets = ask_of octets cabinet_history.community (in_force (coming cabinet_history))
