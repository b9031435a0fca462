-- The moments of a history, and its frames: what a controller does after everything that has happened to it.
use Rattle.std.specs.Prelude.{ℕ, ◌+◌, List, [], ◌∷◌, ◌++◌, Some, None}
use Rattle.sig_types.specs.declared.frame.Frame.{Frame}
use Rattle.sig_tables.specs.declared.tables.Tables.{Tables}
use Rattle.sig_tables.specs.Past.{Event, Tick, Input, Install, SetPattern, SetClock, Ask, Cancel, SetDrift, History, Given, Cancelled, Moment, Past, first_moment}
use Rattle.sig_tables.specs.Looking.{last_frame}
pub use Rattle.sig_tables.specs.Looking.{last_moment}
pub use Rattle.sig_tables.specs.Choosing.{leaves_start}
pub use Rattle.sig_tables.specs.TickState.{RingTurn, Rest, StartUp, Rings, Goal, startup_phases, first_ring_turn, ring_turn_of}
pub use Rattle.sig_tables.specs.Walking.{walks_at_green, walk_begins}
pub use Rattle.sig_tables.specs.Ticking.{moves_of, colour_after, signal_after, on_of, frame_of, colours_of, view_of, moment_with, moment_seeing, next_moment}

-- the past before any event: only the first moment, under the opening tables
abbrev pub opened : Tables → Past
opened t = record {
  tables = t;
  version = 0;
  commanded = None;
  clock_set = None;
  heard = [];
  asked = [];
  moments = first_moment t ∷ [];
  gain = 0;
  lose = 0;
}

-- the number of ticks so far
abbrev pub ticks_in : Past → ℕ
ticks_in past = (last_moment past.tables past.moments).number

-- the past with one more moment, after which nothing has arrived
abbrev pub with_moment : Past → Moment → Past
with_moment past m = record past { commanded = None; clock_set = None; heard = []; moments = m ∷ past.moments }

-- the past with one more event. A tick adds a moment, an input is stored, and a download puts its tables in force. A
-- command, a set clock and a drift take effect from the next tick on. A priority request and a cancellation take effect
-- at once
abbrev pub with_event : Event → Past → Past
with_event Tick past = with_moment past (next_moment past)
with_event (Input field) past = record past { heard = record { tables = past.tables; field = field } ∷ past.heard }
with_event (Install t) past = record past { tables = t; version = past.version + 1 }
with_event (SetPattern n) past = record past { commanded = Some n }
with_event (SetClock time) past = record past { clock_set = Some time }
with_event (Ask request) past = record past { asked = Given (ticks_in past) request ∷ past.asked }
with_event (Cancel number) past = record past { asked = Cancelled (ticks_in past) number ∷ past.asked }
with_event (SetDrift gain lose) past = record past { gain = gain; lose = lose }

-- the past after these events (newest first), from these opening tables
abbrev pub past_of : Tables → List Event → Past
past_of opening [] = opened opening
past_of opening (e ∷ events) = with_event e (past_of opening events)

-- the frames of these moments
abbrev pub frames_in : List Moment → List Frame
frames_in [] = []
frames_in (m ∷ past) = m.frame ∷ frames_in past

-- the events of opening a controller: its pattern is commanded and its clock is set before anything else arrives
abbrev pub opening_commands : ℕ → ℕ → List Event
opening_commands command clock = SetPattern command ∷ SetClock clock ∷ []

-- all events of a history; the opening commands are the oldest
abbrev pub since_opening : History → List Event
since_opening h = h.events ++ opening_commands h.command h.clock

-- the past after a history
abbrev pub past_at : History → Past
past_at h = past_of h.tables (since_opening h)

-- the frames of a history, newest first
abbrev pub frames : History → List Frame
frames h = frames_in (past_at h).moments

-- the last frame of a history
abbrev pub last_frame_of : History → Frame
last_frame_of h = last_frame (past_at h).moments

-- the frame that the next tick gives
abbrev pub decide : History → Frame
decide h = (next_moment (past_at h)).frame

-- the history with one more event
abbrev pub with_one : History → Event → History
with_one h e = record { tables = h.tables; command = h.command; clock = h.clock; events = e ∷ h.events }

-- the history with one more tick
abbrev pub ticked : History → History
ticked h = with_one h Tick

-- the history of a controller to which nothing has happened since it was opened
abbrev pub opening : Tables → ℕ → ℕ → History
opening t command clock = record { tables = t; command = command; clock = clock; events = [] }

-- the history of a controller to which nothing has happened, except that its clock was given this drift
abbrev pub opening_drifting : Tables → ℕ → ℕ → ℕ → ℕ → History
opening_drifting t command clock gain lose = with_one (opening t command clock) (SetDrift gain lose)
