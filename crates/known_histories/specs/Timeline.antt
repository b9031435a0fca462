-- The events of a cabinet as a timeline, in order; a history has the newest event first.
use Rattle.std.specs.Prelude.{ℕ, zero, suc, List, [], ◌∷◌}
use Rattle.sig_types.specs.declared.notes.Request.{Request}
use Rattle.sig_tables.specs.Past.{Event, Tick}

-- an event, and the number of ticks before it
pub record Step : Type 0 where
  pub ticks : ℕ
  pub event : Event

-- this event after this number of ticks
abbrev pub after : ℕ → Event → Step
after n event = record { ticks = n; event = event }

-- n ticks after these events
abbrev pub ticks : ℕ → List Event → List Event
ticks zero events = events
ticks (suc n) events = Tick ∷ ticks n events

-- the events of these steps, in order, after earlier events
abbrev pub told_in_order : List Step → List Event → List Event
told_in_order [] before = before
told_in_order (s ∷ steps) before = told_in_order steps (s.event ∷ ticks s.ticks before)

-- a priority request
abbrev pub request : ℕ → ℕ → ℕ → ℕ → ℕ → ℕ → Request
request number class level phase arrival departure = record {
  number = number;
  class = class;
  level = level;
  phase = phase;
  arrival = arrival;
  departure = departure;
}
