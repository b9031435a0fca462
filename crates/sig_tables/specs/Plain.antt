-- Plain ticks: their mode is Start or Free, without a pattern, flash or a preempt.
use Rattle.std.specs.Prelude.{◌≡◌, ◌==◌, ◌&&◌, not, Bool, true, false, if◌then◌else◌, List, []}
use Rattle.sig_types.specs.declared.frame.Field.{Field}
use Rattle.sig_types.specs.declared.frame.Field.TheVariants.{Veh, Ped as Button, Preempt as PreemptInput}
use Rattle.sig_types.specs.declared.frame.Mode.{Mode}
use Rattle.sig_types.specs.declared.frame.Mode.TheVariants.{Start, Free}
use Rattle.sig_types.specs.Colour.{is_start}
use Rattle.sig_tables.specs.declared.tables.Tables.{Tables}
use Rattle.sig_tables.specs.Slots.{is_defined}
use Rattle.sig_types.specs.Phases.{is_phase}
use Rattle.sig_tables.specs.Past.{Event, Tick, Input, SetDrift, Past, Moment}
use Rattle.sig_tables.specs.Events.{EachEvent}
use Rattle.sig_tables.specs.Looking.{last_frame, last_moment}
use Rattle.sig_tables.specs.Command.{command_now}
use Rattle.sig_tables.specs.Preempts.{preempts_on}
use Rattle.sig_tables.specs.Choosing.{leaves_start}
use Rattle.sig_tables.specs.TickState.{RingTurn, Rest, Rings, startup_phases, first_ring_turn}
use Rattle.sig_tables.specs.Decide.{past_of}

-- the mode is Start or Free
abbrev pub is_plain : Mode → Bool
is_plain Start = true
is_plain Free = true
is_plain _ = false

-- the mode of a plain tick
abbrev pub plain_mode : List Moment → Mode
plain_mode past = if is_start (last_frame past).mode && not (leaves_start past) then Start else Free

-- what the rings do at a plain tick
abbrev pub plain_turn : Tables → List Moment → RingTurn
plain_turn t past =
    if is_start (last_frame past).mode then (if leaves_start past then first_ring_turn (startup_phases t) Rings else Rest) else Rings

-- the next tick is plain: the commanded pattern isn't defined, flash isn't commanded, no preempt input is on, and the
-- last frame is in Start or Free
pub record RunsPlain (past : Past) : Type 0 where
  pub no_pattern : is_defined past.tables (command_now past) ≡ false
  pub no_flash : (command_now past == 255) ≡ false
  pub no_preempt : preempts_on past.heard (last_moment past.tables past.moments) ≡ []
  pub plain : is_plain (last_frame past.moments).mode ≡ true

-- the input is that of a detector or a button of a phase, 1 to 16
abbrev pub IsStreet : Field → Type 0
IsStreet (Veh p on) = is_phase p ≡ true
IsStreet (Button p) = is_phase p ≡ true
IsStreet (PreemptInput i on) = ⊥

-- the event is a tick, an input of a detector or a button, or a drift of the clock
abbrev pub IsStreetEvent : Event → Type 0
IsStreetEvent Tick = Unit {0}
IsStreetEvent (Input field) = IsStreet field
IsStreetEvent (SetDrift gain lose) = Unit {0}
IsStreetEvent _ = ⊥

-- all of these events are of this kind
abbrev pub OnlyStreet : List Event → Type 0
OnlyStreet events = EachEvent (λ before e. IsStreetEvent e) events

-- if the event is a tick, it is plain
abbrev pub IsPlainAfter : Tables → List Event → Event → Type 0
IsPlainAfter opening before Tick = RunsPlain (past_of opening before)
IsPlainAfter opening before _ = Unit {0}

-- each tick of these events is plain
abbrev pub Plain : Tables → List Event → Type 0
Plain opening events = EachEvent (IsPlainAfter opening) events
