-- The state of a tick, in code and in the definitions.
use Rattle.std.specs.Prelude.{ℕ, ◌≡◌, ◌<◌}
use Rattle.sig_types.specs.declared.frame.Mode.TheVariants.{Coord}
use Rattle.sig_types.specs.Phases.{is_in}
use Rattle.sig_tables.specs.Slots.{cycle_time}
use Rattle.sig_tables.specs.Past.{Past}
use Rattle.sig_tables.specs.Modes.{stage_of}
use Rattle.sig_tables.specs.Goals.{goal_in, lesser_times}
use Rattle.sig_tables.specs.TickState.{tick_state_of}
use Rattle.sig_tables.specs.Layout.{Has}
use Rattle.sig_tables.specs.Seen.{mode_seen, ring_turn_seen}
use Rattle.call_store.specs.Signals.{lesser_of}
use Rattle.flash_mode.specs.RingTurns.{ring_turn_meant}
use Rattle.prio_queue.specs.Places.{some_number}
use Rattle.tick_context.specs.declared.tick_state.TickState.{TickState}

-- the state in code is that of the definitions, with the goal of its mode and the limits of the times
pub record TickStateIs (k : TickState) (past : Past) : Type 0 where
  pub clock : k.clock ≡ (tick_state_of past).clock
  pub command : k.command ≡ (tick_state_of past).command
  pub mode : k.mode ≡ mode_seen past
  pub goal : Has k.goal (is_in (goal_in past.tables (mode_seen past)))
  pub ring_turn : ring_turn_meant k.ring_turn ≡ ring_turn_seen past
  pub lesser : lesser_of k.lesser ≡ lesser_times past.tables (stage_of (mode_seen past))
  pub counter : k.counter ≡ (tick_state_of past).counter
  pub within : (n : ℕ) → mode_seen past ≡ Coord n → k.counter < cycle_time past.tables n
  pub target : k.target ≡ (tick_state_of past).target
  pub active : k.active ≡ some_number (tick_state_of past).active
