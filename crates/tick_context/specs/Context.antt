-- What both engines store apart from past frames, and what it represents.
use Rattle.std.specs.Prelude.{ℕ, ◌≡◌, ◌<◌, ◌≤◌, true, length}
use Rattle.sig_tables.specs.Slots.{cycle_time}
use Rattle.sig_tables.specs.Choosing.{is_in_step}
use Rattle.sig_tables.specs.Counters.{counters_since}
use Rattle.sig_tables.specs.Past.{Past}
use Rattle.sig_tables.specs.Looking.{start_run}
use Rattle.sig_tables.specs.Layout.{LaidOut, Ordered}
use Rattle.sig_tables.specs.Seen.{frame_seen}
use Rattle.call_store.specs.CallsStand.{CallsStand}
use Rattle.coord_count.specs.declared.Count.{Count}
use Rattle.coord_count.specs.CountStands.{CountStands, counter_of}
use Rattle.prio_queue.specs.QueueStands.{QueueStands}
use Rattle.preempt_stages.specs.Dwelling.{NamesPhases}
use Rattle.tick_context.specs.UnitCommands.{UnitCommandsStand, counted_ticks}
use Rattle.tick_context.specs.Binds.{ActivePatternStands}
use Rattle.tick_context.specs.declared.context.TickContext.{TickContext}

-- the number of ticks so far
abbrev pub told_ticks : TickContext → ℕ
told_ticks c = counted_ticks c.unit_commands

-- the context represents the past: the tables in force, the last frame, and what has arrived. The past has a moment.
-- The last frame's entry for each ring is a phase or 0. Start-up is over after 60 frames, and no frame has a later
-- version
pub record ContextStands (c : TickContext) (past : Past) : Type 0 where
  pub tables : c.tables ≡ past.tables
  pub layout : LaidOut c.layout past.tables
  pub ordered : Ordered c.layout past.tables 1
  pub version : c.version ≡ past.version
  pub frame : c.frame ≡ frame_seen past
  pub calls : CallsStand c.calls past
  pub requests : QueueStands c.requests past
  pub unit_commands : UnitCommandsStand c.unit_commands past
  pub active_pattern : ActivePatternStands c.active_pattern past.tables
  pub some : 0 < length past.moments
  pub names : NamesPhases (frame_seen past)
  pub few_start : start_run past.moments ≤ 60
  pub old_frame : (frame_seen past).version ≤ past.version

-- in Coord of pattern n, the count represents the counters since the pickup, and the last one is within the cycle
pub record CountsOn (count : Count) (past : Past) (n : ℕ) : Type 0 where
  pub stands : CountStands count (counters_since n past.version past.moments)
  pub within : counter_of count < cycle_time past.tables n

-- the count is that of the pattern in which the last frame is coordinated, if it is in one
abbrev pub CountStandsFor : Count → Past → Type 0
CountStandsFor count past = (n : ℕ) → is_in_step (frame_seen past) past.version n ≡ true → CountsOn count past n
