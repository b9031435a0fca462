-- A memory that looks back over everything that was seen.
use Rattle.std.specs.Prelude.{ℕ, ◌≡◌, ◌<◌, ◌≤◌, ◌+◌, length, true}
use Rattle.sig_types.specs.Phases.{is_in}
use Rattle.sig_types.specs.PhaseSet.{has}
use Rattle.sig_tables.specs.Past.{Past}
use Rattle.sig_tables.specs.Slots.{cycle_time}
use Rattle.sig_tables.specs.Choosing.{is_in_step}
use Rattle.sig_tables.specs.Seen.{frame_seen}
use Rattle.preempt_stages.specs.Inputs.{preempts_seen}
use Rattle.look_back.specs.FrameHistories.{LooksOver}
use Rattle.tick_context.specs.declared.context.TickContext.{TickContext}
use Rattle.tick_context.specs.declared.seeing.TickInputs.{TickInputs}
use Rattle.observer.specs.declared.LookingBack.{LookingBack}

-- the number of frames that were seen
abbrev pub frames : LookingBack → ℕ
frames o = o.frames

-- the memory represents the past: it has the preempt inputs that are on, and everything that was seen since the moment
-- before any tick. In Coord the counter of the last frame is within the cycle
pub record SeesBack (o : LookingBack) (past : Past) : Type 0 where
  pub inputs : (i : ℕ) → 0 < i → i ≤ 8 → has o.inputs i ≡ is_in (preempts_seen past) i
  pub frame_history : LooksOver o.frame_history past.moments
  pub frames : length past.moments ≡ o.frames + 1
  pub within : (n : ℕ) → is_in_step (frame_seen past) past.version n ≡ true → (frame_seen past).counter < cycle_time past.tables n

-- any ticks can be skipped
abbrev pub always : LookingBack → TickContext → TickInputs → Type 0
always o x s = Unit {0}
