-- What follows from representing a history, whichever gives the frames.
use Rattle.std.proofs.Common.{◌≡◌, ◌<◌, ℕ, ◌==◌, ◌&&◌, Bool, true, false, if◌then◌else◌, List, [], ◌∷◌, length, refl, arith}
use Rattle.std.proofs.lemmas.Bool.{and_parts, and_from, false≢true}
use Rattle.sig_types.specs.declared.frame.Mode.TheVariants.{Coord}
use Rattle.sig_types.specs.Colour.{same_mode}
use Rattle.sig_tables.specs.Past.{Past, History, Moment}
use Rattle.sig_tables.specs.Slots.{cycle_time}
use Rattle.sig_tables.specs.Choosing.{is_in_step}
use Rattle.sig_tables.specs.Counters.{counters_since}
use Rattle.sig_tables.specs.Counting.{last_counter}
use Rattle.sig_tables.specs.Decide.{past_at}
use Rattle.sig_tables.specs.Looking.{last_frame}
use Rattle.sig_tables.specs.Seen.{frame_seen, moment_seen}
use Rattle.controller.specs.declared.Registers.{Registers as RegistersKept}
use Rattle.controller.specs.Registers.{RegistersStand}
use Rattle.cab_book.specs.declared.control.Control.{Control}
use Rattle.cab_book.specs.declared.control.Control.TheVariants.{Registers, LookingBack}
use Rattle.cab_book.specs.Controls.{ControlKeeps, ControlStands, tick_count, install_count}

-- as many tables were put in force as the version says
pub installs-are : (c : Control) (h : History) → ControlStands c h → install_count c ≡ (past_at h).version
installs-are (Registers c) h k = k.context.version
installs-are (LookingBack o) h k = k.context.version

-- before any tick none is counted
pub first-ticks : (c : Control) (h : History) → ControlStands c h → length (past_at h).moments ≡ 1 → (moment_seen (past_at h)).number ≡ 0 → tick_count c ≡ 0
first-ticks (Registers c) h k one number =
    omega (arith, one, number, k.memory.clocks.steps, k.memory.signals.steps, k.memory.preempts.steps, k.context.unit_commands.ticks)
first-ticks (LookingBack o) h k one number = omega (arith, one, number, k.memory.frames, k.context.unit_commands.ticks)

head_counter : (b : Bool) (x : ℕ) (xs : List ℕ) → b ≡ true → last_counter (if b then x ∷ xs else []) ≡ x
head_counter true x xs e = refl
head_counter false x xs e = absurd (false≢true e)

-- the last of the coordinated counters is that of the last frame
last-is : (moments : List Moment) (version n : ℕ) → is_in_step (last_frame moments) version n ≡ true
    → last_counter (counters_since n version moments) ≡ (last_frame moments).counter
last-is [] version n on = refl
last-is (m ∷ moments) version n on =
    let parts = and_parts (same_mode m.frame.mode (Coord n)) (m.frame.version == version) on in
    head_counter (m.frame.version == version && same_mode m.frame.mode (Coord n)) m.frame.counter (counters_since n version moments)
    (and_from (m.frame.version == version) (same_mode m.frame.mode (Coord n)) parts.1 parts.0)

kept-within : (m : RegistersKept) (past : Past) (n : ℕ) → RegistersStand m past → is_in_step (frame_seen past) past.version n ≡ true
    → (frame_seen past).counter < cycle_time past.tables n
kept-within m past n k on =
    let counts = k.counts n on in
    omega (arith, counts.within, counts.stands.counter, last-is past.moments past.version n on)

-- while coordinated in a pattern the counter is within its cycle
pub within-cycle : (c : Control) (past : Past) (n : ℕ) → ControlKeeps c past → is_in_step (frame_seen past) past.version n ≡ true
    → (frame_seen past).counter < cycle_time past.tables n
within-cycle (Registers c) past n k on = kept-within c.memory past n k.memory on
within-cycle (LookingBack o) past n k on = k.memory.within n on
