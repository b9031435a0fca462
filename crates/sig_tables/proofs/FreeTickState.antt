-- Where no pattern and no flash is in command and no preempt input is on, a tick is only about Start and Free.
use Rattle.std.proofs.Common.{◌≡◌, ℕ, Bool, true, false, not, ◌&&◌, ◌==◌, if◌then◌else◌, List, [], None, refl, ◌∙◌, ap}
use Rattle.std.proofs.lemmas.Bool.{false≢true}
use Rattle.std.proofs.Math.Bool.{and-true}
use Rattle.sig_tables.specs.Tables.{has_dual_entry}
use Rattle.sig_tables.specs.Moves.{can_join}
use Rattle.sig_types.specs.declared.frame.Mode.{Mode}
use Rattle.sig_types.specs.declared.frame.Mode.TheVariants.{Start, Free, Seek, Coord, Ending, Flash, Entry, Track, Dwell, Exit}
use Rattle.sig_types.specs.Colour.{is_start}
use Rattle.sig_tables.specs.declared.tables.Tables.{Tables}
use Rattle.sig_tables.specs.Slots.{is_defined}
use Rattle.sig_tables.specs.Past.{Past, Moment}
use Rattle.sig_tables.specs.Looking.{last_frame}
use Rattle.sig_tables.specs.Command.{command_now}
use Rattle.sig_tables.specs.Clock.{clock_now, target_in}
use Rattle.sig_tables.specs.Choosing.{leaves_start, mode_commanded, mode_after, mode_sought}
use Rattle.sig_tables.specs.Counters.{counter_in}
use Rattle.sig_tables.specs.Priority.{active_in}
use Rattle.sig_tables.specs.Plain.{is_plain, plain_mode, plain_turn, RunsPlain}
use Rattle.sig_tables.specs.Modes.{bound, stage_of, sequence_in}
use Rattle.sig_tables.specs.Goals.{goal_in, lesser_times, lesser_in}
use Rattle.sig_tables.specs.Lesser.{InFull}
use Rattle.sig_tables.specs.View.{View, is_forced, is_wanted, is_startable}
use Rattle.sig_types.specs.Phases.{is_in}
use Rattle.sig_tables.specs.TickState.{Rest, Rings, startup_phases, first_ring_turn, ring_turn_of, tick_state_of}

abbrev Sought : Tables → ℕ → ℕ → List Moment → Mode → Type 0
Sought t v n past m = mode_after m t v n [] past ≡ (if is_start m && not (leaves_start past) then Start else Free)

after-plain : (t : Tables) (v n : ℕ) (past : List Moment) (m : Mode) → is_defined t n ≡ false → (n == 255) ≡ false
    → (last_frame past).mode ≡ m → is_plain m ≡ true → Sought t v n past m
after-plain t v n past Start d f e h = split (leaves_start past)
  where
    split : (b : Bool) → (if b then (if n == 255 then Flash else mode_commanded t v n (last_frame past)) else Start) ≡ (if not b then Start else Free)
    split true = rw f (rw d refl)
    split false = refl
after-plain t v n past Free d f e h = rw e (rw f (rw d refl))
after-plain t v n past (Seek i) d f e h = absurd (false≢true h)
after-plain t v n past (Coord i) d f e h = absurd (false≢true h)
after-plain t v n past Ending d f e h = absurd (false≢true h)
after-plain t v n past Flash d f e h = absurd (false≢true h)
after-plain t v n past (Entry i) d f e h = absurd (false≢true h)
after-plain t v n past (Track i) d f e h = absurd (false≢true h)
after-plain t v n past (Dwell i) d f e h = absurd (false≢true h)
after-plain t v n past (Exit i) d f e h = absurd (false≢true h)

-- the mode of the tick is that of Start and Free
pub mode-plain : (past : Past) → RunsPlain past → (tick_state_of past).mode ≡ plain_mode past.moments
mode-plain past r =
    ap (λ (on : List ℕ). mode_sought past.tables past.version (command_now past) on past.moments) r.no_preempt
    ∙ after-plain past.tables past.version (command_now past) past.moments (last_frame past.moments).mode r.no_pattern r.no_flash refl r.plain

-- a test of two modes that are Start and Free
of-modes : {A : Type 0} (f : Mode → A) (a : Bool) → f (if a then Start else Free) ≡ (if a then f Start else f Free)
of-modes f true = refl
of-modes f false = refl

same-if : {A : Type 0} (a : Bool) (x : A) → (if a then x else x) ≡ x
same-if true x = refl
same-if false x = refl

-- with no counter, no target and no active request
pub counter-plain : (past : Past) → RunsPlain past → (tick_state_of past).counter ≡ 0
counter-plain past r =
    ap (λ (m : Mode). counter_in past.tables m (target_in past.tables m (clock_now past)) past.moments) (mode-plain past r)
    ∙ of-modes (λ m. counter_in past.tables m (target_in past.tables m (clock_now past)) past.moments) _
    ∙ same-if _ 0

pub target-plain : (past : Past) → RunsPlain past → (tick_state_of past).target ≡ 0
target-plain past r =
    ap (λ (m : Mode). target_in past.tables m (clock_now past)) (mode-plain past r)
    ∙ of-modes (λ m. target_in past.tables m (clock_now past)) _ ∙ same-if _ 0

ring_turn-cases : (t : Tables) (a b : Bool) (past : List Moment) → is_start (last_frame past).mode ≡ a
    → ring_turn_of t past (if a && not b then Start else Free) ≡ (if a then (if b then first_ring_turn (startup_phases t) Rings else Rest) else Rings)
ring_turn-cases t true true past e = rw e refl
ring_turn-cases t true false past e = rw e refl
ring_turn-cases t false b past e = rw e refl

-- and the turn is that of Start and Free
pub ring_turn-plain : (past : Past) → RunsPlain past → (tick_state_of past).ring_turn ≡ plain_turn past.tables past.moments
ring_turn-plain past r =
    ap (λ (m : Mode). ring_turn_of past.tables past.moments m) (mode-plain past r)
    ∙ ring_turn-cases past.tables (is_start (last_frame past.moments).mode) (leaves_start past.moments) past.moments refl

-- no pattern binds it, and no preempt is served
pub unbound-plain : (past : Past) → RunsPlain past → bound (tick_state_of past).mode ≡ None
unbound-plain past r = ap bound (mode-plain past r) ∙ of-options _
  where
    of-options : (a : Bool) → bound (if a then Start else Free) ≡ None
    of-options true = refl
    of-options false = refl

pub stage-plain : (past : Past) → RunsPlain past → stage_of (tick_state_of past).mode ≡ 0
stage-plain past r = ap stage_of (mode-plain past r) ∙ of-modes stage_of _ ∙ same-if _ 0

-- and the first sequence is in force
pub sequence-plain : (past : Past) → RunsPlain past → sequence_in past.tables (tick_state_of past).mode ≡ 1
sequence-plain past r = ap (sequence_in past.tables) (mode-plain past r) ∙ of-modes (sequence_in past.tables) _ ∙ same-if _ 1

-- where no pattern binds, there is always room, and nothing is forced off
pub wanted-unbound : (v : View) (k q : ℕ) → bound v.mode ≡ None → is_wanted v k q ≡ is_in v.demand q
wanted-unbound v k q e = rw e (split (is_in v.demand q))
  where
    split : (b : Bool) → (if b then true else false) ≡ b
    split true = refl
    split false = refl

and-false : (b : Bool) → (b && false) ≡ false
and-false true = refl
and-false false = refl

pub forced-unbound : (v : View) (p : ℕ) → bound v.mode ≡ None → is_forced v p ≡ false
forced-unbound v p e = rw e (and-false _)

-- where no preempt is served, all times are in full
pub lesser-unstaged : (t : Tables) (m : Mode) (p : ℕ) → stage_of m ≡ 0 → lesser_in t m p ≡ InFull
lesser-unstaged t m p e = ap (λ (i : ℕ). if is_in (goal_in t m) p then InFull else lesser_times t i) e ∙ same (is_in (goal_in t m) p)
  where
    same : (b : Bool) → (if b then InFull else InFull) ≡ InFull
    same true = refl
    same false = refl

-- and dual entry asks nothing else
pub join-unbound : (v : View) → bound v.mode ≡ None → can_join v ≡ (λ q. has_dual_entry v.tables q && is_startable v q)
join-unbound v e = λ i q. same q i
  where
    same : (q : ℕ) → can_join v q ≡ (has_dual_entry v.tables q && is_startable v q)
    same q = rw (e, and-true (has_dual_entry v.tables q && true), and-true (has_dual_entry v.tables q)) refl
