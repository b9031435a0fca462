-- What the rings see at a tick, and the rules of actuated control that use it.
use Rattle.std.specs.Prelude.{ℕ, ◌==◌, ◌&&◌, ◌||◌, not, max, nat_le, Bool, false, if◌then◌else◌, List, [], ◌∷◌, Option, Some, None}
use Rattle.sig_types.specs.declared.frame.Colour.TheVariants.{Green, Red}
use Rattle.sig_types.specs.declared.frame.Ped.TheVariants.{Dont}
use Rattle.sig_types.specs.declared.frame.Frame.{Frame}
use Rattle.sig_types.specs.declared.frame.Mode.{Mode}
use Rattle.sig_types.specs.Phases.{all_phases, is_in, some, those, after, up_to}
use Rattle.sig_types.specs.Colour.{same_colour, same_signal, colour_of, signal_of, on_in}
use Rattle.sig_tables.specs.declared.tables.Tables.{Tables}
use Rattle.sig_tables.specs.Tables.{least_green, clearance, red_revert_time, gap_time, maximum_time, is_enabled}
use Rattle.sig_tables.specs.Sides.{are_of_one_side, ring_phases, sides}
use Rattle.sig_tables.specs.Slots.{is_coordinated}
use Rattle.sig_tables.specs.Splits.{keeps_maximum}
use Rattle.sig_tables.specs.Coordinating.{has_room, is_forced_off, is_released, is_floating, has_floated}
use Rattle.sig_tables.specs.Modes.{bound}
use Rattle.sig_tables.specs.Past.{Moment}
use Rattle.sig_tables.specs.Looking.{run, latched, lasts, lasts_now, shows, last_on, latest_on, runs_on, signal_runs_on, last_frame}

-- what the rings see at a tick: the mode before the colours are known, the counter, the active priority request, the
-- tables, the sequence, the last frame, the moments so far and the demand. It also lists the Green phases that are
-- quiet (not active) or opposed (a conflicting phase has demand), and the phases whose clearance ends at the tick
pub record View : Type 0 where
  pub mode : Mode
  pub counter : ℕ
  pub active : ℕ
  pub tables : Tables
  pub sequence : ℕ
  pub frame : Frame
  pub past : List Moment
  pub demand : List ℕ
  pub quiet : List ℕ
  pub opposed : List ℕ
  pub ended : List ℕ

-- phase p has been served: its Green has lasted the minimum green that was in force at its first tick, and it shows
-- neither walk nor pedestrian clearance at this tick
abbrev pub is_served : Tables → List Moment → ℕ → Bool
is_served now past p =
    nat_le (least_green (latched p Green now past) p) (run p Green past)
    && same_signal (signal_runs_on p now past (signal_of (last_frame past) p)) Dont

-- phase p has gapped out: it has been Green and not active for its passage time, this tick included, and has no maximum
-- recall
abbrev pub has_gap : View → ℕ → Bool
has_gap v p =
    not (keeps_maximum (bound v.mode) v.tables p)
    && lasts_now (gap_time v.tables p) (is_in v.quiet p) (λ m. is_in m.quiet p) v.past

-- phase p has maxed out: it has been Green while a conflicting phase had demand, for its maximum green, this tick
-- included
abbrev pub has_maximum : View → ℕ → Bool
has_maximum v p = lasts_now (maximum_time v.tables p) (is_in v.opposed p) (λ m. is_in m.opposed p) v.past

-- with floating force-offs: the Green of phase p and its clearance fill its split of pattern n
abbrev pub has_filled_split : View → ℕ → ℕ → Bool
has_filled_split v n p = if is_floating v.tables then has_floated v.tables n p (run p Green v.past) else false

-- phase p has a reason to end. Without a pattern the reasons are gap-out and max-out. With pattern n, the only reason
-- of a coordinated phase is its release; other phases have gap-out, an active priority request and a filled split
abbrev pub is_reasoned : Option ℕ → View → ℕ → Bool
is_reasoned None v p = has_gap v p || has_maximum v p
is_reasoned (Some n) v p =
    if is_coordinated v.tables n p then is_released v.tables n v.counter v.active p
    else not (v.active == 0) || has_gap v p || has_filled_split v n p

-- phase p is Green and has a reason to end
abbrev pub has_reason : View → ℕ → Bool
has_reason v p =
    is_enabled v.tables p && same_colour (colour_of v.frame p) Green && is_reasoned (bound v.mode) v p

-- phase p is Green and the pattern in effect forces it off, even if it hasn't been served
abbrev pub is_forced : View → ℕ → Bool
is_forced v p =
    is_enabled v.tables p && same_colour (colour_of v.frame p) Green && is_forced_off (bound v.mode) v.tables v.counter p

-- phase p may end: it is Green, has a reason to end, and has been served
abbrev pub is_done : View → ℕ → Bool
is_done v p = has_reason v p && is_served v.tables v.past p

-- the phases whose clearance ends at this tick: they are on in the last frame, and turn Red
abbrev pub ended_of : Tables → List Moment → List ℕ
ended_of now past =
    those
    (λ p. not (same_colour (colour_of (last_frame past) p) Red)
    && same_colour (runs_on p now past (colour_of (last_frame past) p)) Red)
    all_phases

-- the other of the two rings
abbrev pub other_ring : ℕ → ℕ
other_ring r = if r == 1 then 2 else 1

-- the phase of ring r that is on in the last frame, or 0
abbrev pub on_phase : View → ℕ → ℕ
on_phase v r = on_in v.frame r

-- ring r is open: no phase is on in it, or the clearance of its phase ends at this tick
abbrev pub is_open : View → ℕ → Bool
is_open v r = on_phase v r == 0 || is_in v.ended (on_phase v r)

-- the last member of a list, or 0
abbrev pub last_of : List ℕ → ℕ
last_of [] = 0
last_of (q ∷ []) = q
last_of (q ∷ r ∷ rest) = last_of (r ∷ rest)

-- a phase of the barrier group that was served last (`latest`), or of the sequence's last group if `latest` is 0
abbrev pub present_side_of : View → ℕ → ℕ
present_side_of v latest = if latest == 0 then last_of (sides v.tables v.sequence) else latest

-- a phase of the present barrier group: a phase that is on and doesn't end its clearance, otherwise one of the group
-- that was served last
abbrev pub present_side : View → ℕ
present_side v =
    if is_open v 1 then (if is_open v 2 then present_side_of v (latest_on v.past) else on_phase v 2)
    else on_phase v 1

-- the phases of ring r in the present barrier group, in the order of the sequence
abbrev pub present : View → ℕ → List ℕ
present v r = ring_phases v.tables v.sequence (present_side v) r

-- the members of the list after the last phase served; the whole list if that phase isn't in it
abbrev pub later_in : List ℕ → ℕ → List ℕ
later_in phases last = if is_in phases last then after last phases else phases

-- the other members of the list: those up to the last phase served
abbrev pub earlier_in : List ℕ → ℕ → List ℕ
earlier_in phases last = if is_in phases last then up_to last phases else []

-- the later phases of ring r: those in the present barrier group after the one that was on last
abbrev pub later : View → ℕ → List ℕ
later v r = later_in (present v r) (last_on r v.past)

-- the earlier phases of ring r: the others in the present barrier group, including the one that was on last
abbrev pub earlier : View → ℕ → List ℕ
earlier v r = earlier_in (present v r) (last_on r v.past)

-- phase q has room if it begins k ticks from now: the pattern in effect doesn't force it off before it is served.
-- Without a pattern a phase always has room
abbrev pub has_room_in : View → ℕ → ℕ → Bool
has_room_in v k q = has_room (bound v.mode) v.tables v.counter k q

-- phase q is wanted k ticks from now: it has demand, and it has room then
abbrev pub is_wanted : View → ℕ → ℕ → Bool
is_wanted v k q = if is_in v.demand q then has_room_in v k q else false

-- phase q may begin: it is enabled and Red, and its red revert is over
abbrev pub is_startable : View → ℕ → Bool
is_startable v q =
    is_enabled v.tables q && same_colour (colour_of v.frame q) Red
    && lasts (red_revert_time v.tables q) (shows q Red) v.past

-- phase q can begin: it is wanted now and may begin
abbrev pub can_begin : View → ℕ → Bool
can_begin v q = is_wanted v 0 q && is_startable v q

-- a phase of another barrier group is wanted k ticks from now
abbrev pub elsewhere : View → ℕ → Bool
elsewhere v k = some (λ q. not (are_of_one_side v.tables (present_side v) q) && is_wanted v k q) v.demand

-- the clearance of phase p; 0 if p is 0 (no phase)
abbrev pub clearance_of : Tables → ℕ → ℕ
clearance_of t p = if p == 0 then 0 else clearance t p

-- the longest clearance of the phases that are on
abbrev pub greatest_clearance : View → ℕ
greatest_clearance v = max (clearance_of v.tables (on_phase v 1)) (clearance_of v.tables (on_phase v 2))
