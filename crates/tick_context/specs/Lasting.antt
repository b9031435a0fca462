-- Conditions under which a cabinet shows the same for k more ticks: what would change it lasts for at least as long.
use Rattle.std.specs.Prelude.{ℕ, ◌≡◌, ◌≢◌, ◌<◌, ◌≤◌, ◌+◌, ◌*◌, ◌&&◌, ◌==◌, ◌∷◌, ◌⊎◌, not, if◌then◌else◌, true, false, List, [], length, Option, None, Some}
use Rattle.sig_types.specs.declared.frame.Colour.{Colour}
use Rattle.sig_types.specs.declared.frame.Colour.TheVariants.{Green, Yellow, Clear, Red}
use Rattle.sig_types.specs.declared.frame.Mode.{Mode}
use Rattle.sig_types.specs.declared.frame.Mode.TheVariants.{Free, Coord}
use Rattle.sig_types.specs.Phases.{is_phase, is_in}
use Rattle.sig_types.specs.PhaseSet.{has, phases_of}
use Rattle.sig_types.specs.Colour.{same_colour, colour_of, signal_of, on_in}
use Rattle.sig_tables.specs.declared.tables.Tables.{Tables}
use Rattle.sig_tables.specs.Tables.{is_enabled, ring_of, least_green, yellow_time, red_clear_time, gap_time, maximum_time}
use Rattle.sig_tables.specs.Slots.{is_defined, is_coordinated, force_point, window, cycle_time, least_service}
use Rattle.sig_tables.specs.Sides.{are_of_one_side}
use Rattle.sig_tables.specs.View.{other_ring}
use Rattle.sig_tables.specs.Coordinating.{is_floating}
use Rattle.sig_tables.specs.Clock.{target_at}
use Rattle.sig_tables.specs.Priority.{active_in}
use Rattle.sig_tables.specs.Modes.{bound}
use Rattle.sig_tables.specs.Past.{Past, Moment}
use Rattle.sig_tables.specs.Looking.{in_a_row, run, latched}
use Rattle.sig_tables.specs.Calls.{is_green, opposed_of}
use Rattle.sig_tables.specs.Walking.{has_walk}
use Rattle.sig_tables.specs.Ticking.{on_of}
use Rattle.sig_tables.specs.Layout.{Has}
use Rattle.sig_tables.specs.Seen.{frame_seen, moment_seen, pedestrian_seen, demand_with, quiet_with}
use Rattle.call_store.specs.Signals.{SignalLasts}
use Rattle.preempt_stages.specs.Inputs.{preempts_seen}
use Rattle.tick_context.specs.declared.seeing.TickInputs.{TickInputs}
use Rattle.tick_context.specs.Shows.{is_signalling}

-- nothing has arrived since the last frame
pub record IsFresh (past : Past) : Type 0 where
  pub heard : past.heard ≡ []
  pub commanded : past.commanded ≡ None
  pub clock_set : past.clock_set ≡ None

-- the Green phases for which a conflicting phase has demand, with this pattern in effect
abbrev pub opposed_with : Option ℕ → Past → List ℕ
opposed_with pattern past = opposed_of past.tables (frame_seen past) (demand_with pattern past)

-- what a tick sees of the phases, with this pattern in effect
pub record Looks (pattern : Option ℕ) (s : TickInputs) (past : Past) : Type 0 where
  pub demand : phases_of s.demand ≡ demand_with pattern past
  pub quiet : (p : ℕ) → is_phase p ≡ true → is_in (quiet_with pattern past) p ≡ (is_green (frame_seen past) p && not (has s.active p))
  pub opposed : Has s.opposed (is_in (opposed_with pattern past))

-- the Yellow or the red clearance that phase p shows lasts at least k more ticks
abbrev pub ColourLasts : ℕ → ℕ → Tables → List Moment → Colour → Type 0
ColourLasts k p now past Yellow = run p Yellow past + k ≤ yellow_time (latched p Yellow now past) p
ColourLasts k p now past Clear = run p Clear past + k ≤ red_clear_time (latched p Clear now past) p
ColourLasts k p now past Green = Unit {0}
ColourLasts k p now past Red = Unit {0}

-- phase p hasn't been served within k more ticks: its minimum green continues, or it shows Walk or Flash
abbrev pub StaysUnserved : ℕ → Past → ℕ → Type 0
StaysUnserved k past p =
    (run p Green past.moments + k ≤ least_green (latched p Green past.tables past.moments) p) ⊎ (is_signalling (frame_seen past) p ≡ true)

-- phase p doesn't gap out within k more ticks: it is active, or hasn't been quiet for long enough
abbrev pub HasNoGap : Option ℕ → ℕ → Past → ℕ → Type 0
HasNoGap pattern k past p =
    (is_in (quiet_with pattern past) p ≡ false) ⊎ (in_a_row (λ m. is_in m.quiet p) past.moments + k < gap_time past.tables p)

-- phase p doesn't max out within k more ticks: it isn't opposed, or hasn't been for long enough
abbrev pub HasNoMaximum : Option ℕ → ℕ → Past → ℕ → Type 0
HasNoMaximum pattern k past p =
    (maximum_time past.tables p ≢ 0)
    × ((is_in (opposed_with pattern past) p ≡ false) ⊎ (in_a_row (λ m. is_in m.opposed p) past.moments + k < maximum_time past.tables p))

-- the counter stays before the force point of phase p in pattern n for k more ticks
abbrev pub ComesBefore : ℕ → ℕ → Past → ℕ → Type 0
ComesBefore n k past p = (frame_seen past).counter + k < force_point past.tables n p

-- phase p has no reason to end within k more ticks
abbrev pub HasNoReason : Option ℕ → ℕ → Past → ℕ → Type 0
HasNoReason None k past p = HasNoGap None k past p × HasNoMaximum None k past p
HasNoReason (Some n) k past p =
    ((is_coordinated past.tables n p ≡ true) × ComesBefore n k past p)
    ⊎ ((is_coordinated past.tables n p ≡ false) × ((is_floating past.tables ≡ false) × HasNoGap (Some n) k past p))

-- the pattern in effect doesn't force phase p off within k more ticks
abbrev pub StaysUnforced : Option ℕ → ℕ → Past → ℕ → Type 0
StaysUnforced None k past p = Unit {0}
StaysUnforced (Some n) k past p = (is_coordinated past.tables n p ≡ true) ⊎ ComesBefore n k past p

-- phase p shows the same for k more ticks, with this pattern in effect: its clearance and its walk continue, and if it
-- is Green, it isn't forced off
pub record PhaseLasts (pattern : Option ℕ) (k : ℕ) (past : Past) (p : ℕ) : Type 0 where
  pub colour : ColourLasts k p past.tables past.moments (colour_of (frame_seen past) p)
  pub signal : SignalLasts k p past.tables past.moments (signal_of (frame_seen past) p)
  pub unforced : (is_enabled past.tables p && is_green (frame_seen past) p) ≡ true → StaysUnforced pattern k past p

-- a phase is on in ring r, and it may not end within k more ticks: if it is Green, it hasn't been served or has no
-- reason to end
pub record StaysOn (pattern : Option ℕ) (k : ℕ) (past : Past) (r : ℕ) : Type 0 where
  pub on : on_in (frame_seen past) r ≢ 0
  pub undone : (is_enabled past.tables (on_in (frame_seen past) r) && is_green (frame_seen past) (on_in (frame_seen past) r)) ≡ true
      → StaysUnserved k past (on_in (frame_seen past) r) ⊎ HasNoReason pattern k past (on_in (frame_seen past) r)

-- phase q has no room within k more ticks: it is too late for its minimum service before its force point, or the window
-- continues
abbrev pub HasNoRoom : Option ℕ → ℕ → Past → ℕ → Type 0
HasNoRoom None k past q = ⊥
HasNoRoom (Some n) k past q =
    (is_coordinated past.tables n q ≡ false)
    × ((force_point past.tables n q < (frame_seen past).counter + 1 + least_service past.tables q)
    ⊎ ((frame_seen past).counter + k < window past.tables n))

-- phase q isn't wanted within k more ticks
abbrev pub IsUnwanted : Option ℕ → ℕ → Past → ℕ → Type 0
IsUnwanted pattern k past q = (is_in (demand_with pattern past) q ≡ false) ⊎ HasNoRoom pattern k past q

-- a phase of the present barrier group: the one that is on in ring 1, or in ring 2 if ring 1 has none
abbrev pub present_on : Past → ℕ
present_on past = if on_in (frame_seen past) 1 == 0 then on_in (frame_seen past) 2 else on_in (frame_seen past) 1

-- within k more ticks no phase of ring r in the present barrier group is wanted; no phase of another group is wanted
abbrev pub NoneInRing : Option ℕ → ℕ → Past → ℕ → Type 0
NoneInRing pattern k past r =
    (q : ℕ) → (ring_of past.tables q == r && are_of_one_side past.tables (present_on past) q) ≡ true → IsUnwanted pattern k past q

abbrev pub NoneElsewhere : Option ℕ → ℕ → Past → Type 0
NoneElsewhere pattern k past =
    (q : ℕ) → is_phase q ≡ true → are_of_one_side past.tables (present_on past) q ≡ false → IsUnwanted pattern k past q

-- in ring r no phase ends and none begins within k more ticks. Either its phase stays on; or none of its phases in the
-- present barrier group is wanted, and no phase is on in it, no other group is wanted, or the other ring can't leave
abbrev pub RingLasts : Option ℕ → ℕ → Past → ℕ → Type 0
RingLasts pattern k past r =
    StaysOn pattern k past r
    ⊎ (NoneInRing pattern k past r
    × ((on_in (frame_seen past) r ≡ 0) ⊎ (NoneElsewhere pattern k past ⊎ StaysOn pattern k past (other_ring r))))

-- the cabinet stays in free operation, even if the backup time ends its command, and no walk begins
pub record StaysFree (past : Past) : Type 0 where
  pub other : (moment_seen past).command ≢ 255
  pub undefined : is_defined past.tables (moment_seen past).command ≡ false
  pub counter : (frame_seen past).counter ≡ 0
  pub target : (frame_seen past).target ≡ 0
  pub uncalled : (p : ℕ) → is_phase p ≡ true
      → ((has_walk past.tables p && is_in (pedestrian_seen past) p)
      && ((same_colour (colour_of (frame_seen past) p) Green && not (is_signalling (frame_seen past) p))
      && not (is_in (opposed_with None past) p))) ≡ false

-- the cabinet stays in Coord of pattern n for k more ticks: the pattern stays commanded, the day continues, the counter
-- advances by one within the cycle, and no priority request is active
pub record StaysInStep (n k : ℕ) (past : Past) : Type 0 where
  pub defined : is_defined past.tables n ≡ true
  pub command : (moment_seen past).command ≡ n
  pub backup : (past.tables.unit.backup ≡ 0)
      ⊎ (in_a_row (λ m. not m.is_commanded) past.moments + 1 + k < 10 * past.tables.unit.backup)
  pub day : (moment_seen past).clock + k < 864000
  pub gain : past.gain ≡ 0
  pub lose : past.lose ≡ 0
  pub cycle : (frame_seen past).counter + k < cycle_time past.tables n
  pub even : (window past.tables n ≤ (frame_seen past).counter)
      ⊎ (target_at past.tables n (moment_seen past).clock ≡ (frame_seen past).counter)
  pub unasked : (number : ℕ) → (moment_seen past).number < number → active_in past.tables (Coord n) number past.asked ≡ 0

-- the mode lasts k more ticks; only for Free and Coord
abbrev pub ModeLasts : Mode → ℕ → Past → Type 0
ModeLasts Free k past = StaysFree past
ModeLasts (Coord n) k past = StaysInStep n k past
ModeLasts mode k past = ⊥

-- nothing has arrived since the last frame, and for k more ticks the cabinet shows the same in this mode, with a phase
-- on
pub record Lasts (mode : Mode) (k : ℕ) (past : Past) : Type 0 where
  pub fresh : IsFresh past
  pub was : (frame_seen past).mode ≡ mode
  pub beside : preempts_seen past ≡ []
  pub version : (frame_seen past).version ≡ past.version
  pub on : (frame_seen past).on ≡ on_of past.tables (frame_seen past).veh 1 ∷ on_of past.tables (frame_seen past).veh 2 ∷ []
  pub some : present_on past ≢ 0
  pub first : RingLasts (bound mode) k past 1
  pub second : RingLasts (bound mode) k past 2
  pub wide : length (frame_seen past).veh ≡ 16
  pub long : length (frame_seen past).ped ≡ 16
  pub goes : ModeLasts mode k past
  pub phases : (p : ℕ) → is_phase p ≡ true → PhaseLasts (bound mode) k past p
