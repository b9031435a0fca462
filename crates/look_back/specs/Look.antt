-- Facts about a frame for which a controller looks back, by the moment of the frame and by its stored sample.
use Rattle.std.specs.Prelude.{ℕ, ◌≡◌, ◌<◌, ◌≤◌, ◌==◌, ◌&&◌, ◌||◌, nat_lt, Bool, length}
use Rattle.sig_types.specs.declared.frame.Colour.{Colour}
use Rattle.sig_types.specs.declared.frame.Ped.{Ped}
use Rattle.sig_types.specs.declared.frame.Mode.TheVariants.{Dwell}
use Rattle.sig_types.specs.declared.phase_set.PhaseSet.{PhaseSet}
use Rattle.sig_types.specs.Phases.{is_in, every}
use Rattle.sig_types.specs.PhaseSet.{has}
use Rattle.sig_types.specs.Colour.{on_in}
use Rattle.sig_tables.specs.Past.{Moment}
use Rattle.sig_tables.specs.Looking.{shows, signals}
use Rattle.sig_tables.specs.Modes.{same_mode, stage_of}
use Rattle.sig_tables.specs.Tables.{listed}
use Rattle.sig_tables.specs.Layout.{Has}
use Rattle.sig_tables.specs.Preempts.{has_reached}
use Rattle.look_back.specs.declared.sample.Sample.{Sample}
use Rattle.look_back.specs.declared.sample.Look.{Look}
use Rattle.look_back.specs.declared.sample.Look.TheVariants.{Shows, Signals, Quiet, Opposed, IsIn, Serves, Dwells}
use Rattle.look_back.specs.Shown.{in_colour, in_signal}

-- the fact is true of the moment
abbrev pub is_so : Look → Moment → Bool
is_so (Shows p colour) m = shows p colour m
is_so (Signals p signal) m = signals p signal m
is_so (Quiet p) m = is_in m.quiet p
is_so (Opposed p) m = is_in m.opposed p
is_so (IsIn mode) m = same_mode m.frame.mode mode
is_so (Serves i) m = stage_of m.frame.mode == i
is_so (Dwells i goal) m = same_mode m.frame.mode (Dwell i) && has_reached m.frame (listed goal)

-- the entry of a list is a phase of the set; entries above 16 are ignored
abbrev pub is_due : PhaseSet → ℕ → Bool
is_due s octet = nat_lt 16 octet || has s octet

-- the fact is true of the stored sample of a frame
abbrev pub is_told : Look → Sample → Bool
is_told (Shows p colour) g = has (in_colour g.shown colour) p
is_told (Signals p signal) g = has (in_signal g.shown signal) p
is_told (Quiet p) g = has g.quiet p
is_told (Opposed p) g = has g.opposed p
is_told (IsIn mode) g = same_mode g.mode mode
is_told (Serves i) g = stage_of g.mode == i
is_told (Dwells i goal) g =
    same_mode g.mode (Dwell i)
    && (every (is_due g.shown.green) (listed goal)
    && (g.first == 0 || is_in (listed goal) g.first)
    && (g.second == 0 || is_in (listed goal) g.second))

-- the phase of the fact, if it has one, is 1 to 16
abbrev pub LooksAtPhase : Look → Type 0
LooksAtPhase (Shows p colour) = (0 < p) × (p ≤ 16)
LooksAtPhase (Signals p signal) = (0 < p) × (p ≤ 16)
LooksAtPhase (Quiet p) = (0 < p) × (p ≤ 16)
LooksAtPhase (Opposed p) = (0 < p) × (p ≤ 16)
LooksAtPhase _ = Unit {0}

-- the sample holds what the moment of its frame shows and saw
pub record Tells (g : Sample) (m : Moment) : Type 0 where
  pub wide : length m.frame.veh ≡ 16
  pub colours : (colour : Colour) → Has (in_colour g.shown colour) (λ p. shows p colour m)
  pub signals : (signal : Ped) → Has (in_signal g.shown signal) (λ p. signals p signal m)
  pub first : g.first ≡ on_in m.frame 1
  pub second : g.second ≡ on_in m.frame 2
  pub mode : g.mode ≡ m.frame.mode
  pub quiet : Has g.quiet (is_in m.quiet)
  pub opposed : Has g.opposed (is_in m.opposed)

-- two samples agree in everything except the colours and signals of the phases
pub record IsAsSeen (a b : Sample) : Type 0 where
  pub first : a.first ≡ b.first
  pub second : a.second ≡ b.second
  pub mode : a.mode ≡ b.mode
  pub quiet : a.quiet ≡ b.quiet
  pub opposed : a.opposed ≡ b.opposed
