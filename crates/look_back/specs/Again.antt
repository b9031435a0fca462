-- Moments that continue the last one: each shows the same, and its tick saw the same.
use Rattle.std.specs.Prelude.{ℕ, ◌≡◌, ◌<◌, ◌≤◌, ◌+◌, ◌&&◌, not, min, nat_lt, if◌then◌else◌, true, false, Bool, List, [], ◌∷◌, ◌++◌}
use Rattle.sig_types.specs.declared.frame.Mode.TheVariants.{Coord}
use Rattle.sig_types.specs.declared.frame.Frame.{Frame}
use Rattle.sig_types.specs.declared.phase_set.PhaseSet.{PhaseSet}
use Rattle.sig_types.specs.Phases.{is_phase, is_in}
use Rattle.sig_types.specs.PhaseSet.{has}
use Rattle.sig_tables.specs.Past.{Moment}
use Rattle.sig_tables.specs.Looking.{last_frame}
use Rattle.sig_tables.specs.Calls.{is_green}
use Rattle.look_back.specs.declared.sample.Sample.{Sample}
use Rattle.look_back.specs.declared.frame_runs.FrameRuns.{FrameRuns}
use Rattle.look_back.specs.Look.{Tells}
use Rattle.look_back.specs.Spread.{frame_run}

-- the two frames show the same colours, signals, phases on, mode and version
pub record ShowsAgain (f g : Frame) : Type 0 where
  pub veh : f.veh ≡ g.veh
  pub ped : f.ped ≡ g.ped
  pub on : f.on ≡ g.on
  pub mode : f.mode ≡ g.mode
  pub version : f.version ≡ g.version

-- the moment continues these: its frame shows the same as the last one, in Coord with a counter that is greater by one.
-- Of the phases that were Green before it, those outside `active` were quiet, and those in `pressed` were opposed. No
-- preempt input was on
pub record FrameGoesOn (active pressed : PhaseSet) (m : Moment) (past : List Moment) : Type 0 where
  pub shows : ShowsAgain m.frame (last_frame past)
  pub counter : (n : ℕ) → m.frame.mode ≡ Coord n → m.frame.counter ≡ (last_frame past).counter + 1
  pub quiet : (p : ℕ) → is_phase p ≡ true → is_in m.quiet p ≡ (is_green (last_frame past) p && not (has active p))
  pub opposed : (p : ℕ) → is_phase p ≡ true → is_in m.opposed p ≡ (is_green (last_frame past) p && has pressed p)
  pub preempts : (i : ℕ) → 0 < i → i ≤ 8 → is_in m.preempts i ≡ false

-- each of these later moments continues those before it
abbrev pub AllGoOn : PhaseSet → PhaseSet → List Moment → List Moment → Type 0
AllGoOn active pressed [] past = Unit {0}
AllGoOn active pressed (m ∷ ms) past = FrameGoesOn active pressed m (ms ++ past) × AllGoOn active pressed ms past

-- the sample is what is stored of each of these moments
abbrev pub AllTell : Sample → List Moment → Type 0
AllTell g [] = Unit {0}
AllTell g (m ∷ ms) = Tells g m × AllTell g ms

-- each of the moments passes the test
abbrev pub AllPass : (Moment → Bool) → List Moment → Type 0
AllPass test [] = Unit {0}
AllPass test (m ∷ ms) = (test m ≡ true) × AllPass test ms

-- this number of frames plus `more`; 4,096 means that many or more
abbrev pub more_by : ℕ → ℕ → ℕ
more_by ticks more = if nat_lt ticks 4096 then min (ticks + more) 4096 else ticks

-- the runs with n more frames in the newest run
abbrev pub lengthened : ℕ → FrameRuns → FrameRuns
lengthened n s = record s { newest = frame_run s.newest.sample (more_by s.newest.ticks n) }
