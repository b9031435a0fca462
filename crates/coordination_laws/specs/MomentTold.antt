-- What is known of the moment of any tick: its mode follows from its command, and its target from its clock.
use Rattle.std.specs.Prelude.{ℕ, ◌≡◌, ◌<◌, true, false}
use Rattle.sig_types.specs.declared.frame.Mode.{Mode}
use Rattle.sig_types.specs.declared.frame.Mode.TheVariants.{Free, Seek, Coord}
use Rattle.sig_types.specs.declared.frame.Frame.{Frame}
use Rattle.sig_tables.specs.declared.tables.Tables.{Tables}
use Rattle.sig_tables.specs.Slots.{is_defined}
use Rattle.sig_tables.specs.Clock.{day, target_in}
use Rattle.sig_tables.specs.Choosing.{is_in_step}
use Rattle.sig_tables.specs.Past.{Moment}
use Rattle.tick_laws.specs.InStep.{NamesOn}

-- whether a mode before the colours are known follows from the commanded pattern n, after frame f, under tables t of
-- version v: Free if the pattern isn't defined, Coord if the frame is coordinated in it, Seek otherwise. All other
-- modes are allowed
abbrev pub Obeys : Tables → ℕ → Frame → ℕ → Mode → Type 0
Obeys t v f n Free = is_defined t n ≡ false
Obeys t v f n (Seek k) = (k ≡ n) × (is_defined t n ≡ true) × (is_in_step f v n ≡ false)
Obeys t v f n (Coord k) = (k ≡ n) × (is_defined t n ≡ true) × (is_in_step f v n ≡ true)
Obeys t v f n mode = Unit {0}

-- whether the mode of a frame agrees with the commanded pattern n
abbrev pub ModeFollows : Tables → ℕ → Mode → Type 0
ModeFollows t n Free = is_defined t n ≡ false
ModeFollows t n (Seek k) = k ≡ n
ModeFollows t n (Coord k) = k ≡ n
ModeFollows t n mode = Unit {0}

-- what is known of a moment
pub record MomentTold (m : Moment) : Type 0 where
  pub clock : m.clock < day
  pub named : NamesOn m.tables m.frame
  pub mode : ModeFollows m.tables m.command m.frame.mode
  pub target : m.frame.target ≡ target_in m.tables m.frame.mode m.clock
