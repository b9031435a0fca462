-- The stored pattern: the one that a cabinet seeks or is coordinated in.
use Rattle.std.specs.Prelude.{ℕ, ◌≡◌, ◌≢◌, true}
use Rattle.sig_types.specs.declared.frame.Mode.{Mode}
use Rattle.sig_types.specs.declared.frame.Mode.TheVariants.{Seek, Coord}
use Rattle.sig_tables.specs.declared.tables.Tables.{Tables}
use Rattle.sig_tables.specs.Cells.{pattern_of}
use Rattle.sig_tables.specs.Slots.{is_defined, least_service}
use Rattle.sig_tables.specs.Plan.{plan_of}
use Rattle.sig_tables.specs.Layout.{LaidOut, Ordered}
use Rattle.sig_tables.specs.Laying.{EachIs}
use Rattle.pattern_plan.specs.Options.{SplitSays}
use Rattle.tick_context.specs.declared.active_pattern.ActivePattern.{ActivePattern}

-- the stored pattern is pattern n by these tables
pub record ActivePatternIs (b : ActivePattern) (t : Tables) (n : ℕ) : Type 0 where
  pub plan : b.plan ≡ plan_of t n
  pub options : SplitSays b.options t n
  pub services : EachIs b.services (least_service t)
  pub laid : LaidOut b.layout t
  pub ordered : Ordered b.layout t (pattern_of t n).sequence

-- if there is a stored pattern (its number isn't 0), it is what these tables say of it
abbrev pub ActivePatternStands : ActivePattern → Tables → Type 0
ActivePatternStands b t = b.pattern ≢ 0 → ActivePatternIs b t b.pattern

-- in Seek and Coord the stored pattern is that of the mode
abbrev pub IsBound : ActivePattern → Tables → Mode → Type 0
IsBound b t (Seek n) = ActivePatternIs b t n
IsBound b t (Coord n) = ActivePatternIs b t n
IsBound b t mode = Unit {0}

-- in Seek and Coord the pattern of the mode is defined
abbrev pub Names : Tables → Mode → Type 0
Names t (Seek n) = is_defined t n ≡ true
Names t (Coord n) = is_defined t n ≡ true
Names t mode = Unit {0}
