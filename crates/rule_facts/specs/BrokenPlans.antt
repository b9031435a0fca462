-- What a cabinet shows if its plan breaks one rule: the standard pattern, picked up right after start-up, over one
-- cycle.
use Rattle.std.specs.Prelude.{ℕ, true, false, List, [], ◌∷◌, set}
use Rattle.sig_types.specs.declared.frame.Colour.{Colour}
use Rattle.sig_types.specs.declared.frame.Field.TheVariants.{Veh}
use Rattle.sig_types.specs.declared.frame.Mode.{Mode}
use Rattle.sig_types.specs.Colour.{colour_of}
use Rattle.sig_tables.specs.declared.tables.Tables.{Tables}
use Rattle.sig_tables.specs.Tables.{row}
use Rattle.sig_tables.specs.Past.{Event, Input, History, Moment}
use Rattle.sig_tables.specs.Decide.{past_at}
use Rattle.sig_tables.specs.Seen.{moment_seen}
use Rattle.sig_tables.specs.Standard.{std8}
use Rattle.plan_facts.specs.Rows.{ticks}

-- a cabinet with these tables that commands the standard pattern; its clock makes the pickup on offset. The events have
-- the newest first
abbrev pub commanded : Tables → List Event → History
commanded t events = record { tables = t; command = 1; clock = 840; events = events }

-- what a moment shows of both coordinated phases of the standard pattern
pub record Brief : Type 0 where
  pub tick : ℕ
  pub mode : Mode
  pub counter : ℕ
  pub two : Colour
  pub six : Colour

abbrev pub brief : Moment → Brief
brief m = record { tick = m.number; mode = m.frame.mode; counter = m.frame.counter; two = colour_of m.frame 2; six = colour_of m.frame 6 }

-- what the last moment of a history shows of them
abbrev pub at_last : History → Brief
at_last h = brief (moment_seen (past_at h))

-- the standard tables with a red revert of 25.5 seconds on phase 2 (rule 11: at most what any other phase needs)
unfoldable pub long_revert : Tables
long_revert = record std8 { phases = set std8.phases 1 (record (row std8 2) { red_revert = 255 }) }

-- a car on the left turn of phase 1, in the ring of phase 2, about 16 seconds before the next local zero: 960 ticks
abbrev pub late_turn : Tables → History
late_turn t = commanded t (ticks 160 (Input (Veh 1 false) ∷ ticks 1 (Input (Veh 1 true) ∷ ticks 799 [])))

-- cars that keep the detector of phase 3, in the side street, on: 960 ticks
abbrev pub long_call : Tables → History
long_call t = commanded t (ticks 761 (Input (Veh 3 true) ∷ ticks 199 []))
