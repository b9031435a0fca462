-- How long a pedestrian signal lasts, in full or shortened.
use Rattle.std.specs.Prelude.{ℕ, ◌+◌, ◌≤◌, List, Option, Some, None}
use Rattle.sig_types.specs.declared.frame.Ped.{Ped}
use Rattle.sig_types.specs.declared.frame.Ped.TheVariants.{Walk, Flash, Dont}
use Rattle.sig_tables.specs.declared.tables.Tables.{Tables}
use Rattle.sig_tables.specs.Tables.{walk_time, pedestrian_clear_time}
use Rattle.sig_tables.specs.Past.{Moment}
use Rattle.sig_tables.specs.Looking.{signal_run, signal_latched}
use Rattle.sig_tables.specs.Lesser.{Lesser, InFull, AtMost}

-- the limits that two numbers of ticks represent; no limits without numbers
abbrev pub lesser_of : Option (ℕ × ℕ) → Lesser
lesser_of None = InFull
lesser_of (Some (walk, clear)) = AtMost walk clear

-- the Walk or Flash that phase p shows lasts at least k more ticks
abbrev pub SignalLasts : ℕ → ℕ → Tables → List Moment → Ped → Type 0
SignalLasts k p now past Walk = signal_run p Walk past + k ≤ walk_time (signal_latched p Walk now past) p
SignalLasts k p now past Flash = signal_run p Flash past + k ≤ pedestrian_clear_time (signal_latched p Flash now past) p
SignalLasts k p now past Dont = Unit {0}
