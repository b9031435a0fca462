-- The time of a colour or a pedestrian signal, which is read once, at the first tick.
use Rattle.std.specs.Prelude.{ℕ, ◌≡◌, ◌*◌, max, List, ◌∷◌}
use Rattle.sig_types.specs.declared.frame.Colour.{Colour}
use Rattle.sig_types.specs.declared.frame.Colour.TheVariants.{Green, Yellow, Clear, Red}
use Rattle.sig_types.specs.declared.frame.Ped.{Ped}
use Rattle.sig_types.specs.declared.frame.Ped.TheVariants.{Walk, Flash, Dont}
use Rattle.sig_types.specs.Colour.{colour_of, signal_of}
use Rattle.sig_tables.specs.declared.tables.Tables.{Tables}
use Rattle.sig_tables.specs.Tables.{row, least_green, yellow_time, red_clear_time, walk_time, pedestrian_clear_time}
use Rattle.sig_tables.specs.Past.{Moment}
use Rattle.sig_tables.specs.Looking.{last_frame, latched, signal_latched}

-- the time of phase p in a colour by the tables; for Green the minimum, for Red 0
abbrev pub colour_time : Tables → ℕ → Colour → ℕ
colour_time t p Green = least_green t p
colour_time t p Yellow = yellow_time t p
colour_time t p Clear = red_clear_time t p
colour_time t p Red = 0

-- the time of phase p in a pedestrian signal by the tables; 0 for Dont
abbrev pub signal_time : Tables → ℕ → Ped → ℕ
signal_time t p Walk = walk_time t p
signal_time t p Flash = pedestrian_clear_time t p
signal_time t p Dont = 0

-- the cell of the tables that holds the time of a colour
abbrev pub colour_cell : Tables → ℕ → Colour → ℕ
colour_cell t p Green = (row t p).minimum_green
colour_cell t p Yellow = (row t p).yellow_change
colour_cell t p Clear = (row t p).red_clear
colour_cell t p Red = 0

-- the cell of the tables that holds the time of a pedestrian signal
abbrev pub signal_cell : Tables → ℕ → Ped → ℕ
signal_cell t p Walk = (row t p).walk
signal_cell t p Flash = (row t p).pedestrian_clear
signal_cell t p Dont = 0

-- the content of such a cell in ticks
abbrev pub colour_ticks : Colour → ℕ → ℕ
colour_ticks Green cell = max 1 (10 * cell)
colour_ticks colour cell = cell

abbrev pub signal_ticks : ℕ → ℕ
signal_ticks cell = 10 * cell

-- the cell is that of the colour that phase p shows, by the tables at the first moment of its interval
abbrev pub ColourLatched : ℕ → ℕ → List Moment → Type 0
ColourLatched cell p past =
    (now : Tables) → cell ≡ colour_cell (latched p (colour_of (last_frame past) p) now past) p (colour_of (last_frame past) p)

-- the cell is that of the signal that phase p shows, by the tables at the first moment of its interval
abbrev pub SignalLatched : ℕ → ℕ → List Moment → Type 0
SignalLatched cell p past =
    (now : Tables) → cell ≡ signal_cell (signal_latched p (signal_of (last_frame past) p) now past) p (signal_of (last_frame past) p)

-- `new` is `old` after one more moment, which shows phase p in colour `shown` under tables t
abbrev pub ColourSteps : ℕ → ℕ → Colour → Colour → ℕ → Tables → Type 0
ColourSteps old new before shown p t =
    (past : List Moment) (m : Moment) → colour_of (last_frame past) p ≡ before → colour_of m.frame p ≡ shown → m.tables ≡ t
    → ColourLatched old p past → ColourLatched new p (m ∷ past)

-- `new` is `old` after one more moment, which shows phase p in signal `shown` under tables t
abbrev pub SignalSteps : ℕ → ℕ → Ped → Ped → ℕ → Tables → Type 0
SignalSteps old new before shown p t =
    (past : List Moment) (m : Moment) → signal_of (last_frame past) p ≡ before → signal_of m.frame p ≡ shown → m.tables ≡ t
    → SignalLatched old p past → SignalLatched new p (m ∷ past)
