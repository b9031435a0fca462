-- Histories of ticks and inputs in Free: the ticks at which colours change, and the colours.
use Rattle.std.specs.Prelude.{ℕ, zero, suc, Bool, true, false, if◌then◌else◌, List, [], ◌∷◌, ◌++◌, take}
use Rattle.sig_types.specs.declared.frame.Colour.{Colour}
use Rattle.sig_types.specs.declared.frame.Frame.{Frame}
use Rattle.sig_types.specs.Colour.{same_colours}
use Rattle.sig_tables.specs.declared.tables.Tables.{Tables}
use Rattle.sig_tables.specs.Tables.{row}
use Rattle.sig_tables.specs.Cells.{with_row}
use Rattle.sig_tables.specs.Past.{Event, Tick, Input, History}
use Rattle.sig_tables.specs.Decide.{frames}
use Rattle.sig_tables.specs.Standard.{max8}
use Rattle.sig_types.specs.declared.frame.Field.TheVariants.{Veh}

-- n ticks
abbrev pub ticks : ℕ → List Event
ticks zero = []
ticks (suc n) = Tick ∷ ticks n

-- the history of a cabinet that was opened in Free with these tables, with these events
abbrev pub free_history : Tables → List Event → History
free_history t events = record { tables = t; command = 0; clock = 0; events = events }

-- the ticks whose frame shows other colours than the frame before, newest first, and these colours
abbrev pub changes : ℕ → List Frame → List (ℕ × List Colour)
changes n [] = []
changes n (g ∷ []) = []
changes zero (g ∷ f ∷ before) = []
changes (suc n) (g ∷ f ∷ before) =
    if same_colours g.veh f.veh then changes n (f ∷ before) else (suc n, g.veh) ∷ changes n (f ∷ before)

-- only the ticks of these changes
abbrev pub change_ticks : List (ℕ × List Colour) → List ℕ
change_ticks [] = []
change_ticks (x ∷ xs) = x.0 ∷ change_ticks xs

-- the ticks at which a colour changes, among the first n ticks
abbrev pub changed : Tables → ℕ → List ℕ
changed t n = change_ticks (changes n (frames (free_history t (ticks n))))

-- these changes with only the colours of phases 1 to 8
abbrev pub shorten : List (ℕ × List Colour) → List (ℕ × List Colour)
shorten [] = []
shorten (x ∷ xs) = (x.0, take 8 x.1) ∷ shorten xs

-- the ticks at which a colour changes, with the colours of phases 1 to 8
abbrev pub shown : Tables → List Event → ℕ → List (ℕ × List Colour)
shown t events n = shorten (changes n (frames (free_history t events)))

-- the detector of phase p turns on or off
abbrev pub detector : ℕ → Bool → Event
detector p on = Input (Veh p on)

-- cars arrive at detectors 4 and 2 before tick 61; the car at detector 2 leaves before tick 431
abbrev pub two_cars : List Event
two_cars = ticks 90 ++ (detector 2 false ∷ (ticks 370 ++ (detector 2 true ∷ detector 4 true ∷ ticks 60)))

-- the standard tables with a red clearance of three seconds on phase 6
unfoldable pub long_six : Tables
long_six = with_row max8 6 (record (row max8 6) { red_clear = 30 })
