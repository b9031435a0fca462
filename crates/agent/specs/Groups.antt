-- The phase status groups (NTCIP 1202): eight phases as one octet, with the lowest phase in the lowest bit.
use Rattle.std.specs.Prelude.{ℕ, zero, suc, ◌+◌, ◌-◌, ◌*◌, ◌==◌, ◌||◌, not, Bool, if◌then◌else◌}
use Rattle.sig_types.specs.declared.frame.Colour.{Colour}
use Rattle.sig_types.specs.declared.frame.Colour.TheVariants.{Green, Yellow, Clear, Red}
use Rattle.sig_types.specs.declared.frame.Ped.TheVariants.{Walk, Flash, Dont}
use Rattle.sig_types.specs.Colour.{same_colour, same_signal, colour_of, signal_of}
use Rattle.sig_types.specs.PhaseSet.{has}
use Rattle.sig_tables.specs.declared.shown.Shown.{Shown}

-- the phase shows this colour
abbrev pub shows : Shown → ℕ → Colour → Bool
shows s p colour = same_colour (colour_of s.frame p) colour

-- the phase is counted in a column: 2 reds (red or red clearance), 3 yellows, 4 greens, 5 don't walks, 6 pedestrian
-- clears, 7 walks, 8 locked vehicle calls, 9 locked pedestrian calls, 10 phase ons (not red)
abbrev pub counts_in : Shown → ℕ → ℕ → Bool
counts_in s column p =
    if column == 2 then shows s p Red || shows s p Clear
    else if column == 3 then shows s p Yellow
    else if column == 4 then shows s p Green
    else if column == 5 then same_signal (signal_of s.frame p) Dont
    else if column == 6 then same_signal (signal_of s.frame p) Flash
    else if column == 7 then same_signal (signal_of s.frame p) Walk
    else if column == 8 then has s.veh_calls p
    else if column == 9 then has s.ped_calls p
    else not (shows s p Red)

-- a number with one bit for each of this many phases, from `first` on; the first phase has the lowest bit. A bit is 1
-- if the test accepts its phase
abbrev pub bits : (ℕ → Bool) → ℕ → ℕ → ℕ
bits test zero first = 0
bits test (suc more) first = (if test first then 1 else 0) + 2 * bits test more (first + 1)

-- the octet of a group: group 1 has phases 1 to 8, group 2 has phases 9 to 16
abbrev pub group_octet : Shown → ℕ → ℕ → ℕ
group_octet s column group = bits (counts_in s column) 8 (8 * group - 7)
