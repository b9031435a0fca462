-- Worked traces: an unsafe one for each fault that a street may have, and a safe one in which a preempt shortens a
-- pedestrian clearance.
use Rattle.std.specs.Prelude.{ℕ, ◌==◌, if◌then◌else◌, List, [], ◌∷◌, ◌++◌, replicate, set}
use Rattle.sig_types.specs.declared.frame.Colour.{Colour}
use Rattle.sig_types.specs.declared.frame.Colour.TheVariants.{Green, Yellow, Clear, Red}
use Rattle.sig_types.specs.declared.frame.Ped.{Ped}
use Rattle.sig_types.specs.declared.frame.Ped.TheVariants.{Walk, Flash, Dont}
use Rattle.sig_types.specs.declared.frame.Mode.{Mode}
use Rattle.sig_types.specs.declared.frame.Mode.TheVariants.{Free, Entry}
use Rattle.sig_tables.specs.declared.tables.PhaseList.{PhaseList}
use Rattle.sig_tables.specs.declared.tables.Tables.{Tables}
use Rattle.sig_tables.specs.Tables.{row}
use Rattle.sig_tables.specs.Standard.{max8, no_preempt}
use Rattle.trace_text.specs.declared.lines.Line.{Line}
use Rattle.trace_text.specs.declared.lines.Line.TheVariants.{F}
use Rattle.safety_laws.specs.Safe.{Safe, intersection_of}

-- the trace isn't safe with these tables of each version
abbrev pub IsRefusedWith : (ℕ → Tables) → List Line → Type 0
IsRefusedWith tables lines = ¬ Safe (intersection_of 1 tables lines)

-- the trace isn't safe with the tables max8
abbrev pub IsRefused : List Line → Type 0
IsRefused lines = IsRefusedWith (λ version. max8) lines

-- the F line of cabinet 1 at a tick, with these colours and signals of the first four phases; all others show Red and
-- Dont
abbrev pub first_line : ℕ → List Colour → List Ped → Line
first_line tick colours signals = F 1 tick (colours ++ replicate 12 Red) (signals ++ replicate 12 Dont) Free 0 0 0

-- the F line of cabinet 1 at a tick of this mode and version, with this colour and signal of phase 2; all others show
-- Red and Dont
abbrev pub line_in : Mode → ℕ → ℕ → Colour → Ped → Line
line_in mode version tick colour signal =
    F 1 tick (Red ∷ colour ∷ replicate 14 Red) (Dont ∷ signal ∷ replicate 14 Dont) mode 0 0 version

-- the same in Free, under the opening tables
abbrev pub second_line : ℕ → Colour → Ped → Line
second_line tick colour signal = line_in Free 0 tick colour signal

-- phases 1 and 2 of one ring are Green together
abbrev pub conflict : List Line
conflict = first_line 0 (Green ∷ Green ∷ Red ∷ Red ∷ []) (replicate 4 Dont) ∷ []

-- phases 2 and 4, which conflict, both show Walk on Green; conflicting walks imply conflicting colours
abbrev pub two_walks : List Line
two_walks = first_line 0 (Red ∷ Green ∷ Red ∷ Green ∷ []) (Dont ∷ Walk ∷ Dont ∷ Walk ∷ []) ∷ []

-- phase 9, which isn't enabled, is Green
abbrev pub disabled_lit : List Line
disabled_lit = F 1 0 (replicate 8 Red ++ Green ∷ replicate 7 Red) (replicate 16 Dont) Free 0 0 0 ∷ []

-- phase 2 goes from Green to Red
abbrev pub no_yellow : List Line
no_yellow = second_line 0 Green Dont ∷ second_line 100 Red Dont ∷ []

-- phase 2 is Yellow for 39 ticks instead of 40
abbrev pub short_yellow : List Line
short_yellow = second_line 0 Yellow Dont ∷ second_line 39 Clear Dont ∷ []

-- phase 2 is Yellow for 41 ticks instead of 40
abbrev pub long_yellow : List Line
long_yellow = second_line 0 Yellow Dont ∷ second_line 41 Clear Dont ∷ []

-- phase 2 goes from Yellow to Red, although its red clearance is 15 ticks
abbrev pub no_clear : List Line
no_clear = second_line 0 Yellow Dont ∷ second_line 40 Red Dont ∷ []

-- phase 2 shows red clearance for 14 ticks instead of 15
abbrev pub short_clear : List Line
short_clear = second_line 0 Clear Dont ∷ second_line 14 Red Dont ∷ []

-- phase 2 shows red clearance for 16 ticks instead of 15
abbrev pub long_clear : List Line
long_clear = second_line 0 Clear Dont ∷ second_line 16 Red Dont ∷ []

-- phase 2 is Green for 99 ticks, although its minimum green is 100
abbrev pub short_green : List Line
short_green = second_line 0 Green Dont ∷ second_line 99 Yellow Dont ∷ []

-- Walk lasts 69 ticks instead of 70
abbrev pub short_walk : List Line
short_walk = second_line 0 Green Walk ∷ second_line 69 Green Flash ∷ []

-- Walk lasts 71 ticks instead of 70
abbrev pub long_walk : List Line
long_walk = second_line 0 Green Walk ∷ second_line 71 Green Flash ∷ []

-- Dont follows Walk, although the pedestrian clearance is 120 ticks
abbrev pub no_flash : List Line
no_flash = second_line 0 Green Walk ∷ second_line 70 Green Dont ∷ []

-- Flash lasts 119 ticks instead of 120
abbrev pub short_flash : List Line
short_flash = second_line 0 Green Flash ∷ second_line 119 Green Dont ∷ []

-- Flash lasts 121 ticks instead of 120
abbrev pub long_flash : List Line
long_flash = second_line 0 Green Flash ∷ second_line 121 Green Dont ∷ []

-- Walk is shown while phase 2 is Red
abbrev pub walk_on_red : List Line
walk_on_red = second_line 0 Red Walk ∷ []

-- max8 as version 0; later versions have a yellow of 50 ticks on phase 2
unfoldable pub slow_yellow : ℕ → Tables
slow_yellow version =
    if version == 0 then max8 else record max8 { phases = set max8.phases 1 (record (row max8 2) { yellow_change = 50 }) }

-- a Yellow that began with a time of 40 ticks lasts 50, the time of tables that arrived meanwhile
abbrev pub newest_yellow : List Line
newest_yellow = second_line 0 Yellow Dont ∷ line_in Free 1 10 Yellow Dont ∷ line_in Free 1 50 Clear Dont ∷ []

-- max8 with a preempt that serves these phases and leaves other phases 50 ticks of green, 40 of walk and 80 of
-- pedestrian clearance
unfoldable pub preempted : PhaseList → ℕ → Tables
preempted served version = record max8 {
  preempts = set max8.preempts 0 (record no_preempt {
    minimum_green = 5;
    minimum_walk = 4;
    enter_pedestrian_clear = 8;
    dwell_phases = served;
  });
}

-- on the way to the preempt's phases, phase 2 is Green for 49 ticks, although the preempt leaves it 50
abbrev pub short_green_on_entry : List Line
short_green_on_entry = second_line 0 Green Dont ∷ line_in (Entry 1) 0 49 Yellow Dont ∷ []

-- on the way to the preempt's phases, Yellow lasts 39 ticks instead of 40; no preempt shortens a yellow
abbrev pub short_yellow_on_entry : List Line
short_yellow_on_entry = second_line 0 Yellow Dont ∷ line_in (Entry 1) 0 39 Clear Dont ∷ []

-- on the way to the preempt's phases, Walk lasts 39 ticks, although the preempt leaves it 40
abbrev pub short_walk_on_entry : List Line
short_walk_on_entry = second_line 0 Green Walk ∷ line_in (Entry 1) 0 39 Green Flash ∷ []

-- on the way to the preempt's phases, Flash lasts 79 ticks, although the preempt leaves it 80
abbrev pub short_flash_on_entry : List Line
short_flash_on_entry = second_line 0 Green Flash ∷ line_in (Entry 1) 0 79 Green Dont ∷ []

-- Flash lasts the 80 ticks that the preempt leaves of its 120; the preempt is called during the Flash
abbrev pub cut_flash : List Line
cut_flash = second_line 0 Green Flash ∷ line_in (Entry 1) 0 30 Green Flash ∷ line_in (Entry 1) 0 80 Green Dont ∷ []
