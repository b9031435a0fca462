-- The intervals that exceed their time and have not ended when a log ends. They aren't breaches, since a street is safe
-- if its ended intervals have the right length. But a yellow that never ends must be reported.
use Rattle.std.specs.Prelude.{ℕ, ◌+◌, ◌&&◌, nat_lt, max, Bool, if◌then◌else◌, List, [], ◌∷◌, ◌++◌, reverse}
use Rattle.sig_types.specs.declared.frame.Colour.TheVariants.{Yellow, Clear}
use Rattle.sig_types.specs.declared.frame.Ped.TheVariants.{Walk, Flash}
use Rattle.sig_types.specs.Phases.{all_phases}
use Rattle.sig_tables.specs.declared.tables.Tables.{Tables}
use Rattle.sig_tables.specs.Tables.{yellow_time, red_clear_time, walk_time, pedestrian_clear_time}
use Rattle.trace_text.specs.declared.lines.Line.{Line}
use Rattle.trace_text.specs.declared.lines.Line.TheVariants.{F}
use Rattle.safety_laws.specs.Safe.{Indications, told}
use Rattle.judge_laws.specs.declared.Light.{Light}
use Rattle.judge_laws.specs.declared.Light.TheVariants as light
use Rattle.judge_laws.specs.declared.Overrun.{Overrun}
use Rattle.judge_laws.specs.Breaches.{shows, gives, newest, first_of}

-- the last tick of the F lines among these lines, for any cabinet
abbrev pub last_tick : List Line → ℕ
last_tick [] = 0
last_tick (F cab tick veh ped mode counter target version ∷ lines) = max tick (last_tick lines)
last_tick (_ ∷ lines) = last_tick lines

-- an interval that has not ended, with the tick of its first line
abbrev pub overrun_at : ℕ → ℕ → Light → ℕ → Overrun
overrun_at cab phase light since = record { cab = cab; phase = phase; light = light; since = since }

-- the fact holds at the newest line, and at this tick it has held for longer than its time plus the tolerance. `time`
-- gives the time for the first line of the interval
abbrev pub runs_over : ℕ → (Indications → Bool) → (ℕ × Indications → ℕ) → ℕ → List (ℕ × Indications) → Bool
runs_over tolerance holds time tick older =
    holds (newest older) && nat_lt ((first_of holds older).0 + time (first_of holds older) + tolerance) tick

-- a list of the interval if it exceeds its time at this tick, otherwise the empty list
abbrev pub overrun : ℕ → ℕ → ℕ → Light → (Indications → Bool) → (ℕ × Indications → ℕ) → ℕ → List (ℕ × Indications) → List Overrun
overrun tolerance cab phase light holds time tick older =
    if runs_over tolerance holds time tick older then overrun_at cab phase light (first_of holds older).0 ∷ [] else []

-- the intervals of phase p that exceed their time by the tables at their first line: yellow, red clearance, walk,
-- pedestrian clearance
abbrev pub phase_overruns : ℕ → ℕ → (ℕ → Tables) → ℕ → List (ℕ × Indications) → ℕ → List Overrun
phase_overruns tolerance cab tables tick older p =
    overrun tolerance cab p light.Yellow (shows Yellow p) (λ first. yellow_time (tables first.1.version) p) tick older
    ++ (overrun tolerance cab p light.Clear (shows Clear p) (λ first. red_clear_time (tables first.1.version) p) tick older
    ++ (overrun tolerance cab p light.Walk (gives Walk p) (λ first. walk_time (tables first.1.version) p) tick older
    ++ overrun tolerance cab p light.Flash (gives Flash p) (λ first. pedestrian_clear_time (tables first.1.version) p) tick older))

-- the intervals for each of these numbers, in their order
abbrev pub each_overruns : (ℕ → List Overrun) → List ℕ → List Overrun
each_overruns of [] = []
each_overruns of (n ∷ ns) = of n ++ each_overruns of ns

-- the intervals of a cabinet that exceed their time
abbrev pub cabinet_overruns : ℕ → (ℕ → ℕ → Tables) → ℕ → List Line → ℕ → List Overrun
cabinet_overruns tolerance tables tick before cab =
    each_overruns (phase_overruns tolerance cab (tables cab) tick (told cab before)) all_phases

-- the intervals of these cabinets that exceed their time at the last tick of a log
abbrev pub overruns : ℕ → (ℕ → ℕ → Tables) → List ℕ → List Line → List Overrun
overruns tolerance tables cabs lines = each_overruns (cabinet_overruns tolerance tables (last_tick lines) (reverse lines)) cabs
