-- The breaches that the lines of a log show. Each is reported at the line that shows it, by looking back over the lines
-- before it.
use Rattle.std.specs.Prelude.{ℕ, ◌+◌, ◌-◌, ◌<◌, ◌&&◌, ◌||◌, not, nat_lt, nat_le, Bool, false, true, if◌then◌else◌, List, [], ◌∷◌, ◌++◌, get_or, reverse}
use Rattle.sig_types.specs.declared.frame.Colour.{Colour}
use Rattle.sig_types.specs.declared.frame.Colour.TheVariants.{Green, Yellow, Clear, Red}
use Rattle.sig_types.specs.declared.frame.Ped.{Ped}
use Rattle.sig_types.specs.declared.frame.Ped.TheVariants.{Walk, Flash, Dont}
use Rattle.sig_types.specs.Colour.{same_colour, same_signal}
use Rattle.sig_types.specs.Phases.{all_phases}
use Rattle.sig_tables.specs.declared.tables.Tables.{Tables}
use Rattle.sig_tables.specs.Tables.{is_enabled, least_green, yellow_time, red_clear_time, walk_time, pedestrian_clear_time}
use Rattle.sig_tables.specs.Sides.{are_incompatible}
use Rattle.trace_text.specs.declared.lines.Line.{Line}
use Rattle.trace_text.specs.declared.lines.Line.TheVariants.{F}
use Rattle.safety_laws.specs.Safe.{Indications, dark, told, makes_way_for, green_due, walk_due, clearance_due, next_colour, next_signal}
use Rattle.judge_laws.specs.declared.Terms.{Terms}
use Rattle.judge_laws.specs.declared.Clause.{Clause}
use Rattle.judge_laws.specs.declared.Clause.TheVariants.{Apart, Order, Clearance, ShortGreen, Pedestrian, OnGreen}
use Rattle.judge_laws.specs.declared.Breach.{Breach}
use Rattle.judge_laws.specs.Joined.{knows_last, saw_beginning}

-- the terms for a log that begins at tick 0 and is judged to the tick; terms with a tolerance; and terms with a
-- tolerance for a log that begins in the middle
abbrev pub exact : Terms
exact = record { tolerance = 0; joined = false }

abbrev pub within : ℕ → Bool → Terms
within tolerance joined = record { tolerance = tolerance; joined = joined }

abbrev pub joined_within : ℕ → Terms
joined_within tolerance = within tolerance true

-- the colour and the pedestrian signal of phase p
abbrev pub colour_of : Indications → ℕ → Colour
colour_of x p = get_or x.colours (p - 1) Green

abbrev pub signal_of : Indications → ℕ → Ped
signal_of x p = get_or x.signals (p - 1) Walk

-- phase p shows this colour; phase p shows this pedestrian signal
abbrev pub shows : Colour → ℕ → Indications → Bool
shows colour p x = same_colour (colour_of x p) colour

abbrev pub gives : Ped → ℕ → Indications → Bool
gives signal p x = same_signal (signal_of x p) signal

-- what the newest line of a cabinet shows; before any line every phase shows Red and Dont. Lists have the newest line
-- first
abbrev pub newest : List (ℕ × Indications) → Indications
newest [] = dark
newest (line ∷ older) = line.1

-- the first line of the present interval of a fact: the newest line before which the fact did not hold
abbrev pub first_of : (Indications → Bool) → List (ℕ × Indications) → ℕ × Indications
first_of holds [] = (0, dark)
first_of holds (line ∷ older) = if holds (newest older) then first_of holds older else line

-- a line ends an interval: the fact held at the line before it, and doesn't hold at this line
abbrev pub ends : (Indications → Bool) → List (ℕ × Indications) → ℕ × Indications → Bool
ends holds older line = holds (newest older) && not (holds line.1)

-- an interval, from its first line to the line that ends it, lasted at least `time` ticks, or at most `time` ticks,
-- within a tolerance
abbrev pub lasts_at_least : ℕ → ℕ → ℕ × Indications → ℕ × Indications → Bool
lasts_at_least tolerance time first end = nat_le (first.0 + time) (end.0 + tolerance)

abbrev pub lasts_at_most : ℕ → ℕ → ℕ × Indications → ℕ × Indications → Bool
lasts_at_most tolerance time first end = nat_le end.0 (first.0 + time + tolerance)

-- a line ends an interval of a wrong length whose beginning the log shows
abbrev pub ends_wrong : Bool → (Indications → Bool) → (ℕ × Indications → ℕ × Indications → Bool) → List (ℕ × Indications) → ℕ × Indications → Bool
ends_wrong joined holds lasts older line = ends holds older line && saw_beginning joined holds older && not (lasts (first_of holds older) line)

-- an interval of phase p has a correct length: its time by the tables at its first line. A green, a walk or a
-- pedestrian clearance may be as short as a preempt allows at the line that ends the interval
module _ (tolerance : ℕ) (tables : ℕ → Tables) (p : ℕ) where
  abbrev pub yellow_lasts : ℕ × Indications → ℕ × Indications → Bool
  yellow_lasts first end =
      lasts_at_least tolerance (yellow_time (tables first.1.version) p) first end
      && lasts_at_most tolerance (yellow_time (tables first.1.version) p) first end

  abbrev pub clear_lasts : ℕ × Indications → ℕ × Indications → Bool
  clear_lasts first end =
      lasts_at_least tolerance (red_clear_time (tables first.1.version) p) first end
      && lasts_at_most tolerance (red_clear_time (tables first.1.version) p) first end

  abbrev pub green_lasts : ℕ × Indications → ℕ × Indications → Bool
  green_lasts first end =
      lasts_at_least tolerance (green_due (makes_way_for (tables end.1.version) end.1.mode p) (least_green (tables first.1.version) p)) first end

  abbrev pub walk_lasts : ℕ × Indications → ℕ × Indications → Bool
  walk_lasts first end =
      lasts_at_least tolerance (walk_due (makes_way_for (tables end.1.version) end.1.mode p) (walk_time (tables first.1.version) p)) first end
      && lasts_at_most tolerance (walk_time (tables first.1.version) p) first end

  abbrev pub flash_lasts : ℕ × Indications → ℕ × Indications → Bool
  flash_lasts first end =
      lasts_at_least tolerance (clearance_due (makes_way_for (tables end.1.version) end.1.mode p) (pedestrian_clear_time (tables first.1.version) p)) first end
      && lasts_at_most tolerance (pedestrian_clear_time (tables first.1.version) p) first end

-- two conflicting phases are on together, or show Walk or Flash together
abbrev pub are_together : Tables → Indications → ℕ → ℕ → Bool
are_together t x p q =
    are_incompatible t p q && not ((shows Red p x || shows Red q x) && (gives Dont p x || gives Dont q x))

-- a disabled phase doesn't show Red and Dont
abbrev pub is_lit_off : Tables → Indications → ℕ → Bool
is_lit_off t x p = not (is_enabled t p) && not (shows Red p x && gives Dont p x)

-- the colour of phase p, or its pedestrian signal, is neither the last one nor the one that follows the last one
abbrev pub is_out_of_order : Tables → Indications → Indications → ℕ → Bool
is_out_of_order t last x p =
    not ((same_colour (colour_of x p) (colour_of last p) || same_colour (colour_of x p) (next_colour t p (colour_of last p)))
    && (same_signal (signal_of x p) (signal_of last p) || same_signal (signal_of x p) (next_signal t x.mode p (signal_of last p))))

-- a line breaks the order of phase p, compared with what the cabinet showed last; a line of tick 0 breaks no order
abbrev pub breaks_order : Bool → (ℕ → Tables) → ℕ → List (ℕ × Indications) → ℕ × Indications → Bool
breaks_order joined tables p older line =
    nat_lt 0 line.0 && knows_last joined older && is_out_of_order (tables line.1.version) (newest older) line.1 p

-- a line ends a yellow or a red clearance of phase p that was too short or too long
abbrev pub ends_clearance_wrong : Terms → (ℕ → Tables) → ℕ → List (ℕ × Indications) → ℕ × Indications → Bool
ends_clearance_wrong terms tables p older line =
    ends_wrong terms.joined (shows Yellow p) (yellow_lasts terms.tolerance tables p) older line
    || ends_wrong terms.joined (shows Clear p) (clear_lasts terms.tolerance tables p) older line

-- a line ends a green of phase p too early
abbrev pub ends_green_wrong : Terms → (ℕ → Tables) → ℕ → List (ℕ × Indications) → ℕ × Indications → Bool
ends_green_wrong terms tables p older line = ends_wrong terms.joined (shows Green p) (green_lasts terms.tolerance tables p) older line

-- a line ends a walk or a pedestrian clearance of phase p too early or too late
abbrev pub ends_walk_wrong : Terms → (ℕ → Tables) → ℕ → List (ℕ × Indications) → ℕ × Indications → Bool
ends_walk_wrong terms tables p older line =
    ends_wrong terms.joined (gives Walk p) (walk_lasts terms.tolerance tables p) older line
    || ends_wrong terms.joined (gives Flash p) (flash_lasts terms.tolerance tables p) older line

-- a breach at the tick of a line
abbrev pub breach_at : ℕ → ℕ → Clause → ℕ → ℕ → Breach
breach_at cab tick clause phase other = record { cab = cab; tick = tick; clause = clause; phase = phase; other = other }

-- a list of this breach if it is found, otherwise the empty list
abbrev pub found : Bool → Breach → List Breach
found is_found breach = if is_found then breach ∷ [] else []

-- the breaches of each of these phases, in their order
abbrev pub each : (ℕ → List Breach) → List ℕ → List Breach
each of [] = []
each of (p ∷ phases) = of p ++ each of phases

-- the breaches of phase p that a line of a cabinet shows, given the older lines; a pair of phases is reported at the
-- lower number
abbrev pub phase_breaches : Terms → ℕ → (ℕ → Tables) → List (ℕ × Indications) → ℕ × Indications → ℕ → List Breach
phase_breaches terms cab tables older line p =
    each (λ q. found (nat_lt p q && are_together (tables line.1.version) line.1 p q) (breach_at cab line.0 Apart p q)) all_phases
    ++ (found (is_lit_off (tables line.1.version) line.1 p) (breach_at cab line.0 Apart p 0)
    ++ (found (breaks_order terms.joined tables p older line) (breach_at cab line.0 Order p 0)
    ++ (found (ends_clearance_wrong terms tables p older line) (breach_at cab line.0 Clearance p 0)
    ++ (found (ends_green_wrong terms tables p older line) (breach_at cab line.0 ShortGreen p 0)
    ++ (found (ends_walk_wrong terms tables p older line) (breach_at cab line.0 Pedestrian p 0)
    ++ found (not (gives Dont p line.1 || shows Green p line.1)) (breach_at cab line.0 OnGreen p 0))))))

-- the breaches of all phases that a line of a cabinet shows
abbrev pub frame_breaches : Terms → ℕ → (ℕ → Tables) → List (ℕ × Indications) → ℕ × Indications → List Breach
frame_breaches terms cab tables older line = each (phase_breaches terms cab tables older line) all_phases

-- the breaches that a line shows, given the lines before it (newest first); only F lines show breaches
abbrev pub line_breaches : Terms → (ℕ → ℕ → Tables) → List Line → Line → List Breach
line_breaches terms tables before (F cab tick veh ped mode counter target version) =
    frame_breaches terms cab (tables cab) (told cab before) (tick, record { colours = veh; signals = ped; mode = mode; version = version })
line_breaches terms tables before _ = []

-- the breaches of these lines, which are given newest first
abbrev pub breaches_back : Terms → (ℕ → ℕ → Tables) → List Line → List Breach
breaches_back terms tables [] = []
breaches_back terms tables (line ∷ before) = breaches_back terms tables before ++ line_breaches terms tables before line

-- the breaches of a log, given the tables of each cabinet and version
abbrev pub breaches : Terms → (ℕ → ℕ → Tables) → List Line → List Breach
breaches terms tables lines = breaches_back terms tables (reverse lines)

-- the newest line of a cabinet has an earlier tick than `tick`; the ticks fall from the newest line to the oldest
abbrev pub Below : ℕ → List (ℕ × Indications) → Type 0
Below tick [] = Unit {0}
Below tick (line ∷ older) = line.0 < tick

abbrev pub Falls : List (ℕ × Indications) → Type 0
Falls [] = Unit {0}
Falls (line ∷ older) = Below line.0 older × Falls older

-- the ticks of a cabinet's lines rise from line to line
abbrev pub Rising : ℕ → List Line → Type 0
Rising cab lines = Falls (told cab (reverse lines))
