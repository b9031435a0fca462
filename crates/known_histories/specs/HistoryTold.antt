-- The results of a history: a line for each tick whose frame shows something new or is a local zero, as in a trace;
-- sums over all ticks, so that each tick counts; and the state at the end.
use Rattle.std.specs.Prelude.{ℕ, ◌+◌, ◌&&◌, not, if◌then◌else◌, List, [], ◌∷◌, ◌++◌, codes}
use Rattle.sig_types.specs.declared.frame.Colour.{Colour}
use Rattle.sig_types.specs.declared.frame.Colour.TheVariants.{Green, Yellow, Clear, Red}
use Rattle.sig_types.specs.declared.frame.Ped.{Ped}
use Rattle.sig_types.specs.declared.frame.Ped.TheVariants.{Walk, Flash, Dont}
use Rattle.sig_types.specs.declared.frame.Mode.{Mode}
use Rattle.sig_types.specs.Colour.{shows_same}
use Rattle.sig_tables.specs.Past.{Past, Moment, History}
use Rattle.sig_tables.specs.Walking.{is_local_zero}
use Rattle.sig_tables.specs.Decide.{past_at}
use Rattle.sig_tables.specs.Seen.{vehicle_seen, pedestrian_seen}
use Rattle.sig_tables.specs.Showing.{command_shown, clock_shown, states_shown}

-- the colours of all phases as letters
abbrev pub letter_of : Colour → List ℕ
letter_of Green = codes "G"
letter_of Yellow = codes "Y"
letter_of Clear = codes "C"
letter_of Red = codes "R"

abbrev pub letters : List Colour → List ℕ
letters [] = []
letters (c ∷ cs) = letter_of c ++ letters cs

-- the pedestrian signals of all phases as letters
abbrev pub signal_letter : Ped → List ℕ
signal_letter Walk = codes "W"
signal_letter Flash = codes "F"
signal_letter Dont = codes "D"

abbrev pub signal_letters : List Ped → List ℕ
signal_letters [] = []
signal_letters (s ∷ ss) = signal_letter s ++ signal_letters ss

-- the line of a frame: the tick, the letters, the mode, the counter, its target and the version
pub record Line : Type 0 where
  pub tick : ℕ
  pub colours : List ℕ
  pub signals : List ℕ
  pub mode : Mode
  pub counter : ℕ
  pub target : ℕ
  pub version : ℕ

abbrev pub line : ℕ → List ℕ → List ℕ → Mode → ℕ → ℕ → ℕ → Line
line tick colours signals mode counter target version = record {
  tick = tick;
  colours = colours;
  signals = signals;
  mode = mode;
  counter = counter;
  target = target;
  version = version;
}

-- the line of a moment
abbrev pub line_of : Moment → Line
line_of m =
    line m.number (letters m.frame.veh) (signal_letters m.frame.ped) m.frame.mode m.frame.counter m.frame.target m.frame.version

-- the lines with that of moment m, if it has one; n is the moment before m
abbrev pub line_before : Moment → Moment → List Line → List Line
line_before m n lines =
    if shows_same n.frame m.frame && not (is_local_zero m.frame.mode m.frame.counter n.frame) then lines else line_of m ∷ lines

-- the lines of these moments, newest first; the first moment has none
abbrev pub lines_from : Moment → List Moment → List Line
lines_from m [] = []
lines_from m (n ∷ past) = line_before m n (lines_from n past)

abbrev pub lines_of : List Moment → List Line
lines_of [] = []
lines_of (m ∷ past) = lines_from m past

-- sums over all ticks
pub record Sums : Type 0 where
  pub counter : ℕ
  pub target : ℕ
  pub command : ℕ
  pub clock : ℕ
  pub active : ℕ

abbrev pub sum_over : (Moment → ℕ) → List Moment → ℕ
sum_over measure [] = 0
sum_over measure (m ∷ []) = 0
sum_over measure (m ∷ n ∷ past) = measure m + sum_over measure (n ∷ past)

abbrev pub sums_of : List Moment → Sums
sums_of past = record {
  counter = sum_over (λ m. m.frame.counter) past;
  target = sum_over (λ m. m.frame.target) past;
  command = sum_over (λ m. m.command) past;
  clock = sum_over (λ m. m.clock) past;
  active = sum_over (λ m. m.active) past;
}

-- all results: at the end the commanded pattern, the clock, the version, the states of the ten requests and the locked
-- calls; then the sums and the lines
pub record HistoryTold : Type 0 where
  pub command : ℕ
  pub clock : ℕ
  pub version : ℕ
  pub requests : List ℕ
  pub vehicle : List ℕ
  pub pedestrian : List ℕ
  pub sums : Sums
  pub lines : List Line

abbrev pub told : Past → HistoryTold
told past = record {
  command = command_shown past;
  clock = clock_shown past;
  version = past.version;
  requests = states_shown past;
  vehicle = vehicle_seen past;
  pedestrian = pedestrian_seen past;
  sums = sums_of past.moments;
  lines = lines_of past.moments;
}

abbrev pub told_of : History → HistoryTold
told_of h = told (past_at h)
