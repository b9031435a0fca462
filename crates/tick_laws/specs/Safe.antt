-- Safety of the colours of a history. Lists of moments have the newest first.
use Rattle.std.specs.Prelude.{ℕ, ◌≡◌, ◌≢◌, ◌≤◌, ◌<◌, ◌⊎◌, not, Bool, true, ◌==◌, if◌then◌else◌, List, ◌∷◌}
use Rattle.sig_types.specs.declared.frame.Colour.{Colour}
use Rattle.sig_types.specs.declared.frame.Colour.TheVariants.{Green, Yellow, Clear, Red}
use Rattle.sig_types.specs.declared.frame.Frame.{Frame}
use Rattle.sig_types.specs.Phases.{is_phase, is_in}
use Rattle.sig_types.specs.Colour.{same_colour, colour_of}
use Rattle.sig_tables.specs.declared.tables.Tables.{Tables}
use Rattle.sig_tables.specs.Tables.{ring_of, is_enabled, yellow_time, red_clear_time, least_green}
use Rattle.sig_tables.specs.Sides.{are_incompatible}
use Rattle.sig_tables.specs.Modes.{stage_of}
use Rattle.sig_tables.specs.Goals.{goal_in, lesser_green}
use Rattle.sig_tables.specs.Past.{Moment}
use Rattle.sig_tables.specs.Looking.{last_frame, run, latched}
use Rattle.tick_laws.specs.Each.{EachMoment}

-- phase p is on: it shows Green, Yellow or Clear
abbrev pub is_on : Frame → ℕ → Bool
is_on f p = not (same_colour (colour_of f p) Red)

-- no two conflicting phases are on
abbrev pub Apart : Tables → Frame → Type 0
Apart t f = (p q : ℕ) → are_incompatible t p q ≡ true → is_on f p ≡ true → is_on f q ≡ true → ⊥

-- at most one phase of a ring is on
abbrev pub OneEach : Tables → Frame → Type 0
OneEach t f = (p q : ℕ) → is_enabled t p ≡ true → is_enabled t q ≡ true → ring_of t p ≡ ring_of t q
    → is_on f p ≡ true → is_on f q ≡ true → p ≡ q

-- each phase that is on is enabled
abbrev pub OnlyEnabled : Tables → Frame → Type 0
OnlyEnabled t f = (p : ℕ) → is_phase p ≡ true → is_on f p ≡ true → is_enabled t p ≡ true

-- at each tick no two conflicting phases are on
abbrev pub EachApart : List Moment → Type 0
EachApart moments = EachMoment (λ past m. Apart m.tables m.frame) moments

-- at each tick at most one phase of a ring is on
abbrev pub EachOne : List Moment → Type 0
EachOne moments = EachMoment (λ past m. OneEach m.tables m.frame) moments

-- at each tick each phase that is on is enabled
abbrev pub EachEnabled : List Moment → Type 0
EachEnabled moments = EachMoment (λ past m. OnlyEnabled m.tables m.frame) moments

-- if the yellow or the red clearance of p ends at m, it lasted exactly its time by the tables at its first tick
pub record ClearanceEnds (past : List Moment) (m : Moment) (p : ℕ) : Type 0 where
  pub yellow : colour_of (last_frame past) p ≡ Yellow → colour_of m.frame p ≢ Yellow
      → run p Yellow past ≡ yellow_time (latched p Yellow m.tables past) p
  pub clear : colour_of (last_frame past) p ≡ Clear → colour_of m.frame p ≢ Clear
      → run p Clear past ≡ red_clear_time (latched p Clear m.tables past) p

-- each yellow and each red clearance of each phase lasted exactly this time when it ended
abbrev pub EachClearanceEnds : List Moment → Type 0
EachClearanceEnds moments = EachMoment (λ past m. (p : ℕ) → is_phase p ≡ true → ClearanceEnds past m p) moments

-- the shortest green of phase p that may end at m, if the phase has this minimum green: less if p makes way for a
-- preempt
abbrev pub least_until : Moment → ℕ → ℕ → ℕ
least_until m p time =
    if is_in (goal_in m.tables m.frame.mode) p then time else lesser_green m.tables (stage_of m.frame.mode) time

-- if the green of p ends at m, it lasted at least the minimum green by the tables at its first tick, or what a preempt
-- leaves of it
abbrev pub GreenEnds : List Moment → Moment → ℕ → Type 0
GreenEnds past m p = colour_of (last_frame past) p ≡ Green → colour_of m.frame p ≢ Green
    → least_until m p (least_green (latched p Green m.tables past) p) ≤ run p Green past

-- each green of each phase lasted at least this long when it ended
abbrev pub EachGreenEnds : List Moment → Type 0
EachGreenEnds moments = EachMoment (λ past m. (p : ℕ) → is_phase p ≡ true → GreenEnds past m p) moments

-- the next colour of p is the same, or the one that follows: Yellow after Green, Clear after Yellow, Red after Clear,
-- Green after Red. If the tables in force have no red clearance, Red follows Yellow
abbrev pub ColourFollows : Tables → ℕ → Colour → Colour → Type 0
ColourFollows now p Green next = (next ≡ Green) ⊎ (next ≡ Yellow)
ColourFollows now p Yellow next = (next ≡ Yellow) ⊎ (next ≡ (if red_clear_time now p == 0 then Red else Clear))
ColourFollows now p Clear next = (next ≡ Clear) ⊎ (next ≡ Red)
ColourFollows now p Red next = (next ≡ Red) ⊎ (next ≡ Green)

-- from each tick to the next, the colours of each phase follow in this order
abbrev pub EachFollows : List Moment → Type 0
EachFollows moments =
    EachMoment
    (λ past m. (p : ℕ) → is_phase p ≡ true → ColourFollows m.tables p (colour_of (last_frame past) p) (colour_of m.frame p))
    moments

-- a yellow or a red clearance that p shows at m has not exceeded its time by the tables at its first tick; a yellow
-- only if that time is at least one tick
pub record Within (past : List Moment) (m : Moment) (p : ℕ) : Type 0 where
  pub yellow : 0 < yellow_time (latched p Yellow m.tables (m ∷ past)) p
      → run p Yellow (m ∷ past) ≤ yellow_time (latched p Yellow m.tables (m ∷ past)) p
  pub clear : run p Clear (m ∷ past) ≤ red_clear_time (latched p Clear m.tables (m ∷ past)) p

-- at each tick no yellow and no red clearance has exceeded its time
abbrev pub EachWithin : List Moment → Type 0
EachWithin moments = EachMoment (λ past m. (p : ℕ) → is_phase p ≡ true → Within past m p) moments

-- if p shows Yellow at m, its yellow change was at least 3 seconds by the tables at the first tick of the yellow
abbrev pub LongYellow : List Moment → Moment → ℕ → Type 0
LongYellow past m p = colour_of m.frame p ≡ Yellow → 30 ≤ yellow_time (latched p Yellow m.tables (m ∷ past)) p

-- at each tick the yellow of each phase that shows Yellow is at least 3 seconds
abbrev pub EachLongYellow : List Moment → Type 0
EachLongYellow moments = EachMoment (λ past m. (p : ℕ) → is_phase p ≡ true → LongYellow past m p) moments
