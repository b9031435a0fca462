-- Safety of the pedestrian signals of a history. Lists of moments have the newest first.
use Rattle.std.specs.Prelude.{ℕ, ◌≡◌, ◌≢◌, ◌≤◌, ◌⊎◌, true, false, ◌==◌, max, min, if◌then◌else◌, List, ◌∷◌}
use Rattle.sig_types.specs.declared.frame.Colour.TheVariants.{Green}
use Rattle.sig_types.specs.declared.frame.Ped.TheVariants.{Walk, Flash, Dont}
use Rattle.sig_types.specs.declared.frame.Frame.{Frame}
use Rattle.sig_types.specs.Phases.{is_phase}
use Rattle.sig_types.specs.Colour.{colour_of, signal_of}
use Rattle.sig_tables.specs.declared.tables.Tables.{Tables}
use Rattle.sig_tables.specs.Tables.{is_enabled, walk_time, pedestrian_clear_time}
use Rattle.sig_tables.specs.Sides.{are_incompatible}
use Rattle.sig_tables.specs.Lesser.{Lesser, InFull, AtMost, lesser_clear}
use Rattle.sig_tables.specs.Goals.{lesser_in}
use Rattle.sig_tables.specs.Past.{Moment}
use Rattle.sig_tables.specs.Looking.{last_frame, signal_run, signal_latched}
use Rattle.tick_laws.specs.Safe.{is_on}
use Rattle.tick_laws.specs.Each.{EachMoment}

-- only a Green phase shows Walk or Flash
abbrev pub OnGreen : Frame → Type 0
OnGreen f = (p : ℕ) → is_phase p ≡ true → (signal_of f p ≡ Dont) ⊎ (colour_of f p ≡ Green)

-- at each tick only Green phases show Walk or Flash
abbrev pub EachOnGreen : List Moment → Type 0
EachOnGreen moments = EachMoment (λ past m. OnGreen m.frame) moments

-- a walk of this time that ends after `ran` ticks has a correct length: exactly its time, or at least what a preempt
-- leaves of it
abbrev pub WalkLasted : Lesser → ℕ → ℕ → Type 0
WalkLasted InFull time ran = ran ≡ time
WalkLasted (AtMost walk clear) time ran = max 1 (min time walk) ≤ ran

-- a pedestrian clearance of this time that ends after `ran` ticks has a correct length
abbrev pub FlashLasted : Lesser → ℕ → ℕ → Type 0
FlashLasted InFull time ran = ran ≡ time
FlashLasted (AtMost walk clear) time ran = min time clear ≤ ran

-- the limits on the times of phase p at m, if p makes way for a preempt; otherwise none
abbrev pub left_at : Moment → ℕ → Lesser
left_at m p = lesser_in m.tables m.frame.mode p

-- if Walk of p ends at m, it lasted its time by the tables at its first tick, or at least what a preempt leaves of it.
-- Flash follows, or Dont if no pedestrian clearance is left
abbrev pub WalkEnds : List Moment → Moment → ℕ → Type 0
WalkEnds past m p = signal_of (last_frame past) p ≡ Walk → signal_of m.frame p ≢ Walk
    → WalkLasted (left_at m p) (walk_time (signal_latched p Walk m.tables past) p) (signal_run p Walk past)
    × (signal_of m.frame p ≡ (if lesser_clear (left_at m p) (pedestrian_clear_time m.tables p) == 0 then Dont else Flash))

-- each walk of each phase ends in this way
abbrev pub EachWalkEnds : List Moment → Type 0
EachWalkEnds moments = EachMoment (λ past m. (p : ℕ) → is_phase p ≡ true → WalkEnds past m p) moments

-- Walk of p begins only after Dont, and ends as above. If Flash of p ends at m, it lasted its time in the same way, and
-- Dont follows
pub record SignalEnds (past : List Moment) (m : Moment) (p : ℕ) : Type 0 where
  pub follows : signal_of m.frame p ≡ Walk → signal_of (last_frame past) p ≢ Walk → signal_of (last_frame past) p ≡ Dont
  pub walk : WalkEnds past m p
  pub flash : signal_of (last_frame past) p ≡ Flash → signal_of m.frame p ≢ Flash
      → FlashLasted (left_at m p) (pedestrian_clear_time (signal_latched p Flash m.tables past) p) (signal_run p Flash past)
      × (signal_of m.frame p ≡ Dont)

-- each pedestrian signal of each phase begins and ends in this way
abbrev pub EachSignalEnds : List Moment → Type 0
EachSignalEnds moments = EachMoment (λ past m. (p : ℕ) → is_phase p ≡ true → SignalEnds past m p) moments

-- a walk that p shows at m has not exceeded its time by the tables at its first tick
abbrev pub WalkWithin : List Moment → Moment → ℕ → Type 0
WalkWithin past m p = signal_run p Walk (m ∷ past) ≤ walk_time (signal_latched p Walk m.tables (m ∷ past)) p

-- a pedestrian clearance that p shows at m has not exceeded its time by the tables at its first tick
abbrev pub FlashWithin : List Moment → Moment → ℕ → Type 0
FlashWithin past m p =
    signal_run p Flash (m ∷ past) ≤ pedestrian_clear_time (signal_latched p Flash m.tables (m ∷ past)) p

-- at each tick no walk has exceeded its time
abbrev pub EachWalkWithin : List Moment → Type 0
EachWalkWithin moments = EachMoment (λ past m. (p : ℕ) → is_phase p ≡ true → WalkWithin past m p) moments

-- at each tick no pedestrian clearance has exceeded its time
abbrev pub EachFlashWithin : List Moment → Type 0
EachFlashWithin moments = EachMoment (λ past m. (p : ℕ) → is_phase p ≡ true → FlashWithin past m p) moments

-- a phase that isn't enabled shows Red and Dont; no two conflicting phases both show Walk or Flash
pub record Quiet (t : Tables) (f : Frame) : Type 0 where
  pub disabled : (p : ℕ) → is_phase p ≡ true → is_enabled t p ≡ false → (is_on f p ≡ false) × (signal_of f p ≡ Dont)
  pub walks : (p q : ℕ) → are_incompatible t p q ≡ true → (signal_of f p ≡ Dont) ⊎ (signal_of f q ≡ Dont)

-- this holds at each tick
abbrev pub EachQuiet : List Moment → Type 0
EachQuiet moments = EachMoment (λ past m. Quiet m.tables m.frame) moments
