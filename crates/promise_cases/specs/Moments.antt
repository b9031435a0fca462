-- Moments of a cabinet with the standard pattern commanded, each with one broken promise of coordination. The newest is
-- the first.
use Rattle.std.specs.Prelude.{ℕ, zero, suc, ◌+◌, List, [], ◌∷◌, replicate}
use Rattle.sig_types.specs.declared.frame.Colour.{Colour}
use Rattle.sig_types.specs.declared.frame.Colour.TheVariants.{Green, Red}
use Rattle.sig_types.specs.declared.frame.Mode.TheVariants.{Coord}
use Rattle.sig_tables.specs.Past.{Moment, History, first_frame, first_moment}
use Rattle.sig_tables.specs.Decide.{past_at}
use Rattle.sig_tables.specs.Standard.{std8}
use Rattle.plan_facts.specs.Disturbances.{drift_of}
use Rattle.plan_facts.specs.Meets.{Meets, MeetsEach}

-- the moment before any tick, with the standard pattern commanded
abbrev pub opened : Moment
opened = record (first_moment std8) { command = 1 }

-- the moment of this tick in the standard pattern, with this colour of its coordinated phases, 2 and 6
abbrev pub moment_of : ℕ → Colour → ℕ → ℕ → Moment
moment_of tick colour counter target = record (first_moment std8) {
  number = tick;
  clock = tick;
  command = 1;
  frame = record first_frame {
    veh = Red ∷ colour ∷ Red ∷ Red ∷ Red ∷ colour ∷ replicate 10 Red;
    mode = Coord 1;
    counter = counter;
    target = target;
  };
}

-- n moments with the coordinated phases Green, this counter and this target, after `ticks` ticks
abbrev pub standing : ℕ → ℕ → ℕ → ℕ → List Moment → List Moment
standing zero ticks counter target past = past
standing (suc n) ticks counter target past = moment_of (suc n + ticks) Green counter target ∷ standing n ticks counter target past

-- a local zero with the coordinated phases Red
abbrev pub red_zero : List Moment
red_zero = moment_of 1 Red 0 0 ∷ opened ∷ []

-- n ticks without a local zero
abbrev pub without_zero : ℕ → List Moment
without_zero n = standing n 0 5 5 (opened ∷ [])

-- a local zero on offset, and then n ticks at which counter and target differ
abbrev pub off_target : ℕ → List Moment
off_target n = standing n 1 5 6 (moment_of 1 Green 0 0 ∷ opened ∷ [])

-- a history that keeps the promises of coordination keeps them at each of its moments, with the drift of its clock
abbrev pub MeetsAsked : Type 0
MeetsAsked = (h : History) → Meets h → MeetsEach (drift_of (past_at h)) (past_at h).moments
