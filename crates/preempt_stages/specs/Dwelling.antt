-- What a frame in Dwell shows of each phase, for any dwell phases in the tables.
use Rattle.std.specs.Prelude.{ℕ, ◌≡◌, ◌≤◌, ◌==◌, ◌&&◌, ◌||◌, not, Bool, true, false, List, [], ◌∷◌, length}
use Rattle.sig_types.specs.declared.frame.Mode.{Mode}
use Rattle.sig_types.specs.declared.frame.Mode.TheVariants.{Dwell}
use Rattle.sig_types.specs.declared.frame.Frame.{Frame}
use Rattle.sig_types.specs.Phases.{all_phases, is_in, every}
use Rattle.sig_types.specs.Colour.{on_in}
use Rattle.sig_tables.specs.Modes.{same_mode}
use Rattle.sig_tables.specs.Past.{Moment}
use Rattle.sig_tables.specs.Looking.{lasts}
use Rattle.sig_tables.specs.Calls.{is_green}

-- the mode is the dwell of some preempt
abbrev pub is_dwell : Mode → Bool
is_dwell (Dwell i) = true
is_dwell _ = false

-- the mode is the dwell of preempt i
abbrev pub dwells : ℕ → Moment → Bool
dwells i m = same_mode m.frame.mode (Dwell i)

-- phase p isn't on in either ring of the frame
abbrev pub is_off : Frame → ℕ → Bool
is_off f p = not (on_in f 1 == p) && not (on_in f 2 == p)

-- the mode is the dwell of some preempt, and phase p is Green
abbrev pub dwells_green : ℕ → Moment → Bool
dwells_green p m = is_dwell m.frame.mode && is_green m.frame p

-- the mode is the dwell of some preempt, and phase p isn't on in either ring
abbrev pub dwells_off : ℕ → Moment → Bool
dwells_off p m = is_dwell m.frame.mode && is_off m.frame p

-- each of the last n frames is in a dwell and shows each listed phase Green
abbrev pub each_green : ℕ → List ℕ → List Moment → Bool
each_green n xs past = every (λ p. lasts n (dwells_green p) past) xs

-- each of the last n frames is in a dwell, and in none of them a phase is on that isn't listed
abbrev pub each_off : ℕ → List ℕ → List Moment → Bool
each_off n xs past = every (λ p. is_in xs p || lasts n (dwells_off p) past) all_phases

-- the frame's entry for each ring is a phase, or 0
pub record NamesPhases (f : Frame) : Type 0 where
  pub first : on_in f 1 ≤ 16
  pub second : on_in f 2 ≤ 16

-- each frame shows sixteen phases, and its entry for each ring is a phase, or 0
abbrev pub EachFits : List Moment → Type 0
EachFits [] = Unit {0}
EachFits (m ∷ past) = (length m.frame.veh ≡ 16) × NamesPhases m.frame × EachFits past
