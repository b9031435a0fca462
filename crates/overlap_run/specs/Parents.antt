-- When a parent of an overlap is green, by the F lines of a cabinet. A display lasts until the next F line.
use Rattle.std.specs.Prelude.{ℕ, ◌+◌, ◌≡◌, ◌≤◌, nat_le, Bool, false, if◌then◌else◌, List, [], ◌∷◌, drop}
use Rattle.sig_types.specs.declared.frame.Colour.{Colour}
use Rattle.sig_types.specs.declared.frame.Colour.TheVariants.{Green}
use Rattle.sig_types.specs.declared.frame.Frame.{Frame}
use Rattle.sig_types.specs.declared.phase_set.PhaseSet.{PhaseSet}
use Rattle.sig_types.specs.PhaseSet.{phases_of}
use Rattle.sig_types.specs.Colour.{same_colour, colour_in}
use Rattle.sig_types.specs.Phases.{some}

-- the phases of a set, in increasing order
unfoldable pub parents_of : PhaseSet → List ℕ
parents_of parents = phases_of parents

-- one of these phases is green in these colours
abbrev pub shows_green : List ℕ → List Colour → Bool
shows_green parents veh = some (λ p. same_colour (colour_in veh p) Green) parents

-- whether a parent is green at a tick, by the last of these displays that isn't after it; if there is none, the
-- answer is `before`
abbrev pub green_by : List ℕ → ℕ → Bool → List (ℕ × Frame) → Bool
green_by parents tick before [] = before
green_by parents tick before (f ∷ frames) = green_by parents tick (if nat_le f.0 tick then shows_green parents f.1.veh else before) frames

-- whether a parent is green at a tick, if none is green before the first of these displays
abbrev pub green_at : List ℕ → List (ℕ × Frame) → ℕ → Bool
green_at parents frames tick = green_by parents tick false frames

-- the ticks of these displays increase. The first isn't before `first`, and the last is before `end`
abbrev pub Rise : ℕ → List (ℕ × Frame) → ℕ → Type 0
Rise first [] end = first ≤ end
Rise first (f ∷ frames) end = (first ≤ f.0) × Rise (f.0 + 1) frames end

-- these are the displays of a cabinet that ran this many ticks: the first is at tick 0, their ticks increase, and
-- none is after the last tick
abbrev pub AreFrames : List (ℕ × Frame) → ℕ → Type 0
AreFrames [] ticks = ⊥
AreFrames (f ∷ frames) ticks = (f.0 ≡ 0) × Rise 1 frames (ticks + 1)

-- `green` says whether a parent is green at this tick. `next` is the number of displays that aren't after the tick;
-- the later displays are after it and before `end`
pub record IsSeen (parents : List ℕ) (frames : List (ℕ × Frame)) (end tick : ℕ) (green : Bool) (next : ℕ) : Type 0 where
  pub seen : (later : ℕ) → tick ≤ later → green_at parents frames later ≡ green_by parents later green (drop next frames)
  pub rise : Rise (tick + 1) (drop next frames) end
