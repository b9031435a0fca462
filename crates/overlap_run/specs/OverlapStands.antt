-- What the registers of an overlap represent: the ticks so far at which a parent was green, the newest first.
use Rattle.std.specs.Prelude.{ℕ, ◌+◌, ◌-◌, ◌≡◌, ◌≢◌, ◌≤◌, nat_le, Bool, List, [], ◌∷◌}
use Rattle.sig_types.specs.declared.frame.Colour.{Colour}
use Rattle.sig_types.specs.declared.frame.Colour.TheVariants.{Green, Yellow, Clear, Red}
use Rattle.overlap_run.specs.declared.overlap.Timing.{Timing}
use Rattle.overlap_run.specs.declared.overlap.Overlap.{Overlap}
use Rattle.overlap_run.specs.Overlap.{has_trail, run, last_colour, colours}

-- `left` ticks of the trail are left: a parent was last green `trail - left` ticks ago
pub record TrailLeft (trail left : ℕ) (greens : List Bool) : Type 0 where
  pub within : left ≤ trail
  pub last : (n : ℕ) → has_trail n greens ≡ nat_le (trail - left) n

-- how many ticks are left, by the colour of the overlap
abbrev pub IsLeft : ℕ → Timing → List Bool → List Colour → Colour → Type 0
IsLeft left t greens past Green = TrailLeft t.trail left greens
IsLeft left t greens past Yellow = left + run Yellow past ≡ t.yellow
IsLeft left t greens past Clear = left + run Clear past ≡ t.red
IsLeft left t greens past Red = Unit {0}

-- the overlap shows the expected colour at the newest of these ticks, and counts down from there
pub record OverlapStands (o : Overlap) (t : Timing) (greens : List Bool) : Type 0 where
  pub some : greens ≢ []
  pub times : o.times ≡ t
  pub shown : o.shown ≡ last_colour (colours t greens)
  pub left : IsLeft o.left t greens (colours t greens) o.shown

-- the overlap is at tick 0, for any colours of its parents there
abbrev pub IsOpened : Overlap → Timing → Type 0
IsOpened o t = (green : Bool) → OverlapStands o t (green ∷ [])
