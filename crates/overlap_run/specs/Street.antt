-- An overlap at a cabinet as the street sees it, and what it means that its parents cover it: whenever the overlap
-- isn't red, one of them isn't red either.
use Rattle.std.specs.Prelude.{ℕ, ◌+◌, ◌≡◌, ◌≢◌, ◌<◌, ◌≤◌, Bool, true, List}
use Rattle.sig_types.specs.declared.frame.Colour.{Colour}
use Rattle.sig_types.specs.declared.frame.Colour.TheVariants.{Red}
use Rattle.sig_types.specs.Phases.{is_phase, is_in}
use Rattle.sig_tables.specs.declared.tables.Tables.{Tables}
use Rattle.sig_tables.specs.Tables.{yellow_time, red_clear_time}
use Rattle.sig_tables.specs.Sides.{are_incompatible}
use Rattle.safety_laws.specs.Safe.{Intersection, Safe, colour_at, in_force}
use Rattle.overlap_run.specs.declared.overlap.Timing.{Timing}
use Rattle.overlap_run.specs.Overlap.{overlap_at}
use Rattle.overlap_run.specs.Parents.{shows_green}

-- a parent is green at a tick
abbrev pub parent_green : Intersection → List ℕ → ℕ → Bool
parent_green s parents tick = shows_green parents (s.shown tick).colours

-- what the overlap of these parents shows at a tick
abbrev pub overlap_of : Timing → List ℕ → Intersection → ℕ → Colour
overlap_of t parents s tick = overlap_at t (parent_green s parents) tick

-- at each tick the version of the tables in force is at most `last`
abbrev pub VersionsUpTo : Intersection → ℕ → Type 0
VersionsUpTo s last = (tick : ℕ) → (s.shown tick).version ≤ last

-- an overlap with these times doesn't take longer to clear than any of its parents: trail, yellow change and red
-- clearance together are no longer than the minimum yellow change of each parent plus its minimum red clearance. Each
-- minimum is over the versions up to `last`
abbrev pub IsWithinClearances : Timing → List ℕ → (ℕ → Tables) → ℕ → Type 0
IsWithinClearances t parents tables last = (p v w : ℕ) → is_in parents p ≡ true → v ≤ last → w ≤ last
    → t.trail + t.yellow + t.red ≤ yellow_time (tables v) p + red_clear_time (tables w) p

-- the overlap is allowed on the street: the street is safe, the parents are phases, the yellow change lasts at least
-- one tick, and the overlap doesn't take longer to clear than any parent
pub record CanOverlap (t : Timing) (parents : List ℕ) (s : Intersection) (last : ℕ) : Type 0 where
  pub safe : Safe s
  pub phases : (p : ℕ) → is_in parents p ≡ true → is_phase p ≡ true
  pub lasting : 0 < t.yellow
  pub versions : VersionsUpTo s last
  pub within : IsWithinClearances t parents s.tables last

-- if the overlap isn't red at a tick, one of its parents isn't red either
abbrev pub IsCovered : Timing → List ℕ → Intersection → ℕ → Type 0
IsCovered t parents s tick = overlap_of t parents s tick ≢ Red
    → (p : ℕ) × (is_in parents p ≡ true) × (colour_at s p tick ≢ Red)

-- if the overlap isn't red at a tick, each phase that conflicts with all its parents is red
abbrev pub IsApart : Timing → List ℕ → Intersection → ℕ → Type 0
IsApart t parents s tick = overlap_of t parents s tick ≢ Red
    → (q : ℕ) → ((p : ℕ) → is_in parents p ≡ true → are_incompatible (in_force s tick) p q ≡ true) → colour_at s q tick ≡ Red
