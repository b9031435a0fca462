-- Greens that give way in free operation (NEMA TS 2, barrier; FHWA Signal Timing Manual, gap-out, max-out).
use Rattle.std.specs.Prelude.{ℕ, ◌≡◌, true, List}
use Rattle.sig_types.specs.declared.frame.Colour.TheVariants.{Yellow}
use Rattle.sig_types.specs.declared.frame.Mode.TheVariants.{Free}
use Rattle.sig_types.specs.Phases.{is_phase, is_in}
use Rattle.sig_types.specs.Colour.{colour_of}
use Rattle.sig_tables.specs.Tables.{ring_of}
use Rattle.sig_tables.specs.Sides.{are_incompatible}
use Rattle.sig_tables.specs.Past.{Moment}
use Rattle.sig_tables.specs.View.{other_ring}
use Rattle.tick_laws.specs.Each.{EachMoment}
use Rattle.tick_laws.specs.Barrier.{called_at, is_through, can_leave}

-- in free operation, phase p ends for a conflicting phase q that is called, if p may end and the other ring can leave
-- the barrier group of p
abbrev pub GivesWay : List Moment → Moment → ℕ → ℕ → Type 0
GivesWay past m p q = m.frame.mode ≡ Free → is_through past m p ≡ true → is_in (called_at past m) q ≡ true → are_incompatible m.tables p q ≡ true
    → can_leave past m p (other_ring (ring_of m.tables p)) ≡ true → colour_of m.frame p ≡ Yellow

-- each phase gives way in this way to each other phase, at each tick
abbrev pub EachGivesWay : List Moment → Type 0
EachGivesWay moments = EachMoment (λ past m. (p q : ℕ) → is_phase p ≡ true → GivesWay past m p q) moments
