-- When a green ends in free operation (NEMA TS 2, barrier; FHWA Signal Timing Manual, gap-out, max-out, simultaneous
-- gap). The definitions read only moments: m is the moment that a tick gives, `past` the moments before it, newest
-- first.
use Rattle.std.specs.Prelude.{ℕ, ◌≡◌, ◌==◌, ◌&&◌, ◌||◌, not, Bool, true, false, if◌then◌else◌, List, ◌∷◌}
use Rattle.sig_types.specs.declared.frame.Colour.TheVariants.{Green, Yellow}
use Rattle.sig_types.specs.declared.frame.Mode.TheVariants.{Free}
use Rattle.sig_types.specs.Phases.{is_phase, is_in, some}
use Rattle.sig_types.specs.Colour.{colour_of, on_in}
use Rattle.sig_tables.specs.Tables.{ring_of, is_enabled, gap_time, maximum_time, has_maximum_recall, order_of}
use Rattle.sig_tables.specs.Sides.{are_incompatible, are_of_one_side, ring_phases}
use Rattle.sig_tables.specs.Calls.{is_green, demand_of}
use Rattle.sig_tables.specs.Past.{Moment}
use Rattle.sig_tables.specs.Looking.{last_frame, lasts}
use Rattle.sig_tables.specs.View.{is_served, ended_of, other_ring, later_in, earlier_in}
use Rattle.tick_laws.specs.Each.{EachMoment}

-- the phases that are called at m: they are enabled, were Red before it, and have a call, an active detector or a
-- recall
abbrev pub called_at : List Moment → Moment → List ℕ
called_at past m = demand_of m.tables (last_frame past) m.vehicle m.pedestrian m.detectors

-- phase p has gapped out at m: it was Green and not active for its passage time, and has no maximum recall
abbrev pub has_gapped : List Moment → Moment → ℕ → Bool
has_gapped past m p = not (has_maximum_recall m.tables p) && lasts (gap_time m.tables p) (λ x. is_in x.quiet p) (m ∷ past)

-- phase p has maxed out at m: it was Green while a conflicting phase was called, for its maximum green
abbrev pub has_maxed : List Moment → Moment → ℕ → Bool
has_maxed past m p = lasts (maximum_time m.tables p) (λ x. is_in x.opposed p) (m ∷ past)

-- phase p may end at m: it is Green, has gapped out or maxed out, and has been served
abbrev pub is_through : List Moment → Moment → ℕ → Bool
is_through past m p =
    is_enabled m.tables p && is_green (last_frame past) p && (has_gapped past m p || has_maxed past m p) && is_served m.tables past p

-- a phase of ring r that comes after x, in the barrier group of p, is called
abbrev pub calls_later : List Moment → Moment → ℕ → ℕ → ℕ → Bool
calls_later past m p r x = some (is_in (called_at past m)) (later_in (ring_phases m.tables 1 p r) x)

-- a phase that comes before p, in its ring and barrier group, is called
abbrev pub calls_earlier : List Moment → Moment → ℕ → Bool
calls_earlier past m p =
    some (λ q. not (q == p) && is_in (called_at past m) q) (earlier_in (ring_phases m.tables 1 p (ring_of m.tables p)) p)

-- a phase outside the barrier group of p is called
abbrev pub calls_across : List Moment → Moment → ℕ → Bool
calls_across past m p = some (λ q. not (are_of_one_side m.tables p q)) (called_at past m)

-- ring r can leave the barrier group of p at m: no phase is on in it, or the clearance of its phase ends; or its phase
-- may end, and no later phase of the ring is called in the group
abbrev pub can_leave : List Moment → Moment → ℕ → ℕ → Bool
can_leave past m p r =
    if on_in (last_frame past) r == 0 || is_in (ended_of m.tables past) (on_in (last_frame past) r) then true
    else if calls_later past m p r (on_in (last_frame past) r) then false else is_through past m (on_in (last_frame past) r)

-- it is the turn of p to end at m if a later phase of its ring is called in its barrier group. If none is and another
-- group is called, it is p's turn if the other ring can leave the group too. If no other group is called, it is p's
-- turn if an earlier phase of its ring is called in the group
abbrev pub is_turn_to_end : List Moment → Moment → ℕ → Bool
is_turn_to_end past m p =
    if calls_later past m p (ring_of m.tables p) p then true
    else if calls_across past m p then can_leave past m p (other_ring (ring_of m.tables p)) else calls_earlier past m p

-- in free operation a Green phase ends at m exactly if it may end and it is its turn
abbrev pub EndsInTurn : List Moment → Moment → ℕ → Type 0
EndsInTurn past m p = m.frame.mode ≡ Free → colour_of (last_frame past) p ≡ Green
    → colour_of m.frame p ≡ (if is_through past m p && is_turn_to_end past m p then Yellow else Green)

-- each phase ends in this way, at each tick
abbrev pub EachEndsInTurn : List Moment → Type 0
EachEndsInTurn moments = EachMoment (λ past m. (p : ℕ) → is_phase p ≡ true → EndsInTurn past m p) moments

-- in free operation, phase p ends for a conflicting phase q of the first sequence that is called, if p may end and the
-- other ring can leave the barrier group of p
abbrev pub EndsForOther : List Moment → Moment → ℕ → ℕ → Type 0
EndsForOther past m p q = m.frame.mode ≡ Free → is_through past m p ≡ true → is_in (called_at past m) q ≡ true → are_incompatible m.tables p q ≡ true
    → is_in (order_of m.tables 1 (ring_of m.tables q)) q ≡ true → can_leave past m p (other_ring (ring_of m.tables p)) ≡ true
    → colour_of m.frame p ≡ Yellow

-- each phase ends in this way for each other phase, at each tick
abbrev pub EachEndsForOther : List Moment → Type 0
EachEndsForOther moments = EachMoment (λ past m. (p q : ℕ) → is_phase p ≡ true → EndsForOther past m p q) moments
