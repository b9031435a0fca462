-- Where no phase is wanted that would take its place, what is done waits, and a ring that has nothing on begins nothing.
use Rattle.std.proofs.Common.{◌≡◌, ◌==◌, ◌&&◌, ◌||◌, ◌++◌, not, if◌then◌else◌, ℕ, Bool, true, false, List, [], ◌∷◌, ◌⊎◌, Option, None, Some, inl, inr, refl, sym, ◌∙◌, ap}
use Rattle.std.proofs.lemmas.Bool.{cases_Bool, false≢true}
use Rattle.std.proofs.Math.Bool.{and-false}
use Rattle.sig_types.specs.declared.frame.Colour.TheVariants.{Red}
use Rattle.sig_types.specs.declared.frame.Frame.{Frame}
use Rattle.sig_types.specs.Colour.{same_colour, colour_of}
use Rattle.sig_types.specs.Phases.{all_phases, is_phase, is_in, some, those, first, or_else}
use Rattle.sig_types.proofs.Sets.{some-none, some-those, in-those-is, listed-phase}
use Rattle.sig_tables.specs.Tables.{clearance, ring_of, order_of, is_enabled}
use Rattle.sig_tables.specs.Slots.{is_omitted}
use Rattle.sig_tables.specs.Calls.{is_called}
use Rattle.sig_tables.specs.SplitCalls.{demand_in, is_called_by}
use Rattle.sig_tables.specs.Sides.{are_of_one_side}
use Rattle.sig_tables.specs.Past.{Past}
use Rattle.sig_tables.specs.Seen.{frame_seen, vehicle_seen, pedestrian_seen, detectors_seen, demand_with}
use Rattle.sig_tables.specs.Looking.{last_on}
use Rattle.sig_tables.specs.View.{View, other_ring, on_phase, is_open, present_side, later, earlier, is_wanted, is_startable, can_begin, elsewhere, is_done, is_forced, greatest_clearance}
use Rattle.sig_tables.specs.Moves.{has_no_later, is_free_to_leave, is_to_end, is_ended, ending_in, beginning_in, beginning_of, Moves, ring_moves}
use Rattle.ring_barrier.proofs.Lists.{cut, later-from, earlier-from, first-those, first-none}
use Rattle.ring_barrier.proofs.Views.{ended-not}

-- q is a phase of ring r on the present side
abbrev is_here : View → ℕ → ℕ → Bool
is_here v r q = ring_of v.tables q == r && are_of_one_side v.tables (present_side v) q

-- of the phases of ring r on the present side none is wanted, after however many ticks; the same of all other sides
abbrev pub NoneHere : View → ℕ → Type 0
NoneHere v r = (k q : ℕ) → ((ring_of v.tables q == r && are_of_one_side v.tables (present_side v) q) && is_wanted v k q) ≡ false

abbrev pub NoneBeyond : View → Type 0
NoneBeyond v = (k q : ℕ) → (not (are_of_one_side v.tables (present_side v) q) && is_wanted v k q) ≡ false

further : (a b c : Bool) → (a && b) ≡ false → (a && (b && c)) ≡ false
further true b c e = rw e refl
further false b c e = refl

besides : (a b c : Bool) → (a && b) ≡ false → (a && (c && b)) ≡ false
besides true b c e = rw e (and-false c)
besides false b c e = refl

-- no later phase and no earlier one passes a test that none of its ring here passes
none-later : (v : View) (r : ℕ) (test : ℕ → Bool) → ((q : ℕ) → (is_here v r q && test q) ≡ false) → some test (later v r) ≡ false
none-later v r test h =
    ap (some test) (later-from (is_here v r) (last_on r v.past) (order_of v.tables v.sequence r) _ (cut (is_here v r) (last_on r v.past) (order_of v.tables v.sequence r)))
    ∙ some-those test (is_here v r) _ ∙ some-none _ _ h

none-earlier : (v : View) (r : ℕ) (test : ℕ → Bool) → ((q : ℕ) → (is_here v r q && test q) ≡ false) → some test (earlier v r) ≡ false
none-earlier v r test h =
    ap (some test) (earlier-from (is_here v r) (last_on r v.past) (order_of v.tables v.sequence r) _ (cut (is_here v r) (last_on r v.past) (order_of v.tables v.sequence r)))
    ∙ some-those test (is_here v r) _ ∙ some-none _ _ h

first-later : (v : View) (r : ℕ) (test : ℕ → Bool) → ((q : ℕ) → (is_here v r q && test q) ≡ false) → first test (later v r) ≡ []
first-later v r test h =
    ap (first test) (later-from (is_here v r) (last_on r v.past) (order_of v.tables v.sequence r) _ (cut (is_here v r) (last_on r v.past) (order_of v.tables v.sequence r)))
    ∙ first-those test (is_here v r) _ ∙ first-none _ _ h

first-earlier : (v : View) (r : ℕ) (test : ℕ → Bool) → ((q : ℕ) → (is_here v r q && test q) ≡ false) → first test (earlier v r) ≡ []
first-earlier v r test h =
    ap (first test) (earlier-from (is_here v r) (last_on r v.past) (order_of v.tables v.sequence r) _ (cut (is_here v r) (last_on r v.past) (order_of v.tables v.sequence r)))
    ∙ first-those test (is_here v r) _ ∙ first-none _ _ h

pub none-elsewhere : (v : View) (k : ℕ) → NoneBeyond v → elsewhere v k ≡ false
none-elsewhere v k h = some-none (λ q. not (are_of_one_side v.tables (present_side v) q) && is_wanted v k q) v.demand (h k)

-- a ring whose phase is not done isn't free to leave
pub not-free : (v : View) (r : ℕ) → is_open v r ≡ false → is_done v (on_phase v r) ≡ false → is_free_to_leave v r ≡ false
not-free v r shut undone = by (is_open v r) (has_no_later v r (on_phase v r)) (is_done v (on_phase v r)) shut undone
  where
    by : (a b c : Bool) → a ≡ false → c ≡ false → (if a then true else if b then c else false) ≡ false
    by a true c e f = rw (e, f) refl
    by a false c e f = rw e refl

-- what is done waits, where no other side is wanted or the other ring isn't free to leave
pub to-end-not : (v : View) (r p : ℕ) → NoneHere v r → NoneBeyond v ⊎ (is_free_to_leave v (other_ring r) ≡ false) → is_to_end v r p ≡ false
to-end-not v r p here wait =
    by (some (is_wanted v (clearance v.tables p)) (later v r)) (elsewhere v (greatest_clearance v)) (is_free_to_leave v (other_ring r)) _
    (none-later v r (is_wanted v (clearance v.tables p)) (here (clearance v.tables p)))
    (none-earlier v r (λ q. not (q == p) && is_wanted v (clearance v.tables p) q)
    (λ q. besides (is_here v r q) (is_wanted v (clearance v.tables p) q) (not (q == p)) (here (clearance v.tables p) q)))
    (elim wait [
      | inl none ↦ inl (none-elsewhere v (greatest_clearance v) none)
      | inr held ↦ inr held
    ])
  where
    by : (a b c d : Bool) → a ≡ false → d ≡ false → (b ≡ false) ⊎ (c ≡ false) → (if not a then (if b then c else d) else true) ≡ false
    by a b c d e f (inl g) = rw (e, g, f) refl
    by a true c d e f (inr g) = rw (e, g) refl
    by a false c d e f (inr g) = rw (e, f) refl

pub ends-not : (v : View) (r : ℕ) → is_forced v (on_phase v r) ≡ false → is_ended v r (on_phase v r) ≡ false → ending_in v r ≡ []
ends-not v r free stays = rw (free, stays) refl

pub ended-waits : (v : View) (r p : ℕ) → is_to_end v r p ≡ false → is_ended v r p ≡ false
ended-waits v r p e = by _ (is_to_end v r p) _ e
  where
    by : (a b c : Bool) → b ≡ false → (a && b && c) ≡ false
    by true b c e = rw e refl
    by false b c e = refl

-- an open ring begins nothing beside one that is not
pub begins-not : (v : View) (r : ℕ) → is_open v r ≡ true → is_open v (other_ring r) ≡ false → NoneHere v r → beginning_of v r ≡ []
begins-not v r opens shut here =
    by (is_open v r) (is_open v (other_ring r)) _ (first (can_begin v) (later v r)) (first (can_begin v) (earlier v r)) (elsewhere v (greatest_clearance v))
    opens shut (first-later v r (can_begin v) none) (first-earlier v r (can_begin v) none)
  where
    none : (q : ℕ) → (is_here v r q && can_begin v q) ≡ false
    none q = further (is_here v r q) (is_wanted v 0 q) (is_startable v q) (here 0 q)

    by : (a b : Bool) (x y z : List ℕ) (c : Bool) → a ≡ true → b ≡ false → y ≡ [] → z ≡ []
        → (if a then (if b then x else or_else y (if c then [] else z)) else []) ≡ []
    by a b x y z true e f g h = rw (e, f, g) refl
    by a b x y z false e f g h = rw (e, f, g, h) refl

pub shut-begins : (v : View) (r : ℕ) → is_open v r ≡ false → beginning_of v r ≡ []
shut-begins v r shut = rw shut refl

pub no-moves : (v : View) → ending_in v 1 ≡ [] → ending_in v 2 ≡ [] → beginning_of v 1 ≡ [] → beginning_of v 2 ≡ []
    → ring_moves v ≡ record { ends = []; begins = [] }
no-moves v a b c d = by _ _ _ _ a b c d
  where
    both : (a b c d : List ℕ) → Moves
    both a b c d = record { ends = a ++ b; begins = c ++ d }

    by : (a b c d : List ℕ) → a ≡ [] → b ≡ [] → c ≡ [] → d ≡ [] → both a b c d ≡ both [] [] [] []
    by a b c d e f g h = rw (e, f, g, h) refl

-- what is not a phase has no demand
none-outside : (test : ℕ → Bool) (q : ℕ) → is_phase q ≡ false → is_in (those test all_phases) q ≡ false
none-outside test q h = in-those-is test all_phases q ∙ elim (cases_Bool (is_in all_phases q)) [
  | inl e ↦ absurd (false≢true (sym h ∙ listed-phase q e))
  | inr e ↦ rw e (and-false (test q))
]

pub no-demand : (o : Option ℕ) (past : Past) (q : ℕ) → is_phase q ≡ false → is_in (demand_with o past) q ≡ false
no-demand o past q h = by o (frame_seen past) (vehicle_seen past) (pedestrian_seen past) (detectors_seen past)
  where
    by : (o : Option ℕ) (f : Frame) (v w d : List ℕ) → is_in (demand_in o past.tables f v w d) q ≡ false
    by None f v w d = none-outside (λ p. is_enabled past.tables p && same_colour (colour_of f p) Red && is_called past.tables v w d p) q h
    by (Some n) f v w d =
        none-outside
        (λ p. is_enabled past.tables p && same_colour (colour_of f p) Red && not (is_omitted past.tables n p)
        && (is_called past.tables v w d p || is_called_by past.tables n p)) q h
