-- What the rings do on the way to a goal.
use Rattle.std.proofs.Common.{◌≡◌, inl, inr, ◌⊎◌, ℕ, ◌≤◌, Bool, true, false, not, ◌&&◌, ◌||◌, ◌==◌, List, refl, sym, ◌∙◌, ap}
use Rattle.std.proofs.lemmas.Bool.{cases_Bool, and_parts, eqb-true, false≢true}
use Rattle.std.proofs.Math.Bool.{and-false, and-true}
use Rattle.sig_types.specs.declared.phase_set.PhaseSet.{PhaseSet}
use Rattle.sig_types.specs.PhaseSet.{has, phases_of}
use Rattle.sig_types.specs.Phases.{is_phase, all_phases, is_in, first, only}
use Rattle.sig_types.specs.Colour.{same_colour, colour_of}
use Rattle.sig_types.specs.declared.frame.Colour.TheVariants.{Red}
use Rattle.sig_types.proofs.Sets.{listed-phase, first-same}
use Rattle.sig_tables.specs.Calls.{is_green}
use Rattle.sig_tables.specs.Tables.{is_enabled, ring_of, red_revert_time}
use Rattle.sig_tables.specs.Layout.{set_of}
use Rattle.sig_tables.specs.Looking.{lasts, shows}
use Rattle.sig_tables.specs.Sides.{are_of_one_side}
use Rattle.sig_tables.specs.View.{View as Scene, is_open, on_phase, other_ring, is_startable}
use Rattle.sig_tables.specs.Goals.{is_cleared}
use Rattle.sig_tables.specs.Moves.{goal_ending_in, goal_beginning_in}
use Rattle.ring_barrier.specs.declared.view.RingView.{RingView}
use Rattle.ring_barrier.specs.Order.{is_member}
use Rattle.ring_barrier.specs.Shows.{ShowsRings, is_leaving}
use Rattle.ring_barrier.proofs.Lists.{first-those}
use Rattle.ring_barrier.proofs.Sets.{has-listed}
use Rattle.ring_barrier.proofs.Lone.{lone-first, lone-has, is-one}

-- a phase is Green, outside the goal, and cleared
abbrev pub is_left : Scene → PhaseSet → ℕ → Bool
is_left w goal p = is_phase p && is_green w.frame p && not (is_in (phases_of goal) p) && is_cleared w.mode w.tables w.past p

-- what ends is on, Green, cleared and outside the goal
pub goal-ending-has : (w : Scene) (goal : PhaseSet) (r p : ℕ) → is_phase p ≡ true
    → is_in (goal_ending_in w (phases_of goal) r) p ≡ ((is_leaving w p && not (has goal p)) && (p == on_phase w r))
goal-ending-has w goal r p h =
    is-one (is_left w goal (on_phase w r)) (on_phase w r) p
    ∙ same (cases_Bool (p == on_phase w r))
  where
    turn : (a b c : Bool) → (a && not b && c) ≡ ((a && c) && not b)
    turn true true c = sym (and-false c)
    turn true false c = sym (and-true c)
    turn false b c = refl

    same : ((p == on_phase w r) ≡ true) ⊎ ((p == on_phase w r) ≡ false)
        → (is_left w goal (on_phase w r) && (p == on_phase w r)) ≡ ((is_leaving w p && not (has goal p)) && (p == on_phase w r))
    same (inl e) =
        rw (← eqb-true p (on_phase w r) e, h, ← has-listed goal p h, turn (is_green w.frame p) (has goal p) (is_cleared w.mode w.tables w.past p)) refl
    same (inr e) = rw e (and-false _ ∙ sym (and-false _))

startable-enabled : (w : Scene) (q : ℕ) → is_startable w q ≡ true → is_enabled w.tables q ≡ true
startable-enabled w q h =
    let red = is_enabled w.tables q && same_colour (colour_of w.frame q) Red in
    let h' : red ≡ true = (and_parts red (lasts (red_revert_time w.tables q) (shows q Red) w.past) h).0 in
    (and_parts (is_enabled w.tables q) (same_colour (colour_of w.frame q) Red) h').0

fits : (g en ring st o : Bool) → (st ≡ true → en ≡ true) → (((g && (en && ring)) && st) && o) ≡ (g && ((ring && st) && o))
fits false en ring st o h = refl
fits true en ring false o h = rw (and-false (en && ring), and-false ring) refl
fits true en ring true o h = rw (h refl) refl

-- a phase of the goal and of ring r that may start
abbrev pub may_start : Scene → PhaseSet → ℕ → ℕ → Bool
may_start w goal r q = (has goal q && (is_enabled w.tables q && (ring_of w.tables q == r))) && is_startable w q

-- nothing is on in the other ring that keeps phase q from beginning in ring r
abbrev pub is_let : Scene → ℕ → ℕ → Bool
is_let w r q = is_open w (other_ring r) || are_of_one_side w.tables (on_phase w (other_ring r)) q

-- the first phase of the goal that passes is the least of a set
pub goal-first : (w : Scene) (goal s : PhaseSet) (r p : ℕ) → is_open w r ≡ true
    → ((q : ℕ) → is_phase q ≡ true → has s q ≡ (may_start w goal r q && is_let w r q))
    → is_phase p ≡ true → (p == only (first (has s) all_phases)) ≡ is_in (goal_beginning_in w (phases_of goal) r) p
goal-first w goal s r p o e h =
    ap (λ (n : ℕ). p == n) (ap only least)
    ∙ sym (lone-has (first (is_member s) all_phases) p (lone-first (is_member s) all_phases refl) h)
    ∙ ap (λ (xs : List ℕ). is_in xs p) found ∙ rw o refl
  where
    test : ℕ → Bool
    test q = (ring_of w.tables q == r) && is_startable w q && is_let w r q

    least : first (has s) all_phases ≡ first (is_member s) all_phases
    least = first-same (has s) (is_member s) all_phases (λ q i. sym (ap (λ (b : Bool). b && has s q) (listed-phase q i)))

    found : first (is_member s) all_phases ≡ first test (phases_of goal)
    found =
        first-same (is_member s) (λ q. has goal q && test q) all_phases (λ q i.
        ap (λ (b : Bool). b && has s q) (listed-phase q i)
        ∙ e q (listed-phase q i)
        ∙ fits (has goal q) (is_enabled w.tables q) (ring_of w.tables q == r) (is_startable w q) (is_let w r q) (startable-enabled w q))
        ∙ sym (first-those test (has goal) all_phases)

pub goal-closed : (w : Scene) (goal : PhaseSet) (r p : ℕ) → is_open w r ≡ false → false ≡ is_in (goal_beginning_in w (phases_of goal) r) p
goal-closed w goal r p o = rw o refl

-- the startable phases of the goal in a ring
pub able-is : (v : RingView) (w : Scene) (goal m a : PhaseSet) (r q : ℕ) → ShowsRings v w → 1 ≤ r → r ≤ 2
    → has m q ≡ (has goal q && has (set_of v.layout.now.rings r) q) → has a q ≡ (has m q && has v.startable q) → is_phase q ≡ true
    → has a q ≡ may_start w goal r q
able-is v w goal m a r q s h k hm ha e = cc (hm, ha, s.laid.rings r h k q e, s.startable q e)

pub open-other : (x o side : Bool) → o ≡ true → x ≡ (x && (o || side))
open-other x true side e = sym (and-true x)
open-other x false side e = absurd (false≢true e)

pub closed-other : (x o side : Bool) → o ≡ false → (x && side) ≡ (x && (o || side))
closed-other x true side e = absurd (false≢true (sym e))
closed-other x false side e = refl
