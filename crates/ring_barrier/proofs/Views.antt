-- What a view shows, put to the walks over lists.
use Rattle.std.proofs.Common.{◌≡◌, ◌≢◌, inl, inr, ◌↔◌, IsTrue, ◌||◌, ℕ, ◌≤◌, Bool, true, false, not, ◌&&◌, ◌==◌, if◌then◌else◌, List, [], get_or, take, drop, refl, sym, ◌∙◌, ap, subst, arith}
use Rattle.std.proofs.lemmas.Bool.{cases_Bool, and_parts, and_cases, false≢true, ne_eqb}
use Rattle.std.proofs.Math.Bool.{and-false, and_comm}
use Rattle.std.specs.Cmp.{both_ways as one_answer}
use Rattle.sig_types.specs.declared.phase_set.PhaseSet.{PhaseSet}
use Rattle.sig_types.specs.PhaseSet.{has, phases_of}
use Rattle.sig_types.specs.Phases.{is_phase, all_phases, is_in, some, first}
use Rattle.sig_types.proofs.Lists.{phase-in, phase-listed}
use Rattle.sig_types.proofs.Sets.{listed-phase, those-same, those-none}
use Rattle.sig_tables.specs.Tables.{order_of}
use Rattle.sig_tables.specs.Layout.{Has, set_of}
use Rattle.sig_tables.specs.Looking.{last_on}
use Rattle.sig_tables.specs.View.{View as Scene, is_open, on_phase, present_side, later, earlier, elsewhere, is_wanted, has_room_in, is_done, is_forced, has_reason, is_served, clearance_of}
use Rattle.sig_tables.specs.Tables.{clearance}
use Rattle.sig_tables.specs.Sides.{are_of_one_side}
use Rattle.sig_tables.specs.Moves.{has_no_later, is_free_to_leave, is_to_end, is_ended}
use Rattle.sig_tables.proofs.Near.{some-tells}
use Rattle.ring_barrier.specs.Order.{is_member, place_after}
use Rattle.ring_barrier.specs.declared.view.View.{View}
use Rattle.ring_barrier.specs.Shows.{Shows, Opens, ArePhases}
use Rattle.ring_barrier.proofs.Lists.{first-none, later-first, earlier-first, some-carried}
use Rattle.ring_barrier.proofs.Sets.{is_ring_phase, has-listed}

-- a phase of ring r in the present side
abbrev pub is_present : Scene → ℕ → ℕ → Bool
is_present w r q = is_ring_phase w.tables r (present_side w) q

-- no later phase passes
pub later-none : (w : Scene) (r : ℕ) (test : ℕ → Bool) → ((q : ℕ) → (is_present w r q && test q) ≡ false) → first test (later w r) ≡ []
later-none w r test e =
    sym (later-first (is_present w r) test (λ q. is_present w r q && (q == last_on r w.past)) (λ q. is_present w r q && test q)
    (last_on r w.past) (order_of w.tables w.sequence r) (λ q. refl) (λ q. refl))
    ∙ first-none (λ q. is_present w r q && test q) _ e

pub earlier-none : (w : Scene) (r : ℕ) (test : ℕ → Bool) → ((q : ℕ) → (is_present w r q && test q) ≡ false) → first test (earlier w r) ≡ []
earlier-none w r test e =
    sym (earlier-first (is_present w r) test (λ q. is_present w r q && (q == last_on r w.past)) (λ q. is_present w r q && test q)
    (last_on r w.past) (order_of w.tables w.sequence r) (λ q. refl) (λ q. refl))
    ∙ first-none (λ q. is_present w r q && test q) _ e

-- the first later phase that passes follows the place of the one last on
pub later-walk : (w : Scene) (r : ℕ) (g h : PhaseSet) (test : ℕ → Bool) (order : List ℕ) (last : ℕ)
    → order ≡ order_of w.tables w.sequence r → last ≡ last_on r w.past
    → ((q : ℕ) → is_member g q ≡ (is_present w r q && (q == last))) → ((q : ℕ) → is_member h q ≡ (is_present w r q && test q))
    → first (is_member h) (drop (place_after (is_member g) order) order) ≡ first test (later w r)
later-walk w r g h test order last o e eg eh =
    rw (o, ← e) (later-first (is_present w r) test (is_member g) (is_member h) last (order_of w.tables w.sequence r) eg eh)

pub earlier-walk : (w : Scene) (r : ℕ) (g h : PhaseSet) (test : ℕ → Bool) (order : List ℕ) (last : ℕ)
    → order ≡ order_of w.tables w.sequence r → last ≡ last_on r w.past
    → ((q : ℕ) → is_member g q ≡ (is_present w r q && (q == last))) → ((q : ℕ) → is_member h q ≡ (is_present w r q && test q))
    → first (is_member h) (take (place_after (is_member g) order) order) ≡ first test (earlier w r)
earlier-walk w r g h test order last o e eg eh =
    rw (o, ← e) (earlier-first (is_present w r) test (is_member g) (is_member h) last (order_of w.tables w.sequence r) eg eh)

-- whether a ring is open
pub open-first : (opening : List Bool) (w : Scene) (b : Bool) → Opens opening w → get_or opening 0 false ≡ b → is_open w 1 ≡ b
open-first opening w b o e = sym (o 1 (omega arith) (omega arith)) ∙ e

pub open-second : (opening : List Bool) (w : Scene) (b : Bool) → Opens opening w → get_or opening 1 false ≡ b → is_open w 2 ≡ b
open-second opening w b o e = sym (o 2 (omega arith) (omega arith)) ∙ e

-- only a phase is done, or forced off
pub not-done : (w : Scene) (q : ℕ) → is_phase q ≡ false → is_done w q ≡ false
not-done w q e = rw e refl

pub not-forced : (w : Scene) (q : ℕ) → is_phase q ≡ false → is_forced w q ≡ false
not-forced w q e = rw e refl

-- so one is on where what is on is done
pub done-on : (w : Scene) (r : ℕ) → is_done w (on_phase w r) ≡ true → on_phase w r ≢ 0
done-on w r d e = false≢true (sym (not-done w (on_phase w r) (ap is_phase e)) ∙ d)

-- and those that are wanted after its clearance are those after the time that clears it in the tables
pub wanted-on : (v : View) (w : Scene) (r : ℕ) → Shows v w → 1 ≤ r → r ≤ 2 → on_phase w r ≢ 0
    → Has (set_of v.wanted_after r) (is_wanted w (clearance w.tables (on_phase w r)))
wanted-on v w r s h k on = subst (λ (n : ℕ). Has (set_of v.wanted_after r) (is_wanted w n)) clears (s.wanted_after r h k)
  where
    clears : clearance_of w.tables (on_phase w r) ≡ clearance w.tables (on_phase w r)
    clears = rw (ne_eqb (on_phase w r) 0 on) refl

-- what is wanted has demand
wanted-demand : (w : Scene) (k q : ℕ) → is_wanted w k q ≡ true → is_in w.demand q ≡ true
wanted-demand w k q e = split (is_in w.demand q) e
  where
    split : (b : Bool) → (if b then has_room_in w k q else false) ≡ true → b ≡ true
    split true h = refl
    split false h = absurd (false≢true h)

-- so 0 is never wanted
pub zero-wanted : (w : Scene) (k : ℕ) → ArePhases w.demand → is_wanted w k 0 ≡ false
zero-wanted w k h = elim (cases_Bool (is_wanted w k 0)) [
  | inl e ↦ absurd (false≢true (h 0 (wanted-demand w k 0 e)))
  | inr e ↦ e
]

-- a phase of another side is wanted where the set of those that are wanted has one
pub elsewhere-is : (w : Scene) (k : ℕ) (side wanted m : PhaseSet) (b : Bool) → Has side (are_of_one_side w.tables (present_side w))
    → ArePhases w.demand → Has wanted (is_wanted w k) → ((p : ℕ) → p ≤ 16 → has m p ≡ (has wanted p && not (has side p)))
    → (IsTrue b ↔ (phases_of m ≡ [])) → not b ≡ elsewhere w k
elsewhere-is w k side wanted m b hs hd hw hm hb =
    some-tells b m test hb outside
    ∙ one_answer (some test all_phases) (elsewhere w k)
    (some-carried test test all_phases w.demand (λ q i e. (wanted-demand w k q (and_parts _ (is_wanted w k q) e).1, e)))
    (some-carried test test w.demand all_phases (λ q i e. (phase-listed q (hd q i), e)))
  where
    test : ℕ → Bool
    test q = not (are_of_one_side w.tables (present_side w) q) && is_wanted w k q

    outside : Has m test
    outside q p = hm q (phase-in q p).1 ∙ rw (hw q p, hs q p) (and_comm (is_wanted w k q) (not (are_of_one_side w.tables (present_side w) q)))

-- an open ring is free to leave; one that isn't, where its phase is done and no later one is wanted
pub free-open : (w : Scene) (r : ℕ) → is_open w r ≡ true → true ≡ is_free_to_leave w r
free-open w r o = rw o refl

pub free-done : (w : Scene) (r : ℕ) (h : Bool) → is_open w r ≡ false → is_done w (on_phase w r) ≡ true
    → h ≡ has_no_later w r (on_phase w r) → h ≡ is_free_to_leave w r
free-done w r true o d e = let e' : has_no_later w r (on_phase w r) ≡ true = sym e in rw (o, e', d) refl
free-done w r false o d e = let e' : has_no_later w r (on_phase w r) ≡ false = sym e in rw (o, e') refl

pub free-not : (w : Scene) (r : ℕ) → is_open w r ≡ false → is_done w (on_phase w r) ≡ false → false ≡ is_free_to_leave w r
free-not w r o d = elim (cases_Bool (has_no_later w r (on_phase w r))) [
  | inl e ↦ rw (o, e, d) refl
  | inr e ↦ rw (o, e) refl
]

-- a done phase ends where it is to end; one that isn't done doesn't
pub ended-done : (w : Scene) (r p : ℕ) (t : Bool) → is_done w p ≡ true → t ≡ is_to_end w r p → t ≡ is_ended w r p
ended-done w r p t d e = e ∙ split (and_parts (has_reason w p) (is_served w.tables w.past p) d) (is_to_end w r p)
  where
    split : (has_reason w p ≡ true) × (is_served w.tables w.past p ≡ true) → (b : Bool) → b ≡ (has_reason w p && b && is_served w.tables w.past p)
    split h true = rw (h.0, h.1) refl
    split h false = rw h.0 refl

pub ended-not : (w : Scene) (r p : ℕ) → is_done w p ≡ false → false ≡ is_ended w r p
ended-not w r p d = elim (and_cases (has_reason w p) (is_served w.tables w.past p) d) [
  | inl h ↦ rw h refl
  | inr h ↦ rw (h, and-false (has_reason w p && is_to_end w r p)) refl
]

-- where no phase is in either set, none is done and none is forced off
both-out : (a b : Bool) → (a || b) ≡ false → (a ≡ false) × (b ≡ false)
both-out true b h = absurd (false≢true (sym h))
both-out false b h = (refl, h)

pub neither-in : (w : Scene) (done forced either : PhaseSet) → Has done (is_done w) → Has forced (is_forced w)
    → ((p : ℕ) → has either p ≡ (has done p || has forced p)) → phases_of either ≡ []
    → (q : ℕ) → (is_done w q ≡ false) × (is_forced w q ≡ false)
neither-in w done forced either d f h none q = elim (cases_Bool (is_phase q)) [
  | inl e ↦ both-out (is_done w q) (is_forced w q) (rw (← d q e, ← f q e, ← h q, has-listed either q e, none) refl)
  | inr e ↦ (not-done w q e, not-forced w q e)
]

pub neither-empty : (done forced either : PhaseSet) → ((p : ℕ) → has either p ≡ (has done p || has forced p))
    → phases_of done ≡ [] → phases_of forced ≡ [] → phases_of either ≡ []
neither-empty done forced either h d f =
    those-same (has either) (λ q. false) all_phases
    (λ q i. let e : is_phase q ≡ true = listed-phase q i in rw (h q, has-listed done q e, has-listed forced q e, d, f) refl)
    ∙ those-none (λ q. false) all_phases (λ q. refl)
