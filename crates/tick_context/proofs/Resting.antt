-- Where nothing is wanted and no ring is open, the rings rest: what is on stays on.
use Rattle.std.proofs.Common.{◌≡◌, ◌==◌, ◌&&◌, ◌||◌, ◌++◌, not, if◌then◌else◌, ℕ, Bool, true, false, List, [], ◌∷◌, inl, inr, refl, sym, ◌∙◌, ap}
use Rattle.std.proofs.Math.Bool.{and-false}
use Rattle.sig_types.specs.Phases.{is_in}
use Rattle.sig_tables.specs.Tables.{clearance}
use Rattle.sig_tables.specs.Sides.{are_of_one_side}
use Rattle.sig_tables.specs.View.{View, on_phase, is_open, present_side, later, earlier, has_room_in, is_wanted}
use Rattle.sig_tables.specs.View.{is_served, has_reason, is_done, is_forced, greatest_clearance}
use Rattle.sig_tables.specs.Moves.{is_free_to_leave, is_to_end, ending_in, beginning_of, Moves, ring_moves}
use Rattle.sig_tables.specs.View.{other_ring}
use Rattle.std.proofs.lemmas.Bool.{cases_Bool}
use Rattle.sig_types.specs.Phases.{is_phase}
use Rattle.sig_types.specs.PhaseSet.{phases_of}
use Rattle.sig_types.specs.declared.phase_set.PhaseSet.{PhaseSet}
use Rattle.sig_types.proofs.Sets.{some-none, empty-has}
use Rattle.sig_tables.specs.Layout.{Has}

unwanted : (v : View) (k q : ℕ) → v.demand ≡ [] → is_wanted v k q ≡ false
unwanted v k q e = ap (λ (xs : List ℕ). if is_in xs q then has_room_in v k q else false) e

also-unwanted : (b : Bool) (v : View) (k q : ℕ) → v.demand ≡ [] → (b && is_wanted v k q) ≡ false
also-unwanted b v k q e = rw (unwanted v k q e) (and-false b)

stays-on : (v : View) (r p : ℕ) → v.demand ≡ [] → is_to_end v r p ≡ false
stays-on v r p e =
    no-rule _ _ (is_free_to_leave v (other_ring r)) _
    (some-none (is_wanted v (clearance v.tables p)) (later v r) (λ q. unwanted v (clearance v.tables p) q e))
    (some-none (λ q. not (are_of_one_side v.tables (present_side v) q) && is_wanted v (greatest_clearance v) q) v.demand
    (λ q. also-unwanted (not (are_of_one_side v.tables (present_side v) q)) v (greatest_clearance v) q e))
    (some-none (λ q. not (q == p) && is_wanted v (clearance v.tables p) q) (earlier v r)
    (λ q. also-unwanted (not (q == p)) v (clearance v.tables p) q e))
  where
    no-rule : (a b c d : Bool) → a ≡ false → b ≡ false → d ≡ false → (if not a then (if b then c else d) else true) ≡ false
    no-rule a b c d e f g = rw (e, f, g) refl

none-ends : (v : View) (r : ℕ) → ((p : ℕ) → is_forced v p ≡ false) → v.demand ≡ [] → ending_in v r ≡ []
none-ends v r free e =
    neither (is_forced v (on_phase v r)) (has_reason v (on_phase v r)) (is_to_end v r (on_phase v r))
    (is_served v.tables v.past (on_phase v r)) (on_phase v r)
    (free (on_phase v r)) (stays-on v r (on_phase v r) e)
  where
    neither : (forced reason end served : Bool) (p : ℕ) → forced ≡ false → end ≡ false → (if forced || (reason && end && served) then p ∷ [] else []) ≡ []
    neither forced true end served p f g = rw (f, g) refl
    neither forced false end served p f g = rw f refl

none-begins : (v : View) (r : ℕ) → is_open v r ≡ false → beginning_of v r ≡ []
none-begins v r shut = rw shut refl

-- where no phase of a set of those that are forced off is, none is
pub none-forced : (v : View) (s : PhaseSet) → Has s (is_forced v) → phases_of s ≡ [] → (p : ℕ) → is_forced v p ≡ false
none-forced v s h none p = elim (cases_Bool (is_phase p)) [
  | inl i ↦ sym (h p i) ∙ empty-has s p i none
  | inr i ↦ rw i refl
]

-- where no phase is done, nothing else is
pub none-done : (v : View) → ((p : ℕ) → is_phase p ≡ true → is_done v p ≡ false) → (p : ℕ) → is_done v p ≡ false
none-done v none p = elim (cases_Bool (is_phase p)) [
  | inl i ↦ none p i
  | inr i ↦ rw i refl
]

pub resting : (v : View) → ((p : ℕ) → is_forced v p ≡ false) → v.demand ≡ [] → is_open v 1 ≡ false → is_open v 2 ≡ false
    → ring_moves v ≡ record { ends = []; begins = [] }
resting v free e one two =
    alike _ _ _ _ (none-ends v 1 free e) (none-ends v 2 free e) (none-begins v 1 one) (none-begins v 2 two)
  where
    both : (a b c d : List ℕ) → Moves
    both a b c d = record { ends = a ++ b; begins = c ++ d }

    alike : (a b c d : List ℕ) → a ≡ [] → b ≡ [] → c ≡ [] → d ≡ [] → both a b c d ≡ both [] [] [] []
    alike a b c d e f g h = rw (e, f, g, h) refl
