-- The side of a phase, measured over a set of its phases.
use Rattle.std.proofs.Common.{◌≡◌, ◌∙◌, ℕ, Bool, true, false, ◌&&◌, List, refl, sym, ap}
use Rattle.std.proofs.lemmas.Bool.{false≢true}
use Rattle.sig_types.specs.declared.phase_set.PhaseSet.{PhaseSet}
use Rattle.sig_types.specs.PhaseSet.{has, phases_of}
use Rattle.sig_types.specs.Phases.{is_phase, is_in, all_phases}
use Rattle.sig_types.proofs.Lists.{in-those}
use Rattle.sig_types.proofs.Sets.{those-same, listed-phase}
use Rattle.sig_tables.specs.declared.tables.Tables.{Tables}
use Rattle.sig_tables.specs.Tables.{is_enabled, clearance}
use Rattle.sig_tables.specs.Sides.{are_of_one_side}
use Rattle.sig_tables.specs.Sums.{greatest}
use Rattle.sig_tables.specs.Slots.{slot_end, side_of, side_end, side_clearance}
use Rattle.sig_tables.specs.Layout.{Has}
use Rattle.sig_tables.specs.Laying.{EachIs}
use Rattle.pattern_plan.specs.LayoutStands.{at_phase, enabled_end}
use Rattle.pattern_plan.proofs.Greatest.{greatest-alike}

middle : (a b c : Bool) → (a && b && c) ≡ true → b ≡ true
middle true true c h = refl
middle true false c h = absurd (false≢true h)
middle false b c h = absurd (false≢true h)

-- a phase of the set is one of the side
of-side : (t : Tables) (p : ℕ) (s : PhaseSet) → Has s (are_of_one_side t p) → (q : ℕ) → is_in (phases_of s) q ≡ true
    → (is_phase q ≡ true) × (are_of_one_side t p q ≡ true)
of-side t p s h q i =
    let m : (has s q ≡ true) × (is_in all_phases q ≡ true) = in-those (has s) all_phases q i in
    let is : is_phase q ≡ true = listed-phase q m.1 in
    (is, sym (h q is) ∙ m.0)

same-side : (t : Tables) (p : ℕ) (s : PhaseSet) → Has s (are_of_one_side t p) → phases_of s ≡ side_of t p
same-side t p s h = those-same (has s) (are_of_one_side t p) all_phases (λ q i. h q (listed-phase q i))

pub side-end-is : (t : Tables) (n p : ℕ) (s : PhaseSet) (ends : List ℕ) → Has s (are_of_one_side t p) → EachIs ends (enabled_end t n)
    → greatest (at_phase ends) (phases_of s) ≡ side_end t n p
side-end-is t n p s ends h e =
    greatest-alike (at_phase ends) (slot_end t n) (phases_of s) (λ q i.
    let m : (is_phase q ≡ true) × (are_of_one_side t p q ≡ true) = of-side t p s h q i in
    let on : is_enabled t q ≡ true = middle (is_enabled t p) (is_enabled t q) _ m.1 in
    e q m.0 ∙ rw on refl)
    ∙ ap (greatest (slot_end t n)) (same-side t p s h)

pub side-clearance-is : (t : Tables) (p : ℕ) (s : PhaseSet) (clears : List ℕ) → Has s (are_of_one_side t p) → EachIs clears (clearance t)
    → greatest (at_phase clears) (phases_of s) ≡ side_clearance t p
side-clearance-is t p s clears h e =
    greatest-alike (at_phase clears) (clearance t) (phases_of s) (λ q i. e q (of-side t p s h q i).0)
    ∙ ap (greatest (clearance t)) (same-side t p s h)
