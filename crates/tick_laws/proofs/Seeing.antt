-- What a tick in the pattern sees follows from how its view is made, and from what is on.
use Rattle.std.proofs.Common.{◌≡◌, ◌≢◌, ◌⊎◌, inl, inr, ℕ, Bool, true, false, not, ◌&&◌, ◌||◌, List, Option, Some, refl, sym, ◌∙◌, ap, subst}
use Rattle.std.proofs.lemmas.Bool.{cases_Bool, false≢true, and_parts, and_from}
use Rattle.sig_types.specs.declared.frame.Colour.{Colour}
use Rattle.sig_types.specs.declared.frame.Colour.TheVariants.{Green, Yellow, Clear, Red}
use Rattle.sig_types.specs.declared.frame.Frame.{Frame}
use Rattle.sig_types.specs.declared.frame.Mode.TheVariants.{Coord}
use Rattle.sig_types.specs.Phases.{is_in, is_phase, all_phases}
use Rattle.sig_types.specs.Colour.{same_colour, colour_of}
use Rattle.sig_types.proofs.Lists.{in-those}
use Rattle.sig_types.proofs.Sets.{in-phases}
use Rattle.sig_tables.specs.Tables.{ring_of, is_enabled}
use Rattle.sig_tables.specs.Sides.{are_of_one_side}
use Rattle.sig_tables.specs.Slots.{is_coordinated, is_omitted}
use Rattle.sig_tables.specs.Calls.{is_called}
use Rattle.sig_tables.specs.SplitCalls.{demand_in, is_called_by}
use Rattle.sig_tables.specs.Modes.{bound, sequence_in}
use Rattle.sig_tables.specs.Looking.{last_frame, runs_on}
use Rattle.sig_tables.specs.View.{View, on_phase, ended_of}
use Rattle.sig_tables.proofs.Below.{coordinated-enabled}
use Rattle.tick_laws.specs.Zero.{Sees}

-- how the view is made, and what is on in its frame
pub record Made (v : View) (n : ℕ) (vehicle pedestrian detectors : List ℕ) : Type 0 where
  pub mode : v.mode ≡ Coord n
  pub sequence : v.sequence ≡ sequence_in v.tables v.mode
  pub demand : v.demand ≡ demand_in (bound v.mode) v.tables v.frame vehicle pedestrian detectors
  pub ended : v.ended ≡ ended_of v.tables v.past
  pub frame : v.frame ≡ last_frame v.past
  pub served : (q : ℕ) → is_coordinated v.tables n q ≡ true → is_omitted v.tables n q ≡ false
  pub placed : (p : ℕ) → is_enabled v.tables p ≡ true → colour_of v.frame p ≢ Red → on_phase v (ring_of v.tables p) ≡ p
  pub named : (r : ℕ) → (r ≡ 1) ⊎ (r ≡ 2) → (on_phase v r ≡ 0)
      ⊎ ((is_enabled v.tables (on_phase v r) ≡ true) × (colour_of v.frame (on_phase v r) ≢ Red) × (ring_of v.tables (on_phase v r) ≡ r))
  pub beside : on_phase v 1 ≢ 0 → on_phase v 2 ≢ 0 → are_of_one_side v.tables (on_phase v 1) (on_phase v 2) ≡ true

is-red : (c : Colour) → same_colour c Red ≡ true → c ≡ Red
is-red Green e = absurd (false≢true e)
is-red Yellow e = absurd (false≢true e)
is-red Clear e = absurd (false≢true e)
is-red Red e = refl

not-red : (c : Colour) → c ≢ Red → not (same_colour c Red) ≡ true
not-red Green ne = refl
not-red Yellow ne = refl
not-red Clear ne = refl
not-red Red ne = absurd (ne refl)

pub sees-made : (v : View) (n : ℕ) (vehicle pedestrian detectors : List ℕ) → Made v n vehicle pedestrian detectors → Sees v n
sees-made v n vehicle pedestrian detectors m = record {
  bound = ap bound m.mode;
  sequence = m.sequence ∙ ap (sequence_in v.tables) m.mode;
  called = λ q held red.
      subst (λ (xs : List ℕ). is_in xs q ≡ true) (sym demand)
      (in-phases wanted q (phase q (coordinated-enabled v.tables n q held))
      ∙ and_from (is_enabled v.tables q && same_colour (colour_of v.frame q) Red && not (is_omitted v.tables n q))
      (is_called v.tables vehicle pedestrian detectors q || is_called_by v.tables n q)
      (and_from (is_enabled v.tables q && same_colour (colour_of v.frame q) Red) (not (is_omitted v.tables n q))
      (and_from (is_enabled v.tables q) (same_colour (colour_of v.frame q) Red) (coordinated-enabled v.tables n q held)
      (ap (λ (c : Colour). same_colour c Red) red)) (ap not (m.served q held)))
      (by-pattern (is_called v.tables vehicle pedestrian detectors q) q held));
  placed = m.placed;
  named = m.named;
  demanded = λ p h.
      let w : wanted p ≡ true = (in-those wanted all_phases p (subst (λ (xs : List ℕ). is_in xs p ≡ true) demand h)).0 in
      let a = and_parts (is_enabled v.tables p && same_colour (colour_of v.frame p) Red && not (is_omitted v.tables n p))
      (is_called v.tables vehicle pedestrian detectors p || is_called_by v.tables n p) w in
      let b = and_parts (is_enabled v.tables p && same_colour (colour_of v.frame p) Red) (not (is_omitted v.tables n p)) a.0 in
      let c = and_parts (is_enabled v.tables p) (same_colour (colour_of v.frame p) Red) b.0 in
      (c.0, is-red _ c.1, served _ b.1);
  beside = m.beside;
  ended = λ p e on off.
      subst (λ (xs : List ℕ). is_in xs p ≡ true) (sym m.ended)
      (in-phases ends p (phase p e)
      ∙ and_from (not (same_colour (colour_of (last_frame v.past) p) Red)) (same_colour (runs_on p v.tables v.past (colour_of (last_frame v.past) p)) Red)
      (subst (λ (f : Frame). not (same_colour (colour_of f p) Red) ≡ true) m.frame (not-red _ on))
      (subst (λ (f : Frame). same_colour (runs_on p v.tables v.past (colour_of f p)) Red ≡ true) m.frame (ap (λ (c : Colour). same_colour c Red) off)));
  runs = λ p green. elim (cases_Bool (is_in v.ended p)) [
    | inr h ↦ h
    | inl h ↦
        let w : ends p ≡ true = (in-those ends all_phases p (subst (λ (xs : List ℕ). is_in xs p ≡ true) m.ended h)).0 in
        let b = and_parts (not (same_colour (colour_of (last_frame v.past) p) Red))
        (same_colour (runs_on p v.tables v.past (colour_of (last_frame v.past) p)) Red) w in
        let here : colour_of (last_frame v.past) p ≡ Green = subst (λ (f : Frame). colour_of f p ≡ Green) m.frame green in
        absurd (false≢true (subst (λ (c : Colour). same_colour (runs_on p v.tables v.past c) Red ≡ true) here b.1))
  ];
}
  where
    wanted : ℕ → Bool
    wanted p = is_enabled v.tables p && same_colour (colour_of v.frame p) Red && not (is_omitted v.tables n p)
        && (is_called v.tables vehicle pedestrian detectors p || is_called_by v.tables n p)

    ends : ℕ → Bool
    ends p = not (same_colour (colour_of (last_frame v.past) p) Red) && same_colour (runs_on p v.tables v.past (colour_of (last_frame v.past) p)) Red

    demand : v.demand ≡ demand_in (Some n) v.tables v.frame vehicle pedestrian detectors
    demand = m.demand ∙ ap (λ (b : Option ℕ). demand_in b v.tables v.frame vehicle pedestrian detectors) (ap bound m.mode)

    phase : (p : ℕ) → is_enabled v.tables p ≡ true → is_phase p ≡ true
    phase p e = (and_parts (is_phase p) _ e).0

    served : (b : Bool) → not b ≡ true → b ≡ false
    served true e = absurd (false≢true e)
    served false e = refl

    by-pattern : (b : Bool) (q : ℕ) → is_coordinated v.tables n q ≡ true → (b || is_called_by v.tables n q) ≡ true
    by-pattern true q held = refl
    by-pattern false q held = rw held refl
