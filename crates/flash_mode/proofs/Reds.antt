-- Whether every phase is Red, colour by colour.
use Rattle.std.proofs.Common.{◌≡◌, ◌<◌, ◌+◌, ◌-◌, ℕ, true, false, inl, inr, List, get_or, sym, ◌∙◌, ap, arith}
use Rattle.std.proofs.lemmas.Bool.{cases_Bool, false≢true}
use Rattle.sig_types.specs.declared.frame.Colour.{Colour}
use Rattle.sig_types.specs.declared.frame.Colour.TheVariants.{Green, Red}
use Rattle.sig_types.specs.Colour.{same_colour, colour_in}
use Rattle.sig_types.specs.Phases.{all_phases}
use Rattle.sig_types.proofs.Sets.{every-phase, listed-phase, every-from}
use Rattle.sig_tables.specs.Choosing.{are_all_red}
use Rattle.sig_tables.proofs.Below.{is-above, is-within, phase-is}

pub all-red : (veh : List Colour) → ((k : ℕ) → k < 16 → same_colour (get_or veh k Green) Red ≡ true) → are_all_red veh ≡ true
all-red veh h = every-from (λ p. same_colour (colour_in veh p) Red) all_phases (λ p i.
    let a : 0 < p = is-above p (listed-phase p i) in
    let w : p - 1 < 16 = (let k = is-within p (listed-phase p i) in omega (arith, a, k)) in
    h (p - 1) w)

pub not-red : (veh : List Colour) (k : ℕ) → k < 16 → same_colour (get_or veh k Green) Red ≡ false → are_all_red veh ≡ false
not-red veh k few e = elim (cases_Bool (are_all_red veh)) [
  | inl t ↦ absurd (false≢true (sym e ∙ at t))
  | inr f ↦ f
]
  where
    back : k + 1 - 1 ≡ k
    back = omega arith

    at : are_all_red veh ≡ true → same_colour (get_or veh k Green) Red ≡ true
    at t = ap (λ (i : ℕ). same_colour (get_or veh i Green) Red) (sym back)
        ∙ every-phase (λ p. same_colour (colour_in veh p) Red) t (k + 1) (phase-is (k + 1) (omega arith) (omega (arith, few)))
