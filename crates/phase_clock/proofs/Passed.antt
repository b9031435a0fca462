-- What is kept represents one moment more at which nothing changes.
use Rattle.std.proofs.Common.{◌≡◌, ◌≤◌, ◌+◌, ◌&&◌, not, ℕ, Bool, true, List, ◌∷◌, get_or, arith, refl, sym, ◌∙◌, ap}
use Rattle.sig_types.specs.declared.frame.Colour.{Colour}
use Rattle.sig_types.specs.declared.frame.Colour.TheVariants.{Green}
use Rattle.sig_types.specs.declared.phase_set.PhaseSet.{PhaseSet}
use Rattle.sig_types.specs.Phases.{is_phase, is_in}
use Rattle.sig_types.specs.PhaseSet.{has}
use Rattle.sig_types.specs.Colour.{colour_in, same_colour}
use Rattle.sig_tables.specs.Past.{Moment}
use Rattle.sig_tables.specs.Looking.{last_frame}
use Rattle.sig_tables.specs.Calls.{is_green}
use Rattle.sig_tables.proofs.Below.{phase-is}
use Rattle.phase_clock.specs.declared.Clocks.{Clocks}
use Rattle.phase_clock.specs.declared.member_runs.MemberRuns.{MemberRuns}
use Rattle.phase_clock.specs.MemberRuns.{MemberRunsStand}
use Rattle.phase_clock.specs.ClocksStand.{ClocksStand}
use Rattle.phase_clock.specs.Passed.{IsSteady, passed}
use Rattle.phase_clock.proofs.IntervalsGoOn.{colour_goes_on}

-- a set that stays is counted on
runs-on : (runs : MemberRuns) (steps p : ℕ) (test : Moment → Bool) (past : List Moment) (m : Moment) → test m ≡ has runs.members p
    → MemberRunsStand runs steps p test past → MemberRunsStand runs (steps + 1) p test (m ∷ past)
runs-on runs steps p test past m e stands = record {
  inside = λ h. rw (e ∙ h) (omega (arith, stands.inside h));
  outside = λ h. rw (e ∙ h) refl;
}

pub clocks-on : (c : Clocks) (active opposed : PhaseSet) (past : List Moment) (m : Moment) → ClocksStand c past → IsSteady c active opposed
    → m.frame.veh ≡ (last_frame past).veh
    → ((p : ℕ) → is_phase p ≡ true → is_in m.quiet p ≡ (is_green (last_frame past) p && not (has active p)))
    → ((p : ℕ) → is_phase p ≡ true → is_in m.opposed p ≡ (is_green (last_frame past) p && has opposed p))
    → ClocksStand (passed 1 c) (m ∷ past)
clocks-on c active opposed past m stands steady now quiet pressed = record {
  steps = omega (arith, stands.steps);
  shown = stands.shown ∙ sym now;
  green = λ p above within. stands.green p above within ∙ ap (λ (veh : List Colour). same_colour (colour_in veh p) Green) (sym now);
  intervals = λ p above within. colour_goes_on _ p _ _ past m refl (rw now (stands.intervals p above within));
  quiet = λ p above within.
      runs-on c.quiet c.steps p (λ m. is_in m.quiet p) past m
      (quiet p (phase-is p above within)
      ∙ sym (steady.quiet p within ∙ ap (λ (b : Bool). b && not (has active p)) (stands.green p above within)))
      (stands.quiet p above within);
  opposed = λ p above within.
      runs-on c.opposed c.steps p (λ m. is_in m.opposed p) past m
      (pressed p (phase-is p above within)
      ∙ sym (steady.pressed p ∙ ap (λ (b : Bool). b && has opposed p) (stands.green p above within)))
      (stands.opposed p above within);
}

-- passing over ticks one by one comes to passing over them at once
pub passed-one : (k : ℕ) (c : Clocks) → passed 1 (passed k c) ≡ passed (k + 1) c
passed-one k c = let e : c.steps + k + 1 ≡ c.steps + (k + 1) = omega arith in ap (λ (n : ℕ). record c { steps = n }) e
