-- What is kept represents one moment more at which nothing changes.
use Rattle.std.proofs.Common.{◌≡◌, ◌≤◌, ◌<◌, ◌+◌, ◌&&◌, ◌∷◌, [], ℕ, Bool, true, false, List, arith, refl, sym, ◌∙◌, ap}
use Rattle.std.proofs.lemmas.Bool.{false≢true}
use Rattle.std.proofs.lemmas.Bool.Decides.{Decides-eqb}
use Rattle.sig_types.specs.declared.frame.Mode.{Mode}
use Rattle.sig_types.specs.PhaseSet.{has, phases_of}
use Rattle.sig_types.specs.declared.phase_set.PhaseSet.{PhaseSet}
use Rattle.sig_types.specs.Phases.{is_phase, is_in}
use Rattle.sig_types.proofs.Sets.{in-phases}
use Rattle.sig_tables.specs.Modes.{stage_of}
use Rattle.sig_tables.specs.Calls.{is_green}
use Rattle.sig_tables.specs.Past.{Past, Moment}
use Rattle.sig_tables.specs.Decide.{with_moment}
use Rattle.sig_tables.proofs.Below.{phase-is}
use Rattle.preempt_run.specs.declared.Preempts.{Preempts}
use Rattle.phase_clock.specs.declared.member_runs.MemberRuns.{MemberRuns}
use Rattle.phase_clock.specs.MemberRuns.{MemberRunsStand}
use Rattle.preempt_stages.specs.Dwelling.{is_off, dwells_green, dwells_off}
use Rattle.preempt_run.specs.PreemptsKeep.{PreemptsStand, StaysBeside}
use Rattle.preempt_run.specs.Passed.{IsClear, passed}
use Rattle.preempt_stages.proofs.Goes.{same_mode-itself}
use Rattle.preempt_run.proofs.Called.{seen-on}
use Rattle.preempt_run.proofs.Runs.{mode-steps, stage-steps}

-- an empty set counts no moment at which the test fails
runs-none : (runs : MemberRuns) (steps p : ℕ) (test : Moment → Bool) (past : List Moment) (m : Moment) → phases_of runs.members ≡ []
    → is_phase p ≡ true → test m ≡ false → MemberRunsStand runs steps p test (m ∷ past)
runs-none runs steps p test past m none is e = record {
  inside = λ h. absurd (false≢true (sym (sym (in-phases (has runs.members) p is) ∙ ap (λ (xs : List ℕ). is_in xs p) none) ∙ h));
  outside = λ h. rw e refl;
}

pub preempts-on : (c : Preempts) (past : Past) (m : Moment) → PreemptsStand c past → IsClear c → StaysBeside past m
    → PreemptsStand (passed 1 c) (with_moment past m)
preempts-on c past m stands clear stays =
    let old : Mode = c.mode in
    let goes : m.frame.mode ≡ old = stays.mode ∙ sym stands.mode in
    record {
      steps = omega (arith, stands.steps);
      on = λ t i above within. sym (ap (λ (xs : List ℕ). is_in xs i) stays.saw ∙ seen-on c past stands i above within);
      inputs = λ i above within.
          let few : i ≤ 16 = omega arith in
          runs-none c.inputs (c.steps + 1) i (λ m. is_in m.preempts i) past.moments m clear.inputs (phase-is i above few)
          (ap (λ (xs : List ℕ). is_in xs i) stays.saw ∙ stays.none i above within);
      mode = sym goes;
      mode_run = mode-steps c.mode_since c.steps old old m past.moments true (sym (same_mode-itself old)) stands.mode goes stands.mode_run;
      stage_run = stage-steps c.stage_since c.steps old old m past.moments true
          (sym ((Decides-eqb (stage_of old) (stage_of old)).1 refl)) stands.mode goes stands.stage_run;
      green = λ p above within.
          runs-none c.green (c.steps + 1) p (dwells_green p) past.moments m clear.green (phase-is p above within)
          (ap (λ (b : Bool). b && is_green m.frame p) stays.beside);
      off = λ p above within.
          runs-none c.off (c.steps + 1) p (dwells_off p) past.moments m clear.off (phase-is p above within)
          (ap (λ (b : Bool). b && is_off m.frame p) stays.beside);
      fits = (stays.wide, stays.names, stands.fits);
    }

-- passing over ticks one by one comes to passing over them at once
pub passed-one : (k : ℕ) (c : Preempts) → passed 1 (passed k c) ≡ passed (k + 1) c
passed-one k c = let e : c.steps + k + 1 ≡ c.steps + (k + 1) = omega arith in ap (λ (n : ℕ). record c { steps = n }) e
