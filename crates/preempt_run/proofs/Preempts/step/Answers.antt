use Rattle.std.proofs.Common.{◌≡◌, ◌≤◌, ℕ, true, List, length, sym, ◌∙◌, ap, arith}
use Rattle.sig_types.specs.declared.frame.Frame.{Frame}
use Rattle.sig_types.specs.Phases.{is_in}
use Rattle.sig_types.proofs.Sets.{empty-has}
use Rattle.sig_tables.proofs.Below.{phase-is}
use Rattle.preempt_stages.specs.Dwelling.{is_dwell, dwells_green, dwells_off}
use Rattle.preempt_stages.proofs.Goes.{one-mode}
use Rattle.preempt_run.proofs.Called.{seen-on}
use Rattle.preempt_run.proofs.Runs.{mode-steps, stage-steps}
use Rattle.preempt_run.proofs.Preempts.step.Goals as goal

pub returns-then-is_beside-clause-stands : goal.returns-then-is_beside-clause-stands
returns-then-is_beside-clause-stands c = λ past m stands frame saw names.
    let wide : length c.args.given.now.veh ≡ 16 = c.shows_sixteen.ensures.sixteen in
    let one : c.args.self.now.mode ≡ c.args.given.now.mode = one-mode _ _ (c.is_beside.ensures.same c.if-is_beside.true) in
    let mode : m.frame.mode ≡ c.args.given.now.mode = ap (λ (f : Frame). f.mode) frame in
    c.stay.ensures.stands past m stands (record {
      saw = saw;
      none = λ i above within.
          let few : i ≤ 16 = omega arith in
          seen-on c.args.self.now past stands i above within
          ∙ empty-has c.args.self.now.on i (phase-is i above few) (c.is_beside.ensures.none c.if-is_beside.true);
      mode = mode ∙ sym one ∙ stands.mode;
      beside = ap is_dwell mode ∙ c.is_beside.ensures.dwell c.if-is_beside.true;
      wide = rw frame wide;
      names = rw frame names;
    })

pub returns-clause-stands : goal.returns-clause-stands
returns-clause-stands c = λ past m stands frame saw names.
    let wide : length c.args.given.now.veh ≡ 16 = c.shows_sixteen.ensures.sixteen in
    let mode : m.frame.mode ≡ c.args.given.now.mode = ap (λ (f : Frame). f.mode) frame in
    record {
      steps = omega (arith, stands.steps);
      on = λ t i above within. sym (ap (λ (xs : List ℕ). is_in xs i) saw ∙ seen-on c.args.self.now past stands i above within);
      inputs = λ i above within.
          let few : i ≤ 16 = omega arith in
          c.step.ensures (λ m. is_in m.preempts i) past.moments m i above few
          (ap (λ (xs : List ℕ). is_in xs i) saw ∙ seen-on c.args.self.now past stands i above within) (stands.inputs i above within);
      mode = sym mode;
      mode_run = rw c.began-self-2.ensures
          (mode-steps c.args.self.now.mode_since c.args.self.now.steps c.args.self.now.mode c.args.given.now.mode m past.moments
          c.same_mode-goes_on.result c.same_mode-goes_on.ensures stands.mode mode stands.mode_run);
      stage_run = rw c.began-self.ensures
          (stage-steps c.args.self.now.stage_since c.args.self.now.steps c.args.self.now.mode c.args.given.now.mode m past.moments
          c.same_stage-goes_on.result c.same_stage-goes_on.ensures stands.mode mode stands.stage_run);
      green = λ p above within.
          c.step-2.ensures (dwells_green p) past.moments m p above within
          (rw frame (sym (c.dwelling_green.ensures p above within))) (stands.green p above within);
      off = λ p above within.
          c.step-3.ensures (dwells_off p) past.moments m p above within
          (rw frame (sym (c.dwelling_off.ensures p above within))) (stands.off p above within);
      fits = (rw frame wide, rw frame names, stands.fits);
    }
