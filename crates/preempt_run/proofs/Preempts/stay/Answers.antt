use Rattle.std.proofs.Common.{◌≡◌, ◌&&◌, ℕ, List, Bool, true, refl, sym, ◌∙◌, ap, arith}
use Rattle.std.proofs.lemmas.Bool.Decides.{Decides-eqb}
use Rattle.sig_types.specs.declared.frame.Mode.{Mode}
use Rattle.sig_types.specs.Phases.{is_in}
use Rattle.sig_tables.specs.Modes.{stage_of}
use Rattle.sig_tables.specs.Calls.{is_green}
use Rattle.preempt_stages.specs.Dwelling.{is_off, dwells_green, dwells_off}
use Rattle.preempt_stages.proofs.Goes.{same_mode-itself}
use Rattle.preempt_run.proofs.Called.{seen-on}
use Rattle.preempt_run.proofs.Runs.{mode-steps, stage-steps}
use Rattle.preempt_run.proofs.Preempts.stay.Goals as goal

pub returns-clause-stands : goal.returns-clause-stands
returns-clause-stands c = λ past m stands stays.
    let old : Mode = c.args.self.now.mode in
    let goes : m.frame.mode ≡ old = stays.mode ∙ sym stands.mode in
    record {
      steps = omega (arith, stands.steps);
      on = λ t i above within. sym (ap (λ (xs : List ℕ). is_in xs i) stays.saw ∙ seen-on c.args.self.now past stands i above within);
      inputs = λ i above within.
          c.clear.ensures (λ m. is_in m.preempts i) past.moments m i _
          (ap (λ (xs : List ℕ). is_in xs i) stays.saw ∙ stays.none i above within);
      mode = sym goes;
      mode_run = mode-steps c.args.self.now.mode_since c.args.self.now.steps old old m past.moments true (sym (same_mode-itself old))
          stands.mode goes stands.mode_run;
      stage_run = stage-steps c.args.self.now.stage_since c.args.self.now.steps old old m past.moments true
          (sym ((Decides-eqb (stage_of old) (stage_of old)).1 refl)) stands.mode goes stands.stage_run;
      green = λ p above within. c.clear-2.ensures (dwells_green p) past.moments m p _ (ap (λ (b : Bool). b && is_green m.frame p) stays.beside);
      off = λ p above within. c.clear-3.ensures (dwells_off p) past.moments m p _ (ap (λ (b : Bool). b && is_off m.frame p) stays.beside);
      fits = (stays.wide, stays.names, stands.fits);
    }
