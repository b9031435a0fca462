use Rattle.std.proofs.Common.{not, ◌&&◌, refl, sym, ◌∙◌, ap}
use Rattle.sig_types.specs.Phases.{all_phases}
use Rattle.sig_types.specs.PhaseSet.{has}
use Rattle.sig_types.proofs.Sets.{empty-is, some-same, listed-phase}
use Rattle.sig_tables.specs.Tables.{listed}
use Rattle.sig_tables.specs.Looking.{lasts}
use Rattle.sig_tables.proofs.Below.{is-above, is-within}
use Rattle.preempt_stages.specs.Dwelling.{dwells_green}
use Rattle.preempt_stages.proofs.Covered.{is_due, covered}
use Rattle.preempt_run.proofs.Dwelt.{beyond-green}
use Rattle.preempt_run.proofs.Runs.{runs-lasts}
use Rattle.preempt_run.proofs.Preempts.have_been_green.Goals as goal

pub returns : goal.returns
returns c = record {
  green = λ past stands dwell.
      empty-is c.meet.result c.is_empty.result c.is_empty.ensures.empty
      ∙ ap not (some-same (has c.meet.result)
      (λ p. is_due (listed c.args.goal.now) p && not (lasts c.args.ticks (dwells_green p) past.moments)) all_phases
      (λ p i. let is = listed-phase p i in
      c.meet.ensures.has p
      ∙ rw (
        c.due_green.ensures p (is-above p is) (is-within p is),
        c.short_of-not_green.ensures.short p (is-above p is) (is-within p is),
        runs-lasts c.args.self.now.green c.args.self.now.steps p c.args.ticks (dwells_green p) past.moments
            (stands.green p (is-above p is) (is-within p is)),
      ) refl))
      ∙ sym (covered (λ q. lasts c.args.ticks (dwells_green q) past.moments) (listed c.args.goal.now) refl
      (λ q many. beyond-green c.args.ticks q past.moments many stands.fits dwell));
}
