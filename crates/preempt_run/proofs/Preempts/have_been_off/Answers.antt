use Rattle.std.proofs.Common.{not, ◌||◌, ◌∙◌}
use Rattle.sig_types.specs.Phases.{all_phases, is_in}
use Rattle.sig_types.specs.PhaseSet.{has}
use Rattle.sig_types.proofs.Sets.{empty-is, listed-phase}
use Rattle.sig_tables.specs.Tables.{listed}
use Rattle.sig_tables.specs.Looking.{lasts}
use Rattle.sig_tables.proofs.Below.{is-above, is-within}
use Rattle.preempt_stages.specs.Dwelling.{dwells_off}
use Rattle.preempt_stages.proofs.Each.{not-some, every-same}
use Rattle.preempt_stages.proofs.Listed.{neither}
use Rattle.preempt_run.proofs.Runs.{runs-lasts}
use Rattle.preempt_run.proofs.Preempts.have_been_off.Goals as goal

pub returns : goal.returns
returns c = record {
  off = λ past stands.
      empty-is c.minus.result c.is_empty.result c.is_empty.ensures.empty
      ∙ not-some (has c.minus.result) all_phases
      ∙ every-same (λ p. not (has c.minus.result p))
      (λ p. is_in (listed c.args.goal.now) p || lasts c.args.ticks (dwells_off p) past.moments) all_phases
      (λ p i. let is = listed-phase p i in
      rw (
        c.minus.ensures.has p (is-within p is),
        c.short_of-not_off.ensures.short p (is-above p is) (is-within p is),
        c.phases_in.ensures.has p is,
        runs-lasts c.args.self.now.off c.args.self.now.steps p c.args.ticks (dwells_off p) past.moments
            (stands.off p (is-above p is) (is-within p is)),
      )
      (neither (lasts c.args.ticks (dwells_off p) past.moments) (is_in (listed c.args.goal.now) p)));
}
