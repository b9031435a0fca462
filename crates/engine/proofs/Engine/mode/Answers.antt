use Rattle.std.proofs.Common.{ℕ, sym, ◌∙◌, ap}
use Rattle.sig_tables.specs.declared.tables.Tables.{Tables}
use Rattle.sig_tables.specs.Choosing.{mode_sought}
use Rattle.preempt_stages.specs.Inputs.{preempts_seen}
use Rattle.engine.proofs.Engine.mode.Goals as goal

pub returns : goal.returns
unfolding preempts_seen
returns g c = record {
  mode = λ past k e.
      c.sought.ensures (preempts_seen past) past.moments (sym k.context.frame) (λ s. c.start_run.ensures.start past k.memory k.context.few_start) (c.stage.ensures.stage past k.memory k.context)
      ∙ ap (λ (t : Tables). mode_sought t c.args.self.now.context.version c.args.command (preempts_seen past) past.moments) k.context.tables
      ∙ ap (λ (v : ℕ). mode_sought past.tables v c.args.command (preempts_seen past) past.moments) k.context.version
      ∙ ap (λ (n : ℕ). mode_sought past.tables past.version n (preempts_seen past) past.moments) e;
}
