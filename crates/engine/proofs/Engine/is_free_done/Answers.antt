use Rattle.std.proofs.Common.{sym, ◌∙◌, ap}
use Rattle.sig_types.specs.declared.frame.Mode.{Mode}
use Rattle.sig_tables.specs.Modes.{bound}
use Rattle.sig_tables.specs.View.{is_reasoned}
use Rattle.sig_tables.specs.Seen.{view_seen}
use Rattle.tick_context.proofs.Seen.{done-unreasoned, done-served}
use Rattle.engine.proofs.Engine.is_free_done.Goals as goal

pub returns-then-free_reason : goal.returns-then-free_reason
returns-then-free_reason g c = record {
  done = λ past k mode on green a o.
      done-served past c.args.phase c.is_served.result
      (ap (λ (m : Mode). is_reasoned (bound m) (view_seen past) c.args.phase) mode
      ∙ sym (c.free_reason.ensures.reason past k on a o) ∙ c.if-free_reason.true) on green
      (c.is_served.ensures.served past k.memory k.context green);
}

pub returns-else-free_reason : goal.returns-else-free_reason
returns-else-free_reason g c = record {
  done = λ past k mode on green a o.
      done-unreasoned past c.args.phase
      (ap (λ (m : Mode). is_reasoned (bound m) (view_seen past) c.args.phase) mode
      ∙ sym (c.free_reason.ensures.reason past k on a o) ∙ c.if-free_reason.false);
}
