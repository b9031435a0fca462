use Rattle.std.proofs.Common.{sym, ◌∙◌}
use Rattle.tick_context.proofs.Seen.{done-unreasoned, done-served}
use Rattle.engine.proofs.Engine.is_done.Goals as goal

pub returns-then-has_reason : goal.returns-then-has_reason
returns-then-has_reason g c = record {
  done = λ past r on green a o.
      done-served past c.args.phase c.is_served.result (sym (c.has_reason.ensures.reason past r on green a o) ∙ c.if-has_reason.true) on green
      (c.is_served.ensures.served past r.keeps.memory r.keeps.context green);
}

pub returns-else-has_reason : goal.returns-else-has_reason
returns-else-has_reason g c = record {
  done = λ past r on green a o. done-unreasoned past c.args.phase (sym (c.has_reason.ensures.reason past r on green a o) ∙ c.if-has_reason.false);
}
