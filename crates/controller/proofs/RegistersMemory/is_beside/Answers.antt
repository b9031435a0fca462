use Rattle.std.proofs.Common.{sym, ◌∙◌}
use Rattle.tick_context.proofs.Again.{no-preempts}
use Rattle.controller.proofs.RegistersMemory.is_beside.Goals as goal

pub returns : goal.returns
returns c = record { beside = λ past k t. sym (c.on.ensures.preempts past k.preempts) ∙ no-preempts c.on.result (c.is_empty.ensures.empty.0 t) }
