use Rattle.tick_context.proofs.context.TickContext.command_now.Goals as goal

pub returns : goal.returns
returns c = record { command = λ past k. c.command_now.ensures.command past k.unit_commands k.tables }
