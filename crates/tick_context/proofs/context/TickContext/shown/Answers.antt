use Rattle.std.proofs.Common.{◌∙◌}
use Rattle.tick_context.proofs.context.TickContext.shown.Goals as goal

pub returns : goal.returns
returns c = record {
  shown = λ past k. record {
    frame = k.frame;
    command = c.command.ensures.command past k.unit_commands;
    clock = c.clock.ensures.clock past k.unit_commands;
    vehicle = c.vehicle.ensures.has past k.calls;
    pedestrian = c.pedestrian.ensures.has past k.calls;
    requests = c.states.ensures.states past k.requests (c.ticks.ensures.ticks ∙ k.unit_commands.ticks);
    version = k.version;
  };
}
