use Rattle.std.proofs.Common.{◌∙◌}
use Rattle.tick_context.proofs.context.TickContext.request.Goals as goal

pub returns-clause-stands : goal.returns-clause-stands
returns-clause-stands c = λ past k. record {
  tables = k.tables;
  layout = k.layout;
  ordered = k.ordered;
  version = k.version;
  frame = k.frame;
  calls = record { vehicle = k.calls.vehicle; pedestrian = k.calls.pedestrian; detectors = k.calls.detectors; turned_on = k.calls.turned_on };
  requests = c.request.ensures.stands past k.requests (c.ticks-ticks.ensures.ticks ∙ k.unit_commands.ticks);
  unit_commands = record {
    command = k.unit_commands.command;
    since = k.unit_commands.since;
    clock = k.unit_commands.clock;
    ticks = k.unit_commands.ticks;
    gain = k.unit_commands.gain;
    lose = k.unit_commands.lose;
  };
  active_pattern = k.active_pattern;
  some = k.some;
  names = k.names;
  few_start = k.few_start;
  old_frame = k.old_frame;
}
