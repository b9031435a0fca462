use Rattle.tick_context.proofs.context.TickContext.input.Goals as goal

pub returns-clause-stands : goal.returns-clause-stands
returns-clause-stands c = λ past k. record {
  tables = k.tables;
  layout = k.layout;
  ordered = k.ordered;
  version = k.version;
  frame = k.frame;
  calls = c.input.ensures.stands past k.calls k.layout k.frame;
  requests = λ i a b. let q = k.requests i a b in record { place = q.place; cancelled = q.cancelled; given = q.given; stays = q.stays; active = q.active };
  unit_commands = record {
    command = k.unit_commands.command;
    since = k.unit_commands.since;
    clock = k.unit_commands.clock;
    ticks = k.unit_commands.ticks;
    gain = k.unit_commands.gain;
    lose = k.unit_commands.lose;
  };
  active_pattern = k.active_pattern;
  some = k.some;
  names = k.names;
  few_start = k.few_start;
  old_frame = k.old_frame;
}
