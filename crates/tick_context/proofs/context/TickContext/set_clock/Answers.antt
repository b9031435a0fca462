use Rattle.tick_context.proofs.context.TickContext.set_clock.Goals as goal

pub returns-clause-stands : goal.returns-clause-stands
returns-clause-stands c = λ past k. record {
  tables = k.tables;
  layout = k.layout;
  ordered = k.ordered;
  version = k.version;
  frame = k.frame;
  calls = record { vehicle = k.calls.vehicle; pedestrian = k.calls.pedestrian; detectors = k.calls.detectors; turned_on = k.calls.turned_on };
  requests = λ i a b. let q = k.requests i a b in record { place = q.place; cancelled = q.cancelled; given = q.given; stays = q.stays; active = q.active };
  unit_commands = c.set_clock.ensures.stands past k.unit_commands;
  active_pattern = k.active_pattern;
  some = k.some;
  names = k.names;
  few_start = k.few_start;
  old_frame = k.old_frame;
}
