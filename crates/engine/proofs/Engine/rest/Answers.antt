use Rattle.std.proofs.Common.{◌≡◌, [], None, sym, ◌∙◌, ap}
use Rattle.sig_types.specs.declared.frame.Mode.{Mode}
use Rattle.sig_types.specs.Phases.{is_in}
use Rattle.sig_tables.specs.Modes.{bound}
use Rattle.sig_tables.specs.Seen.{frame_seen, mode_seen, quiet_with, demand_with}
use Rattle.tick_context.proofs.Again.{unopposed}
use Rattle.engine.proofs.Engine.rest.Goals as goal

pub returns-clause-keeps : goal.returns-clause-keeps
returns-clause-keeps g c = λ past k beside e none r.
    let free : demand_with (bound (mode_seen past)) past ≡ [] = ap (λ (x : Mode). demand_with (bound x) past) r.mode ∙ none in
    c.repeat.ensures.keeps past (record {
      context = record {
        tables = k.context.tables;
        layout = k.context.layout;
        ordered = k.context.ordered;
        version = k.context.version;
        frame = k.context.frame;
        calls = record { vehicle = k.context.calls.vehicle; pedestrian = k.context.calls.pedestrian; detectors = k.context.calls.detectors; turned_on = k.context.calls.turned_on };
        requests = k.context.requests;
        unit_commands = record {
          command = k.context.unit_commands.command;
          since = k.context.unit_commands.since;
          clock = k.context.unit_commands.clock;
          ticks = k.context.unit_commands.ticks;
          gain = k.context.unit_commands.gain;
          lose = k.context.unit_commands.lose;
        };
        active_pattern = k.context.active_pattern;
        some = k.context.some;
        names = k.context.names;
        few_start = k.context.few_start;
        old_frame = k.context.old_frame;
      };
      memory = k.memory;
      shown = k.shown;
      walking = k.walking;
      signalling = k.signalling;
    }) beside e (c.clock_now-clock.ensures.clock past k.context.unit_commands)
    (λ p h. ap (λ (x : Mode). is_in (quiet_with (bound x) past) p) r.mode ∙ c.active-active.ensures.quiet None past k.context.calls k.context.layout tt p h)
    (λ p h. c.empty.ensures.has p ∙ sym (unopposed past.tables (frame_seen past) _ p h free))
    r
