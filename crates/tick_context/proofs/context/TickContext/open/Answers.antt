use Rattle.std.proofs.Common.{refl, arith}
use Rattle.sig_tables.specs.Decide.{opened}
use Rattle.call_store.specs.CallsStand.{CallsStand}
use Rattle.tick_context.proofs.context.TickContext.open.Goals as goal

pub returns-clause-stands : goal.returns-clause-stands
returns-clause-stands c =
    let s : CallsStand c.new.result (opened c.args.tables) = c.new.ensures.stands c.args.tables in
    record {
      tables = refl;
      layout = c.of-layout.ensures.laid;
      ordered = c.of-layout.ensures.ordered;
      version = refl;
      frame = c.first_frame.ensures;
      calls = record { vehicle = s.vehicle; pedestrian = s.pedestrian; detectors = s.detectors; turned_on = s.turned_on };
      requests = λ i a b. let q = c.new-2.ensures.stands c.args.tables i a b in
          record { place = q.place; cancelled = q.cancelled; given = q.given; stays = q.stays; active = q.active };
      unit_commands = c.of.ensures.stands c.args.tables;
      active_pattern = c.none.ensures.stands c.args.tables;
      some = omega arith;
      names = record { first = omega arith; second = omega arith };
      few_start = omega arith;
      old_frame = omega arith;
    }
