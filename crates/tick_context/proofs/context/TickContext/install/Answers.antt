use Rattle.std.proofs.Common.{◌≡◌, ◌<◌, ◌≤◌, ◌+◌, ◌-◌, ℕ, length, refl, ap, arith}
use Rattle.sig_tables.specs.Past.{Install}
use Rattle.sig_tables.specs.Decide.{with_event}
use Rattle.sig_tables.specs.Seen.{frame_seen, moment_seen}
use Rattle.tick_context.proofs.Events.{moment-kept, calls-kept, unit_commands-kept, queue-kept}
use Rattle.tick_context.proofs.context.TickContext.install.Goals as goal

pub returns-clause-stands : goal.returns-clause-stands
returns-clause-stands c = λ past k.
    let some : 0 < length past.moments = k.some in
    let e : moment_seen past ≡ moment_seen (with_event (Install c.args.tables) past) =
    moment-kept past c.args.tables (length past.moments - 1) (omega arith) in
    let old : (frame_seen past).version ≤ past.version = k.old_frame in
    record {
      tables = refl;
      layout = c.of-self.ensures.laid;
      ordered = c.of-self.ensures.ordered;
      version = ap (λ (v : ℕ). v + 1) k.version;
      frame = k.frame;
      calls = calls-kept c.args.self.now.calls past c.args.tables e k.calls;
      requests = queue-kept c.args.self.now.requests past c.args.tables e k.requests;
      unit_commands = unit_commands-kept c.args.self.now.unit_commands past c.args.tables e k.unit_commands;
      active_pattern = c.none-self.ensures.stands c.args.tables;
      some = some;
      names = k.names;
      few_start = k.few_start;
      old_frame = omega arith;
    }
