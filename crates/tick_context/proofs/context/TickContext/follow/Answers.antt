use Rattle.std.proofs.Common.{sym, subst}
use Rattle.sig_types.specs.declared.frame.Mode.{Mode}
use Rattle.sig_tables.specs.declared.tables.Tables.{Tables}
use Rattle.tick_context.specs.Binds.{ActivePatternStands, IsBound, Names}
use Rattle.tick_context.proofs.Steps.{mode-named}
use Rattle.tick_context.proofs.context.TickContext.follow.Goals as goal

pub returns-clause-stands : goal.returns-clause-stands
returns-clause-stands c = λ past k. record {
  tables = k.tables;
  layout = k.layout;
  ordered = k.ordered;
  version = k.version;
  frame = k.frame;
  calls = k.calls;
  requests = k.requests;
  unit_commands = k.unit_commands;
  active_pattern = subst (λ (t : Tables). ActivePatternStands c.follow.new.self t) k.tables
      (c.follow.ensures.stands (subst (λ (t : Tables). ActivePatternStands c.args.self.now.active_pattern t) (sym k.tables) k.active_pattern));
  some = k.some;
  names = k.names;
  few_start = k.few_start;
  old_frame = k.old_frame;
}

pub returns-clause-bound : goal.returns-clause-bound
returns-clause-bound c = λ past k e.
    subst (λ (t : Tables). IsBound c.follow.new.self t c.args.mode) k.tables
    (c.follow.ensures.bound
    (subst (λ (t : Tables). ActivePatternStands c.args.self.now.active_pattern t) (sym k.tables) k.active_pattern)
    (subst (λ (t : Tables). Names t c.args.mode) (sym k.tables) (subst (λ (m : Mode). Names past.tables m) (sym e) (mode-named past))))
