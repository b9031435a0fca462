use Rattle.std.proofs.Common.{sym, subst}
use Rattle.sig_types.specs.declared.frame.Mode.{Mode}
use Rattle.sig_types.specs.Phases.{is_in}
use Rattle.sig_tables.specs.Layout.{Has}
use Rattle.sig_tables.specs.Modes.{bound}
use Rattle.tick_context.specs.Binds.{IsBound}
use Rattle.tick_context.specs.Lasting.{ModeLasts, opposed_with}
use Rattle.engine.proofs.Engine.mode_left.Goals as goal

pub returns-then-stays_at_free-clause-left : goal.returns-then-stays_at_free-clause-left
returns-then-stays_at_free-clause-left g c = λ past k keeps b fresh even o some within.
    subst (λ (m : Mode). ModeLasts m k past) (sym c.in-Free.is)
    (c.stays_at_free.ensures.free past keeps fresh
    (subst (λ (m : Mode). Has c.args.opposed (is_in (opposed_with (bound m) past))) c.in-Free.is o) c.if-stays_at_free.true)

pub returns-in-Coord-clause-left : goal.returns-in-Coord-clause-left
returns-in-Coord-clause-left g c = λ past k keeps b fresh even o some within.
    subst (λ (m : Mode). ModeLasts m k past) (sym c.in-Coord.is)
    (c.step_left.ensures.left past k keeps (subst (λ (m : Mode). IsBound c.args.self.now.context.active_pattern past.tables m) c.in-Coord.is b) fresh even some within)
