use Rattle.std.proofs.Common.{sym, subst}
use Rattle.sig_types.specs.Phases.{is_in}
use Rattle.sig_tables.specs.declared.tables.Tables.{Tables}
use Rattle.sig_tables.specs.Goals.{goal_in}
use Rattle.sig_tables.specs.Layout.{Has}
use Rattle.preempt_stages.specs.Goals.{AreSought}
use Rattle.tick_context.proofs.Binds.{sought-set}
use Rattle.tick_context.proofs.context.TickContext.goal.Goals as goal

pub returns : goal.returns
returns c = record {
  goal = λ past k b.
      subst (λ (t : Tables). Has c.goal.result (is_in (goal_in t c.args.mode))) k.tables
      (c.goal.ensures.has (subst (λ (t : Tables). AreSought c.coordinated_pair.result t c.args.mode) (sym k.tables)
      (sought-set c.args.self.now.active_pattern past.tables c.args.mode c.coordinated_pair.result b c.coordinated_pair.ensures.pair)));
}
