use Rattle.std.proofs.Common.{sym, ◌∙◌, ap, subst}
use Rattle.std.proofs.lemmas.Bool.{false≢true}
use Rattle.sig_types.specs.declared.frame.Mode.{Mode}
use Rattle.sig_tables.specs.Counters.{counter_in}
use Rattle.tick_context.specs.Modes.{is_coord}
use Rattle.tick_context.specs.Binds.{IsBound}
use Rattle.tick_context.proofs.Binds.{in-coord, no-counter}
use Rattle.tick_context.proofs.context.TickContext.counter.Goals as goal

pub returns-then-is_coord : goal.returns-then-is_coord
returns-then-is_coord c = record {
  counter = λ past k s b e.
      let (n, m) = in-coord c.args.mode (sym c.is_coord.ensures ∙ c.if-is_coord.true) in
      c.counter_on.ensures.counter past n k s (subst (λ (x : Mode). IsBound c.args.self.now.active_pattern past.tables x) m b) (sym e ∙ m)
      ∙ ap (λ (x : Mode). counter_in past.tables x c.args.target past.moments) (sym m);
  within = λ past n k s b e m.
      c.counter_on.ensures.within past n k s (subst (λ (x : Mode). IsBound c.args.self.now.active_pattern past.tables x) m b) (sym e ∙ m);
}

pub returns-else-is_coord : goal.returns-else-is_coord
returns-else-is_coord c = record {
  counter = λ past k s b e. no-counter past.tables c.args.mode c.args.target past.moments (sym c.is_coord.ensures ∙ c.if-is_coord.false);
  within = λ past n k s b e m. absurd (false≢true (sym (sym c.is_coord.ensures ∙ c.if-is_coord.false) ∙ ap is_coord m));
}
