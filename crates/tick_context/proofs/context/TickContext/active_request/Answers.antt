use Rattle.std.proofs.Common.{◌+◌, ℕ, sym, ◌∙◌, ap, subst}
use Rattle.sig_types.specs.declared.frame.Mode.{Mode}
use Rattle.sig_types.specs.declared.frame.Mode.TheVariants.{Coord}
use Rattle.sig_tables.specs.Priority.{active_in}
use Rattle.sig_tables.specs.Seen.{moment_seen}
use Rattle.prio_queue.specs.Places.{some_number}
use Rattle.tick_context.specs.Binds.{ActivePatternIs, IsBound}
use Rattle.tick_context.proofs.Binds.{in-coord, no-request}
use Rattle.tick_context.proofs.context.TickContext.active_request.Goals as goal

pub returns-then-is_coord : goal.returns-then-is_coord
returns-then-is_coord c = record {
  active = λ past k b.
      let (n, m) = in-coord c.args.mode (sym c.is_coord.ensures ∙ c.if-is_coord.true) in
      let is : ActivePatternIs c.args.self.now.active_pattern past.tables n = subst (λ (x : Mode). IsBound c.args.self.now.active_pattern past.tables x) m b in
      c.active.ensures.active past past.tables n k.requests is.options.coordinated
      ∙ ap (λ (i : ℕ). some_number (active_in past.tables (Coord n) (i + 1) past.asked)) (c.ticks.ensures.ticks ∙ k.unit_commands.ticks)
      ∙ ap (λ (x : Mode). some_number (active_in past.tables x ((moment_seen past).number + 1) past.asked)) (sym m);
}

pub returns-else-is_coord : goal.returns-else-is_coord
returns-else-is_coord c = record {
  active = λ past k b.
      no-request past.tables c.args.mode ((moment_seen past).number + 1) past.asked (sym c.is_coord.ensures ∙ c.if-is_coord.false);
}
