use Rattle.std.proofs.Common.{◌≡◌, ◌-◌, get_or, inl, inr, sym, ◌∙◌, ap, arith}
use Rattle.sig_types.specs.declared.frame.Frame.{Frame}
use Rattle.sig_tables.specs.declared.plan.Plan.{Plan}
use Rattle.sig_tables.specs.Slots.{force_point, window, least_service}
use Rattle.sig_tables.specs.Seen.{frame_seen}
use Rattle.sig_tables.proofs.Below.{phase-is}
use Rattle.tick_context.proofs.Left.{force-kept}
use Rattle.tick_context.proofs.context.TickContext.full_left.Goals as goal

pub returns-then-from-least : goal.returns-then-from-least
returns-then-from-least c = record {
  left = λ past n k keeps is some within.
      let h = phase-is c.args.phase c.requires.above c.requires.within in
      let at : get_or c.args.self.now.active_pattern.plan.force (c.args.phase - 1) 0 ≡ force_point past.tables n c.args.phase =
      force-kept c.args.self.now.active_pattern past.tables n c.args.phase is h in
      let service : get_or c.args.self.now.active_pattern.services (c.args.phase - 1) 0 ≡ least_service past.tables c.args.phase =
      is.services c.args.phase h in
      let counter : c.args.self.now.frame.counter ≡ (frame_seen past).counter = ap (λ (f : Frame). f.counter) keeps.frame in
      (sym (is.options.coordinated c.args.phase h) ∙ sym c.has.ensures.has ∙ c.if-has.false, inl (omega (arith, at, service, counter, some, within)));
}

pub returns-else-from-least : goal.returns-else-from-least
returns-else-from-least c = record {
  left = λ past n k keeps is some within.
      let h = phase-is c.args.phase c.requires.above c.requires.within in
      let end : c.args.self.now.active_pattern.plan.window ≡ window past.tables n = ap (λ (x : Plan). x.window) is.plan in
      let counter : c.args.self.now.frame.counter ≡ (frame_seen past).counter = ap (λ (f : Frame). f.counter) keeps.frame in
      (sym (is.options.coordinated c.args.phase h) ∙ sym c.has.ensures.has ∙ c.if-has.false, inr (omega (arith, end, counter, some, within)));
}
