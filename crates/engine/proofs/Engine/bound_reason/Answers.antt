use Rattle.std.proofs.Common.{◌≡◌, ℕ, refl, sym, ◌∙◌, ap}
use Rattle.sig_types.specs.declared.frame.Colour.TheVariants.{Green}
use Rattle.sig_types.specs.Colour.{colour_of}
use Rattle.sig_tables.specs.Coordinating.{is_released}
use Rattle.sig_tables.specs.Looking.{run}
use Rattle.sig_tables.specs.TickState.{tick_state_of}
use Rattle.sig_tables.specs.Seen.{frame_seen}
use Rattle.sig_tables.proofs.Below.{phase-is}
use Rattle.tick_context.proofs.Running.{active_pattern-in}
use Rattle.engine.proofs.Running.{runs-context}
use Rattle.tick_context.proofs.Seen.{green-is}
use Rattle.tick_context.proofs.Causes.{held-reason, asked-reason, gap-reason, fill-reason}
use Rattle.engine.proofs.Engine.bound_reason.Goals as goal

pub returns-then-has : goal.returns-then-has
returns-then-has g c = record {
  reason = λ past n r e on green a.
      let b = active_pattern-in c.args.self.now.context c.args.tick_state.now past n (runs-context _ _ past r) e in
      let h = phase-is c.args.phase c.requires.above c.requires.within in
      held-reason past n c.args.phase c.released.result (sym (b.options.coordinated c.args.phase h) ∙ sym c.has.ensures.has ∙ c.if-has.true)
      (c.released.ensures.released past.tables n (tick_state_of past).active b.plan (c.extension.ensures.extension past
      (tick_state_of past).active r.keeps r.tick_state.active)
      ∙ ap (λ (k : ℕ). is_released past.tables n k (tick_state_of past).active c.args.phase) r.tick_state.counter);
}

pub returns-then-is_asked : goal.returns-then-is_asked
returns-then-is_asked g c = record {
  reason = λ past n r e on green a.
      let b = active_pattern-in c.args.self.now.context c.args.tick_state.now past n (runs-context _ _ past r) e in
      let h = phase-is c.args.phase c.requires.above c.requires.within in
      asked-reason past n c.args.phase (sym (b.options.coordinated c.args.phase h) ∙ sym c.has.ensures.has ∙ c.if-has.false)
      (sym (c.is_asked.ensures (tick_state_of past).active r.tick_state.active) ∙ c.if-is_asked.true);
}

pub returns-then-gaps : goal.returns-then-gaps
returns-then-gaps g c = record {
  reason = λ past n r e on green a.
      let b = active_pattern-in c.args.self.now.context c.args.tick_state.now past n (runs-context _ _ past r) e in
      let h = phase-is c.args.phase c.requires.above c.requires.within in
      gap-reason past n c.args.phase (sym (b.options.coordinated c.args.phase h) ∙ sym c.has.ensures.has ∙ c.if-has.false)
      (sym (c.gaps.ensures.gap past r.keeps on a) ∙ c.if-gaps.true);
}

pub returns-else-gaps : goal.returns-else-gaps
returns-else-gaps g c = record {
  reason = λ past n r e on green a.
      let b = active_pattern-in c.args.self.now.context c.args.tick_state.now past n (runs-context _ _ past r) e in
      let h = phase-is c.args.phase c.requires.above c.requires.within in
      let shown : colour_of (frame_seen past) c.args.phase ≡ Green = green-is _ green in
      fill-reason past n c.args.phase (run c.args.phase Green past.moments) c.has_filled.result (sym (b.options.coordinated c.args.phase h) ∙ sym c.has.ensures.has ∙ c.if-has.false)
      (sym (c.is_asked.ensures (tick_state_of past).active r.tick_state.active) ∙ c.if-is_asked.false)
      (sym (c.gaps.ensures.gap past r.keeps on a) ∙ c.if-gaps.false)
      refl
      (c.has_filled.ensures.filled past n r.keeps.memory (runs-context _ _ past r) e green);
}
