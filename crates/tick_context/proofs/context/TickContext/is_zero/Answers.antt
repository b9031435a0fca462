use Rattle.std.proofs.Common.{◌≡◌, sym, ◌∙◌, ap, arith}
use Rattle.sig_types.specs.declared.frame.Frame.{Frame}
use Rattle.sig_types.specs.declared.frame.Mode.TheVariants.{Coord}
use Rattle.sig_types.specs.Colour.{same_mode}
use Rattle.sig_tables.specs.TickState.{tick_state_of}
use Rattle.sig_tables.specs.Seen.{frame_seen}
use Rattle.tick_context.proofs.Pickups.{zero-is}
use Rattle.tick_context.proofs.context.TickContext.is_zero.Goals as goal

pub returns-else-self-ne0 : goal.returns-else-self-ne0
returns-else-self-ne0 c = record {
  zero = λ past r.
      let first : c.args.tick_state.now.counter ≡ 0 = omega (arith, c.if-tick_state-ne0.false) in
      let second : c.args.self.now.frame.counter ≡ 0 = omega (arith, c.if-self-ne0.false) in
      zero-is c.in-Coord.pattern (tick_state_of past).counter (frame_seen past) c.args.mode c.is_coord_of.result c.in-Coord.is
      (sym r.tick_state.counter ∙ first) (sym (ap (λ (f : Frame). f.counter) r.context.frame) ∙ second)
      (c.is_coord_of.ensures ∙ ap (λ (f : Frame). same_mode f.mode (Coord c.in-Coord.pattern)) r.context.frame);
}
