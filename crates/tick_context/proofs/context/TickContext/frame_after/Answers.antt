use Rattle.std.proofs.Common.{refl}
use Rattle.tick_context.proofs.Frames.{frame-parts}
use Rattle.tick_context.proofs.context.TickContext.frame_after.Goals as goal

pub returns : goal.returns
returns c = record {
  frame = λ past r red p.
      frame-parts past c.args.mode c.args.veh c.args.ped c.on_in_ring.result c.on_in_ring-2.result c.args.tick_state.now.counter c.args.tick_state.now.target
      c.args.self.now.version
      p (c.on_in_ring.ensures.on past c.args.veh r.context red) (c.on_in_ring-2.ensures.on past c.args.veh r.context red)
      r.tick_state.counter r.tick_state.target r.context.version;
  veh = refl;
  ped = refl;
}
