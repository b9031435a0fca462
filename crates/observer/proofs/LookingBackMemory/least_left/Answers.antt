use Rattle.std.proofs.Common.{inl, sym}
use Rattle.tick_context.proofs.Seen.{green-is}
use Rattle.observer.proofs.LookingBackMemory.least_left.Goals as goal

pub returns : goal.returns
returns c = record {
  left = λ past k keeps green some within.
      inl (c.colour_left.ensures.left past.moments past.tables k keeps.frame_history (sym (green-is _ green)) some within);
}
