-- The frame that a tick gives, and which parts of it are those of the last frame.
use Rattle.std.specs.Prelude.{◌≡◌, true}
use Rattle.sig_tables.specs.Past.{Past}
use Rattle.sig_tables.specs.Decide.{next_moment}
use Rattle.sig_tables.specs.Seen.{frame_seen}
use Rattle.engine.specs.declared.colouring.Next.{Next}
use Rattle.engine.specs.Shows.{ShowsColours}

-- the frame is that of the next tick, the sets are those of its colours, and the parts that are marked as kept are
-- those of the last frame
pub record Comes (n : Next) (past : Past) : Type 0 where
  pub frame : n.frame ≡ (next_moment past).frame
  pub shown : ShowsColours n.shown n.frame.veh
  pub colours : n.keeps_colours ≡ true → n.frame.veh ≡ (frame_seen past).veh
  pub signals : n.keeps_signals ≡ true → n.frame.ped ≡ (frame_seen past).ped
