use Rattle.std.proofs.Common.{sym}
use Rattle.sig_tables.specs.Seen.{view_seen}
use Rattle.observer.proofs.LookingBackMemory.has_maximum.Goals as goal

pub returns : goal.returns
returns c = record {
  maximum = λ past k x o. c.has_maximum.ensures (view_seen past) (c.window.ensures past.moments k.frame_history) (sym x.tables) o;
}
