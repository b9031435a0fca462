use Rattle.tick_laws.proofs.Beginning.{held-begin}
use Rattle.tick_laws.proofs.coordinated_ticks.held_begin_at_zero.Goals as goal

pub returns : goal.returns
returns c = held-begin
