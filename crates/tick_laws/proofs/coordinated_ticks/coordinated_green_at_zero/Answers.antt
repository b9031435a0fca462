use Rattle.tick_laws.proofs.Ticking.{picked-up, tick-keeps}
use Rattle.tick_laws.proofs.coordinated_ticks.coordinated_green_at_zero.Goals as goal

pub returns-clause-pickup : goal.returns-clause-pickup
returns-clause-pickup c = picked-up

pub returns-clause-tick : goal.returns-clause-tick
returns-clause-tick c = tick-keeps
