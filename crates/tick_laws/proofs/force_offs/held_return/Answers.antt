use Rattle.std.specs.Prelude.{◌∷◌}
use Rattle.sig_types.specs.Colour.{colour_of}
use Rattle.tick_laws.proofs.Held.{held-step, held-green, held-stays, held-at_zero}
use Rattle.tick_laws.proofs.force_offs.held_return.Goals as goal

pub returns-clause-step : goal.returns-clause-step
returns-clause-step c = held-step

pub returns-clause-green : goal.returns-clause-green
returns-clause-green _ = λ t n q c l past early s. held-green t n q c (l ∷ past) (colour_of l.frame q) early s

pub returns-clause-stays : goal.returns-clause-stays
returns-clause-stays c = held-stays

pub returns-clause-at_zero : goal.returns-clause-at_zero
returns-clause-at_zero _ = λ t n q c l past last s. held-at_zero t n q c (l ∷ past) (colour_of l.frame q) last s
