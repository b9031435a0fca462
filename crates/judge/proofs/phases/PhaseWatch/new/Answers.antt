use Rattle.judge.proofs.phases.PhaseWatch.new.Goals as goal

pub returns : goal.returns
returns c = λ tables p ph. record { colour = c.new.ensures tables p ph; signal = c.new-2.ensures tables p ph }
