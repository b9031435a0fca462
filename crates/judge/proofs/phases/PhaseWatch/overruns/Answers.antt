use Rattle.judge.proofs.phases.PhaseWatch.overruns.Goals as goal

pub returns : goal.returns
returns c = λ p joined tables older follows. record {
  yellow = c.overrun.ensures p joined tables older follows.colour;
  clear = c.overrun-2.ensures p joined tables older follows.colour;
  walk = c.overrun-3.ensures p joined tables older follows.signal;
  flash = c.overrun-4.ensures p joined tables older follows.signal;
}
