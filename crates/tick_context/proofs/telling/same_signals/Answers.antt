use Rattle.std.proofs.Common.{rules}
use Rattle.sig_types.specs.contracts.frame.PedPartialEq.TheImpl.{eq-value}
use Rattle.tick_context.proofs.Pairs.{signal_pairs}
use Rattle.tick_context.proofs.telling.same_signals.Goals as goal

pub returns : goal.returns
returns c = signal_pairs eq-value.it _ c.args.last.now c.args.next.now c.eq.ensures (λ a b. search rules)
