use Rattle.std.proofs.Common.{rules}
use Rattle.sig_types.specs.contracts.frame.PedPartialEq.TheImpl.{eq-value}
use Rattle.look_back.proofs.Pairs.{signal-pairs}
use Rattle.look_back.proofs.shown.same_signals.Goals as goal

pub returns : goal.returns
returns c = signal-pairs eq-value.it _ c.args.last.now c.args.next.now c.eq.ensures (λ a b. search rules)
