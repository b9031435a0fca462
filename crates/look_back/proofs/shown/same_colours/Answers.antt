use Rattle.std.proofs.Common.{rules}
use Rattle.sig_types.specs.contracts.frame.ColourPartialEq.TheImpl.{eq-value}
use Rattle.look_back.proofs.Pairs.{colour-pairs}
use Rattle.look_back.proofs.shown.same_colours.Goals as goal

pub returns : goal.returns
returns c = colour-pairs eq-value.it _ c.args.last.now c.args.next.now c.eq.ensures (λ a b. search rules)
