use Rattle.std.proofs.Common.{rules}
use Rattle.sig_types.specs.contracts.frame.ColourPartialEq.TheImpl.{eq-value}
use Rattle.tick_context.proofs.Pairs.{colour_pairs}
use Rattle.tick_context.proofs.telling.same_colours.Goals as goal

pub returns : goal.returns
returns c = colour_pairs eq-value.it _ c.args.last.now c.args.next.now c.eq.ensures (λ a b. search rules)
