use Rattle.std.proofs.Common.{sym, ap, arith}
use Rattle.sig_types.specs.declared.frame.Frame.{Frame}
use Rattle.sig_types.specs.Colour.{on_in}
use Rattle.engine.proofs.Engine.rings_left.Goals as goal

pub returns-then-is_empty : goal.returns-then-is_empty
returns-then-is_empty g c = record {
  left = λ past k keeps b looks some within.
      c.rings_left.ensures.left past k keeps.context b looks.demand (λ w. absurd (omega (arith, some, w))) (λ w. absurd (omega (arith, some, w))) some within;
}

pub returns : goal.returns
returns g c = record {
  left = λ past k keeps b looks some within.
      c.rings_left-2.ensures.left past k keeps.context b looks.demand
      (λ w. c.on_left-first.ensures.left past 1 k keeps b looks (ap (λ (f : Frame). on_in f 1) (sym keeps.context.frame)) some w)
      (λ w. c.on_left-second.ensures.left past 2 k keeps b looks (ap (λ (f : Frame). on_in f 2) (sym keeps.context.frame)) some w)
      some within;
}
