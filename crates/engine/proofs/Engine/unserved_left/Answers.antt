use Rattle.std.proofs.Common.{inr, sym, ◌∙◌}
use Rattle.sig_tables.proofs.Below.{phase-is}
use Rattle.engine.proofs.Engine.unserved_left.Goals as goal

pub returns-then-has : goal.returns-then-has
returns-then-has g c = record {
  left = λ past k keeps green some within.
      let h = phase-is c.args.phase c.requires.above c.requires.within in
      inr (sym (keeps.signalling c.args.phase h) ∙ sym c.has.ensures.has ∙ c.if-has.true);
}

pub returns-else-has : goal.returns-else-has
returns-else-has g c = record {
  left = λ past k keeps green some within.
      c.least_left.ensures.left past k keeps.memory green some within;
}
