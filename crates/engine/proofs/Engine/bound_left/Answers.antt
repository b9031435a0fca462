use Rattle.std.proofs.Common.{◌≡◌, false, Some, inl, inr, sym, ◌∙◌, ap, arith}
use Rattle.sig_tables.specs.declared.plan.Plan.{Plan}
use Rattle.sig_tables.specs.Coordinating.{is_floating}
use Rattle.sig_tables.proofs.Below.{phase-is}
use Rattle.engine.proofs.Engine.bound_left.Goals as goal

pub returns-then-has : goal.returns-then-has
returns-then-has g c = record {
  left = λ past n k keeps b a some within.
      let h = phase-is c.args.phase c.requires.above c.requires.within in
      inl (sym (b.options.coordinated c.args.phase h) ∙ sym c.has.ensures.has ∙ c.if-has.true, c.force_left.ensures.left past n k keeps.context b some within);
}

pub returns-then-self : goal.returns-then-self
returns-then-self g c = record {
  left = λ past n k keeps b a some within. absurd (omega (arith, some, within));
}

pub returns-else-self : goal.returns-else-self
returns-else-self g c = record {
  left = λ past n k keeps b a some within.
      let h = phase-is c.args.phase c.requires.above c.requires.within in
      let fixed : is_floating past.tables ≡ false = sym (ap (λ (x : Plan). x.floating) b.plan) ∙ c.if-self.false in
      inr (sym (b.options.coordinated c.args.phase h) ∙ sym c.has.ensures.has ∙ c.if-has.false, (fixed, c.gap_left.ensures.left past (Some n) k keeps a some within));
}
