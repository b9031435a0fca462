use Rattle.std.proofs.Common.{◌≡◌, ℕ, true, inl, inr, sym, ◌∙◌, arith}
use Rattle.std.proofs.lemmas.Bool.{cases_Bool}
use Rattle.sig_types.specs.PhaseSet.{has}
use Rattle.sig_types.specs.Phases.{is_phase}
use Rattle.sig_tables.specs.Modes.{bound}
use Rattle.tick_context.specs.Lasting.{PhaseLasts}
use Rattle.tick_context.proofs.Left.{dark-lasts, neither-of}
use Rattle.engine.proofs.Alone.{of-two}
use Rattle.sig_types.proofs.Sets.{empty-has}
use Rattle.engine.proofs.Engine.phases_left.Goals as goal

pub returns-then-is_empty : goal.returns-then-is_empty
returns-then-is_empty g c = record {
  left = λ past k p keeps b some within h. elim (cases_Bool (has c.union-busy.result p)) [
    | inl i ↦ of-two (λ (q : ℕ). is_phase q ≡ true → PhaseLasts (bound c.args.self.now.context.frame.mode) k past q)
        c.union-busy.result c.of.result c.of-2.result c.minus.result c.minus-2.result _ _ p h
        c.of.ensures c.of-2.ensures c.minus.ensures.has c.minus-2.ensures.has
        (empty-has c.minus-2.result p h (c.is_empty.ensures.empty.0 c.if-is_empty.true))
        i
        (c.place_left-one.ensures.left past k keeps b some (omega (arith, within)))
        (c.place_left.ensures.left past k keeps b some (omega (arith, within))) h
    | inr o ↦
        let apart = neither-of _ _ _ (c.union-busy.ensures.has p) o in
        let dark = neither-of _ _ _ (c.union-lit.ensures.has p) apart.0 in
        dark-lasts (bound c.args.self.now.context.frame.mode) k past p (sym (keeps.shown.green p h) ∙ dark.0) (sym (keeps.shown.clearing p h) ∙ dark.1)
        (sym (keeps.signalling p h) ∙ apart.1)
  ];
}
