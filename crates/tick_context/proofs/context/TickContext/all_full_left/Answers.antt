use Rattle.std.proofs.Common.{◌≡◌, ◌&&◌, ℕ, Bool, Option, true, false, not, refl, inl, inr, sym, ◌∙◌, ap, arith, subst}
use Rattle.std.proofs.lemmas.Bool.{false≢true}
use Rattle.std.proofs.lemmas.Bool.Decides.{eqb_tells}
use Rattle.sig_types.specs.declared.frame.Mode.{Mode}
use Rattle.sig_types.specs.PhaseSet.{has}
use Rattle.sig_types.proofs.Sets.{empty-has}
use Rattle.sig_tables.specs.Modes.{bound}
use Rattle.tick_context.specs.Binds.{IsBound, ActivePatternIs}
use Rattle.tick_context.specs.Lasting.{HasNoRoom}
use Rattle.tick_context.proofs.Binds.{in-coord}
use Rattle.tick_context.proofs.context.TickContext.all_full_left.Goals as goal

out-before : (a b : Bool) → b ≡ false → (a && not b) ≡ false → a ≡ false
out-before false b f e = refl
out-before true b f e = absurd (false≢true (sym e ∙ ap not f))

pub loop-preserved : goal.loop-preserved
loop-preserved c = λ past k q keeps b some within h on out. elim (eqb_tells q c.least-phase.result) [
  | inl (t, same) ↦
      let (n, e) = in-coord c.args.self.now.frame.mode (sym c.is_coord.ensures ∙ c.if-not-is_coord.false) in
      let is : ActivePatternIs c.args.self.now.active_pattern past.tables n =
      subst (λ (m : Mode). IsBound c.args.self.now.active_pattern past.tables m) e b in
      subst (λ (x : ℕ). HasNoRoom (bound c.args.self.now.frame.mode) k past x) (sym same)
      (subst (λ (x : Option ℕ). HasNoRoom x k past c.least-phase.result) (sym (ap bound e))
      (c.full_left.ensures.left past n k keeps is some (omega (arith, within))))
  | inr (f, apart) ↦
      c.loop.invariant past k q keeps b some (omega (arith, within)) h on
      (out-before (has c.loop.rest q) _ f (sym (c.without-rest.ensures q h) ∙ out))
]

pub returns-then-is_empty : goal.returns-then-is_empty
returns-then-is_empty c = record {
  left = λ past k q keeps b some within h on.
      absurd (false≢true (sym (empty-has c.args.phases q h (c.is_empty.ensures.empty.0 c.if-is_empty.true)) ∙ on));
}

pub returns-then-is_empty-2 : goal.returns-then-is_empty-2
returns-then-is_empty-2 c = record {
  left = λ past k q keeps b some within h on.
      c.loop.invariant past k q keeps b some within h on (empty-has c.loop.rest q h (c.is_empty-in-loop.ensures.empty.0 c.if-is_empty-2.true));
}
