use Rattle.std.proofs.Common.{◌≡◌, ◌&&◌, ℕ, Bool, true, false, inl, inr, sym, ◌∙◌, ap}
use Rattle.std.proofs.lemmas.Bool.{cases_Bool}
use Rattle.std.proofs.Math.Bool.{and-false}
use Rattle.sig_types.specs.declared.frame.Mode.{Mode}
use Rattle.sig_types.specs.PhaseSet.{has}
use Rattle.sig_types.specs.Phases.{is_phase}
use Rattle.sig_tables.specs.Modes.{bound}
use Rattle.sig_tables.specs.View.{is_done}
use Rattle.sig_tables.specs.Seen.{view_seen, demand_with}
use Rattle.tick_context.proofs.Again.{rings-rest, rings-undone}
use Rattle.engine.proofs.Alone.{of-two}
use Rattle.tick_context.proofs.Seen.{done-not}
use Rattle.sig_types.proofs.Sets.{empty-has}
use Rattle.engine.proofs.Engine.all_stay.Goals as goal

off : (a b : Bool) → b ≡ false → (a && b) ≡ false
off a b e = rw e (and-false a)

pub returns-then-is_empty : goal.returns-then-is_empty
returns-then-is_empty g c = record {
  stay = λ past k s mode t first second.
      rings-rest past mode
      (sym (s.demand ∙ ap (λ (m : Mode). demand_with (bound m) past) mode) ∙ c.is_empty.ensures.empty.0 c.if-is_empty.true) first second;
}

pub returns-then-stays : goal.returns-then-stays
returns-then-stays g c = record {
  stay = λ past k s mode t first second.
      let undone : (p : ℕ) → is_phase p ≡ true → is_done (view_seen past) p ≡ false = λ p h. elim (cases_Bool (has c.args.self.now.shown.green p)) [
        | inl i ↦ of-two (λ (q : ℕ). is_phase q ≡ true → is_done (view_seen past) q ≡ false)
            c.args.self.now.shown.green c.of.result c.of-2.result c.minus.result c.minus-2.result _ _ p h
            c.of.ensures c.of-2.ensures c.minus.ensures.has c.minus-2.ensures.has
            (empty-has c.minus-2.result p h (c.is_empty-2.ensures.empty.0 c.if-is_empty-2.true))
            i
            (c.stays.ensures.stays past k s mode c.if-stays.true)
            (c.stays-then-stays.ensures.stays past k s mode t) h
        | inr o ↦ sym (done-not past p (off _ _ (sym (k.shown.green p h) ∙ o)))
      ] in
      rings-undone past mode undone first second;
}
