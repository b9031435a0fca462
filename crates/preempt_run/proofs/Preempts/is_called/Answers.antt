use Rattle.std.proofs.Common.{◌≡◌, ◌<◌, ◌⊎◌, inl, inr, true, sym, ◌∙◌, arith}
use Rattle.sig_types.specs.Phases.{is_in}
use Rattle.preempt_stages.specs.Inputs.{preempts_seen}
use Rattle.phase_clock.proofs.Counted.{counted}
use Rattle.preempt_stages.proofs.Inputs.{none-beyond, not-called}
use Rattle.preempt_run.proofs.Called.{seen-on, called-counted}
use Rattle.preempt_run.proofs.Preempts.is_called.Goals as goal

pub returns-then-number-eq0 : goal.returns-then-number-eq0
returns-then-number-eq0 c =
    let beyond : (c.args.number ≡ 0) ⊎ (8 < c.args.number) = elim c.then-number-eq0.either [ inl z ↦ inl z | inr b ↦ inr b.1 ] in
    record {
      called = λ past stands.
          sym (not-called c.args.t.now (preempts_seen past) past.moments c.args.number (none-beyond past c.args.number beyond));
    }

pub returns-then-has : goal.returns-then-has
returns-then-has c = record {
  called = λ past stands.
      let above : 0 < c.args.number = omega arith in
      let on : is_in (preempts_seen past) c.args.number ≡ true =
      seen-on c.args.self.now past stands c.args.number above c.if-number-gt8.false ∙ sym c.has.ensures.has ∙ c.if-has.true in
      c.calls.ensures
      ∙ rw c.preempt.ensures.row (sym (called-counted c.args.t.now (preempts_seen past) past.moments c.args.number c.count.result on
      (c.count.ensures.counts ∙ counted c.args.self.now.inputs c.args.self.now.steps c.args.number (λ m. is_in m.preempts c.args.number) past.moments
      (stands.inputs c.args.number above c.if-number-gt8.false))));
}

pub returns-else-has : goal.returns-else-has
returns-else-has c = record {
  called = λ past stands.
      let above : 0 < c.args.number = omega arith in
      sym (not-called c.args.t.now (preempts_seen past) past.moments c.args.number
      (seen-on c.args.self.now past stands c.args.number above c.if-number-gt8.false ∙ sym c.has.ensures.has ∙ c.if-has.false));
}
