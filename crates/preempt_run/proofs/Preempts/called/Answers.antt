use Rattle.std.proofs.Common.{◌<◌, inl, inr, sym, ◌∙◌, arith}
use Rattle.std.proofs.lemmas.Bool.Decides.{eqb_tells}
use Rattle.sig_tables.specs.Preempts.{is_preempt_called}
use Rattle.preempt_stages.specs.Inputs.{preempts_seen}
use Rattle.preempt_stages.proofs.Least.{least-at}
use Rattle.preempt_run.proofs.Called.{none-called}
use Rattle.preempt_run.proofs.Preempts.called.Goals as goal

pub returns-then-is_empty : goal.returns-then-is_empty
returns-then-is_empty c = record {
  called = λ past stands. sym (none-called c.args.t.now c.args.self.now past stands (c.is_empty.ensures.empty.0 c.if-is_empty.true));
}

pub returns-then-is_called : goal.returns-then-is_called
returns-then-is_called c = record {
  called = λ past stands.
      sym (least-at (is_preempt_called c.args.t.now (preempts_seen past) past.moments) c.loop-number.number (omega arith) (omega arith)
      (c.loop-number.invariant past stands) (sym (c.is_called.ensures.called past stands) ∙ c.if-is_called.true));
}

pub loop-number-preserved : goal.loop-number-preserved
loop-number-preserved c = λ past stands k above below. elim (eqb_tells k c.loop-number.number) [
  | inl (t, same) ↦ rw same (sym (c.is_called.ensures.called past stands) ∙ c.if-is_called.false)
  | inr (t, other) ↦ let less : k < c.loop-number.number = omega arith in c.loop-number.invariant past stands k above less
]
