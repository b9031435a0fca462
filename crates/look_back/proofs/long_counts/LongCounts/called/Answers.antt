use Rattle.std.proofs.Common.{◌≡◌, ◌<◌, inl, inr, sym, ◌∙◌, arith}
use Rattle.std.proofs.lemmas.Bool.Decides.{eqb_tells}
use Rattle.sig_types.specs.Phases.{is_in}
use Rattle.sig_tables.specs.Preempts.{is_preempt_called}
use Rattle.preempt_stages.proofs.Least.{least-at, least-none}
use Rattle.look_back.proofs.Stages.{none-on}
use Rattle.look_back.proofs.long_counts.LongCounts.called.Goals as goal

pub returns-then-is_empty : goal.returns-then-is_empty
returns-then-is_empty c = λ inputs past stands are.
    sym (none-on c.args.t.now c.args.on inputs past are (c.is_empty.ensures.empty.0 c.if-is_empty.true))

pub returns-then-is_called : goal.returns-then-is_called
returns-then-is_called c = λ inputs past stands are.
    let on : c.has.result ≡ is_in inputs c.loop-number.number = c.has.ensures.has ∙ are c.loop-number.number (omega arith) (omega arith) in
    sym (least-at (is_preempt_called c.args.t.now inputs past) c.loop-number.number (omega arith) (omega arith)
    (c.loop-number.invariant inputs past stands are) (sym (c.is_called.ensures inputs past stands on) ∙ c.if-is_called.true))

pub loop-number-preserved : goal.loop-number-preserved
loop-number-preserved c = λ inputs past stands are k above below.
    let on : c.has.result ≡ is_in inputs c.loop-number.number = c.has.ensures.has ∙ are c.loop-number.number (omega arith) (omega arith) in
    elim (eqb_tells k c.loop-number.number) [
      | inl (t, same) ↦ rw same (sym (c.is_called.ensures inputs past stands on) ∙ c.if-is_called.false)
      | inr (t, other) ↦ let less : k < c.loop-number.number = omega arith in c.loop-number.invariant inputs past stands are k above less
    ]

pub returns : goal.returns
returns c = λ inputs past stands are.
    sym (least-none (is_preempt_called c.args.t.now inputs past) (λ k above within.
    let less : k < c.loop-number.number = omega arith in c.loop-number.invariant inputs past stands are k above less))
