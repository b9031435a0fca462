use Rattle.std.proofs.Common.{◌≡◌, true, false, bytes_eq, codes, sym, ◌∙◌}
use Rattle.field_read.proofs.Judging.{answer-here, answer-other}
use Rattle.field_read.proofs.judged.judge_member.Goals as goal

pub returns-in_ok-now-clause-ok : goal.returns-in_ok-now-clause-ok
returns-in_ok-now-clause-ok c =
    let done = c.in_ok-now.ensures.ok in
    let name = c.args.name.now in
    let same : bytes_eq name (codes "pulses") ≡ true = sym c.eq.ensures ∙ c.if-eq.true in
    (done.0, done.1, λ ms before. answer-here c.args.extent c.in_ok-now.now name done.0 ms same done.2)

pub returns-then-pass-clause-ok : goal.returns-then-pass-clause-ok
returns-then-pass-clause-ok c =
    let done = c.pass.ensures.passed c.if-pass.true in
    let name = c.args.name.now in
    let other : bytes_eq name (codes "pulses") ≡ false = sym c.eq.ensures ∙ c.if-eq.false in
    (done.0, done.1, λ ms before. answer-other c.args.extent c.args.answer.now name done.0 ms other before)
