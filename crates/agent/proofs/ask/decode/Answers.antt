use Rattle.std.proofs.Common.{◌≡◌, ◌∙◌, None, sym, arith}
use Rattle.std.proofs.lemmas.Grind.{common_steps}
use Rattle.agent.proofs.Readings.{asked_read}
use Rattle.agent.proofs.ask.decode.Goals as goal

pub returns-in_err-decode_into-clause-none : goal.returns-in_err-decode_into-clause-none
returns-in_err-decode_into-clause-none c =
    let nothing : c.from_residual.result ≡ None = grind (arith, common_steps) in
    rw nothing c.in_err-decode_into.ensures.none

pub returns-in_err-decode_into-clause-each : goal.returns-in_err-decode_into-clause-each
returns-in_err-decode_into-clause-each c = λ ask is. absurd (c.in_err-decode_into.ensures.none ask is)

pub returns-in_err-decode_into-clause-reads : goal.returns-in_err-decode_into-clause-reads
returns-in_err-decode_into-clause-reads c =
    let nothing : c.from_residual.result ≡ None = grind (arith, common_steps) in
    nothing ∙ sym c.in_err-decode_into.ensures.reads

pub returns-clause-each : goal.returns-clause-each
returns-clause-each c = λ ask is. sym c.in_ok-decode_into.ensures.reads ∙ asked_read c.args.frame.now c.args.community.now c.args.tables.now ask is

pub returns-clause-reads : goal.returns-clause-reads
returns-clause-reads c = sym c.in_ok-decode_into.ensures.reads
