use Rattle.band_report.proofs.PutIn.{section-put}
use Rattle.band_report.proofs.parts.section_member.Goals as goal

pub returns-clause-ok : goal.returns-clause-ok
returns-clause-ok c =
    let done = c.in_ok-answer.ensures.ok in
    (done.0, done.1, λ ms stand. section-put c.args.parts.now ms done.0 stand c.in_ok-answer.answer done.2)
