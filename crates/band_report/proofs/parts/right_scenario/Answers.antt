use Rattle.band_report.proofs.PutIn.{scenario-right}
use Rattle.band_report.proofs.parts.right_scenario.Goals as goal

pub returns-clause-ok : goal.returns-clause-ok
returns-clause-ok c =
    let done = c.in_ok-source.ensures.ok in
    let s = c.in_ok-source.source.scenario in
    (done.0, done.1, λ ms stand. scenario-right c.args.parts.now ms done.0 stand s done.2 done.3 c.in_ok-source.ensures.few)
