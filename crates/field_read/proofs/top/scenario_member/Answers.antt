use Rattle.field_read.specs.Parts.{SaysScenario}
use Rattle.field_read.proofs.top.scenario_member.Goals as goal

pub returns-clause-ok : goal.returns-clause-ok
returns-clause-ok c =
    let done = c.in_ok-source.ensures.ok in
    let d = done.0 in
    let says : SaysScenario c.in_ok-source.source d = record { clean = done.2; said = done.3; text = done.4 } in
    (d, done.1, λ ms s. c.put_scenario.ensures ms d s says)
