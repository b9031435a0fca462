use Rattle.serde_json.specs.View.{view}
use Rattle.field_read.specs.Parts.{SaysRespond}
use Rattle.field_read.proofs.top.respond_member.Goals as goal

pub returns-clause-ok : goal.returns-clause-ok
returns-clause-ok c =
    let d = view c.in_ok-object.object in
    let says : SaysRespond c.in-Ok.respond d = record { clean = c.in-Ok.ensures.0; said = c.in-Ok.ensures.1 } in
    (d, c.in_ok-object.ensures.ok, λ ms s. c.put_respond.ensures ms d s says)
