use Rattle.serde_json.specs.View.{view}
use Rattle.field_read.specs.declared.place.Place.TheVariants.{Pulse}
use Rattle.field_read.specs.Places.{steps_of}
use Rattle.field_read.proofs.Judging.{kept-clean, kept-refused}
use Rattle.field_read.proofs.judged.judge_next.Goals as goal

pub returns-in-Ok-clause-ok : goal.returns-in-Ok-clause-ok
returns-in-Ok-clause-ok c =
    let kept = c.in_ok-object.ensures.ok in
    (kept.0, kept.1, (kept-clean c.args.extent (steps_of (Pulse c.args.place)) kept.0 (view c.in_ok-object.object) kept.2 c.in-Ok.ensures.0, tt))

pub returns-clause-ok : goal.returns-clause-ok
returns-clause-ok c =
    let kept = c.in_ok-object.ensures.ok in
    (kept.0, kept.1, kept-refused c.args.extent (steps_of (Pulse c.args.place)) kept.0 (view c.in_ok-object.object) c.in-Err.fail kept.2 c.in-Err.ensures)
