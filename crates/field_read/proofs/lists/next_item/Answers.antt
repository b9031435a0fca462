use Rattle.serde_json.specs.View.{view}
use Rattle.field_read.proofs.lists.next_item.Goals as goal

pub returns-clause-ok : goal.returns-clause-ok
returns-clause-ok c = (view c.in_ok-object.object, c.in_ok-object.ensures.ok, c.in_ok-add_item.ensures.added)
