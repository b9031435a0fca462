use Rattle.std.proofs.Common.{◌≡◌, false, refl}
use Rattle.json.specs.Json.{value}
use Rattle.serde_json.specs.Read.{of_json}
use Rattle.serde_json.specs.View.{view}
use Rattle.serde_json.specs.Written.{has_float}
use Rattle.scenario_read.proofs.Rising.{tree-sorted}
use Rattle.scenario_cut.proofs.Turns.{converted_some}
use Rattle.scenario_file.proofs.Growth.{lists-next}
use Rattle.scenario_file.proofs.listed.tree_item.Goals as goal

pub returns-clause-ok : goal.returns-clause-ok
returns-clause-ok c =
    let d = view c.in_ok-object.object in
    let tree = converted_some of_json (value c.args.depth c.args.reader.now) d c.tree.new.reader c.in_ok-object.ensures.ok in
    let added = c.in_ok-reach.ensures in
    let plain : has_float d ≡ false = added.floatless (tree-sorted tree.0 d tree.2) in
    let text = c.in_ok-add_value.ensures plain in
    let far = c.farthest-listed.ensures in (
      d,
      c.in_ok-object.ensures.ok,
      λ ds lists. lists-next c.args.listed.now _ ds d c.in_ok-reach.reach lists (added.added ds lists.holds) text refl added.list added.reach far.self_far far.other_far,
    )
