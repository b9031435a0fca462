use Rattle.std.proofs.Common.{refl}
use Rattle.serde_json.specs.Data.{object}
use Rattle.scenario_file.specs.Plain.{input_members}
use Rattle.scenario_file.proofs.Growth.{lists-next}
use Rattle.scenario_file.proofs.listed.plain_item.Goals as goal

pub returns-clause-ok : goal.returns-clause-ok
returns-clause-ok c =
    let d = object (input_members c.in_ok-input.input) in
    let added = c.in_ok-reach.ensures in
    let far = c.farthest-listed.ensures in (
      d,
      c.in_ok-input.ensures.ok.0,
      λ ds lists. lists-next c.args.listed.now _ ds d c.in_ok-reach.reach lists (added.added ds lists.holds) c.in_ok-add_input.ensures refl added.list added.reach far.self_far far.other_far,
    )
