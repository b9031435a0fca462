use Rattle.std.proofs.Common.{map, option_map, codes, ap, ◌∙◌}
use Rattle.serde_json.specs.Data.{Data, put}
use Rattle.serde_json.specs.View.{view, members_view}
use Rattle.serde_json.proofs.Views.{view-Array}
use Rattle.scenario_file.proofs.Putting.{view-Null}
use Rattle.field_file.proofs.Putting.{inputs-put}
use Rattle.field_file.proofs.written.put_inputs.Goals as goal

pub returns-in-Ok-put_named : goal.returns-in-Ok-put_named
returns-in-Ok-put_named c =
    let ms = members_view c.args.members.now.entries in
    let mid = members_view c.put_named.new.members.entries in
    inputs-put c.args.calls.now.items ms mid (members_view c.put_named-2.new.members.entries) (option_map view c.in-Ok.old) (map view c.values_of-values.result.items)
    (map view c.push_calls.new.values.items) c.in-Ok.ensures.old (c.in-Ok.ensures.put ∙ ap (λ (v : Data). put (codes "inputs") v ms) view-Null) c.values_of-values.ensures
    c.in-Ok-push_calls.ensures (c.in-Ok-put_named.ensures.put ∙ ap (λ (v : Data). put (codes "inputs") v mid) (view-Array c.push_calls.new.values))
