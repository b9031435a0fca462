use Rattle.std.proofs.Common.{option_map, codes, ap, ◌∙◌}
use Rattle.serde_json.specs.Data.{Data, put}
use Rattle.serde_json.specs.View.{view, members_view}
use Rattle.scenario_file.proofs.Putting.{view-Null, master-put}
use Rattle.scenario_file.proofs.members.put_in_master.Goals as goal

pub returns-in-Ok-put_named : goal.returns-in-Ok-put_named
returns-in-Ok-put_named c =
    let ms = members_view c.args.members.now.entries in
    master-put ms (members_view c.put_named.new.members.entries) (members_view c.put_named-2.new.members.entries) (option_map view c.in-Ok.old)
    (view c.or_empty.result) (view c.args.schedule) (view c.in-Ok-master_in.master) c.in-Ok.ensures.old
    (c.in-Ok.ensures.put ∙ ap (λ (v : Data). put (codes "master") v ms) view-Null) c.or_empty.ensures c.in-Ok-master_in.ensures c.in-Ok-put_named.ensures.put
