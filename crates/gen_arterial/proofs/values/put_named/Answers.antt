use Rattle.std.proofs.Common.{ℕ, List, ap, ◌∙◌}
use Rattle.serde_json.specs.Data.{put}
use Rattle.serde_json.specs.View.{view, members_view}
use Rattle.serde_json.proofs.Views.{members_view-insert_entry}
use Rattle.gen_arterial.proofs.values.put_named.Goals as goal

pub returns-in-Ok-insert : goal.returns-in-Ok-insert
returns-in-Ok-insert c =
    ap members_view c.in-Ok-insert.ensures.entries ∙ members_view-insert_entry _ c.in-Ok.key c.args.value
    ∙ ap (λ (name : List ℕ). put name (view c.args.value) (members_view c.args.members.now.entries)) c.in-Ok.ensures.ok
