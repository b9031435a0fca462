use Rattle.std.proofs.Common.{ℕ, List, option_map, string_bytes, ap, ◌∙◌}
use Rattle.serde_json.specs.Data.{put}
use Rattle.serde_json.specs.Find.{get_member}
use Rattle.serde_json.specs.View.{view, members_view}
use Rattle.serde_json.proofs.Views.{members_view-insert_entry, view-lookup}
use Rattle.scenario_file.proofs.members.put_named.Goals as goal

pub returns-in-Ok-insert-clause-old : goal.returns-in-Ok-insert-clause-old
returns-in-Ok-insert-clause-old c =
    ap (λ o. option_map view o) c.in-Ok-insert.ensures.old ∙ view-lookup (string_bytes c.in-Ok.key) c.args.members.now.entries
    ∙ ap (λ (name : List ℕ). get_member name (members_view c.args.members.now.entries)) c.in-Ok.ensures.ok

pub returns-in-Ok-insert-clause-put : goal.returns-in-Ok-insert-clause-put
returns-in-Ok-insert-clause-put c =
    ap members_view c.in-Ok-insert.ensures.entries ∙ members_view-insert_entry _ c.in-Ok.key c.args.value
    ∙ ap (λ (name : List ℕ). put name (view c.args.value) (members_view c.args.members.now.entries)) c.in-Ok.ensures.ok
