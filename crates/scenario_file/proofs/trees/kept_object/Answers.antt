use Rattle.std.proofs.Common.{sym, ap, ◌∙◌, refl}
use Rattle.serde_json.specs.Data.{object}
use Rattle.serde_json.specs.View.{members_view}
use Rattle.serde_json.proofs.Views.{view-Object}
use Rattle.scenario_file.proofs.Keeping.{all-seen}
use Rattle.scenario_file.proofs.trees.kept_object.Goals as goal

pub returns-else-has_null : goal.returns-else-has_null
returns-else-has_null c = λ passed.
    let ms = members_view c.args.members.entries in
    (view-Object c.args.members ∙ ap object (sym (all-seen passed ms (sym c.has_null.ensures ∙ c.if-has_null.false))), refl)
