use Rattle.std.proofs.Common.{◌≡◌, ap, ◌∙◌}
use Rattle.serde_json.specs.Data.{object, item, no_items, no_members}
use Rattle.serde_json.specs.View.{view, items_view, members_view}
use Rattle.serde_json.specs.declared.value.Value.{Object}
use Rattle.serde_json.proofs.Views.{view-Object}
use Rattle.scenario_cut.specs.Growing.{both}
use Rattle.scenario_cut.proofs.Turns.{both-push}
use Rattle.scenario_file.proofs.Blanks.{blanks-next}
use Rattle.scenario_file.proofs.found.blanks.Goals as goal

pub loop-preserved : goal.loop-preserved
loop-preserved c =
    let l = c.loop in
    let blank : view (Object c.new.result) ≡ object no_members = view-Object c.new.result ∙ ap (λ es. object (members_view es)) c.new.ensures.empty in
    ap items_view c.in-Ok.ensures.items ∙ both-push l.objects.items (Object c.new.result) ∙ ap (λ d. both (items_view l.objects.items) (item d no_items)) blank
    ∙ ap (λ ds. both ds (item (object no_members) no_items)) l.invariant ∙ blanks-next l.counter
