use Rattle.std.proofs.Common.{◌≡◌, length, rules, sym, ap, ◌∙◌}
use Rattle.serde_json.specs.View.{view}
use Rattle.serde_json.proofs.Views.{view-Array, items_len-items_view}
use Rattle.scenario_read.specs.CellLists.{item_count}
use Rattle.scenario_read.proofs.cells.item_count.Goals as goal

pub returns-in-Array : goal.returns-in-Array
returns-in-Array c =
    let long : c.len.result ≡ length c.in-Array.items.items = search rules in
    long ∙ sym (items_len-items_view c.in-Array.items.items) ∙ ap item_count (sym (ap view c.in-Array.is ∙ view-Array c.in-Array.items))
