use Rattle.std.proofs.Common.{◌≡◌, false, take}
use Rattle.serde_json.specs.View.{items_view}
use Rattle.serde_json.specs.Written.{items_have_float}
use Rattle.scenario_file.specs.Growing.{written, inner_text}
use Rattle.scenario_file.proofs.source.entries_text.Given as goal

-- the text of the entries so far
abbrev pub invariant-loop-i : goal.invariant-loop-i
invariant-loop-i l = items_have_float (items_view l.entries.items) ≡ false → written l.text ≡ inner_text false (items_view (take l.i l.entries.items))
