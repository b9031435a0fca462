use Rattle.std.proofs.Common.{◌≡◌, ◌∷◌, ◌++◌, false, string_bytes}
use Rattle.serde_json.specs.Data.{Items}
use Rattle.serde_json.specs.View.{members_view}
use Rattle.serde_json.specs.Written.{members_have_float, members_text}
use Rattle.scenario_file.specs.Growing.{written, inner_text}
use Rattle.scenario_file.specs.Framing.{filled, scheduled}
use Rattle.scenario_file.proofs.compact.add_settings.Given as goal

-- the text of the members so far, with that of those to come, is the whole
abbrev pub invariant-loop-name : goal.invariant-loop-name
invariant-loop-name l =
    (ds : Items) → written l.schedule ≡ inner_text false ds → members_have_float (members_view l.members.entries) ≡ false
    → (members_have_float (members_view l.name-iterator) ≡ false)
    × (string_bytes l.text ++ members_text l.later (filled (scheduled ds) (members_view l.name-iterator)) ≡ string_bytes l.fn.text ++ (123 ∷ members_text false (filled (scheduled ds) (members_view l.members.entries))))
