use Rattle.std.proofs.Common.{◌≡◌, ℕ, List, ◌∷◌, ◌++◌, false, string_bytes}
use Rattle.serde_json.specs.Data.{Items}
use Rattle.serde_json.specs.View.{members_view}
use Rattle.serde_json.specs.Written.{members_have_float, members_text}
use Rattle.scenario_file.specs.Framing.{TextsStand, with_lists}
use Rattle.scenario_file.proofs.compact.compact.Given as goal

-- the text of the members so far, with that of those to come, is the whole
abbrev pub invariant-loop-name : goal.invariant-loop-name
invariant-loop-name l =
    (rows : List ℕ → Items)
    → TextsStand l.texts rows → members_have_float (members_view l.frame.entries) ≡ false
    → (members_have_float (members_view l.name-iterator) ≡ false)
    × (string_bytes l.text ++ members_text l.later (with_lists rows (members_view l.name-iterator)) ≡ 123 ∷ members_text false (with_lists rows (members_view l.frame.entries)))
