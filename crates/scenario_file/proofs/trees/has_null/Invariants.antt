use Rattle.std.proofs.Common.{◌≡◌}
use Rattle.serde_json.specs.View.{members_view}
use Rattle.scenario_file.specs.Trees.{has_null}
use Rattle.scenario_file.proofs.trees.has_null.Given as goal

-- none so far is null
abbrev pub invariant-loop-value : goal.invariant-loop-value
invariant-loop-value l = has_null (members_view l.members.entries) ≡ has_null (members_view l.value-iterator)
