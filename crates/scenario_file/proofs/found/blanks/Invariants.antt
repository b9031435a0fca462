use Rattle.std.proofs.Common.{◌≡◌}
use Rattle.serde_json.specs.View.{items_view}
use Rattle.scenario_file.specs.Growing.{blanks}
use Rattle.scenario_file.proofs.found.blanks.Given as goal

-- the objects so far are blank
abbrev pub invariant-loop : goal.invariant-loop
invariant-loop l = items_view l.objects.items ≡ blanks l.counter
