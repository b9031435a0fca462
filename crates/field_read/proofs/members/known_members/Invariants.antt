use Rattle.std.proofs.Common.{◌≡◌, map}
use Rattle.serde_json.specs.View.{members_view}
use Rattle.scenario_read.specs.Fields.{unknown_faults}
use Rattle.field_read.specs.Places.{steps_of}
use Rattle.field_read.proofs.members.known_members.Given as goal

-- the names so far are known
abbrev pub invariant-loop-name : goal.invariant-loop-name
invariant-loop-name l =
    let known = map (λ name. name.now) l.known in
    unknown_faults known (steps_of l.fn.place) (members_view l.members.entries) ≡ unknown_faults known (steps_of l.fn.place) (members_view l.name-iterator)
