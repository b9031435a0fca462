use Rattle.std.proofs.Common.{◌≡◌, ℕ, ◌≤◌, length}
use Rattle.json.specs.Json.{members, value}
use Rattle.serde_json.specs.Data.{Members, no_members}
use Rattle.serde_json.specs.Read.{of_members, converted}
use Rattle.scenario_read.specs.Sorted.{MembersSorted}
use Rattle.scenario_file.specs.Outer.{PartsSoFar}
use Rattle.scenario_file.proofs.outer.members_of.Given as goal

-- the members so far, of which those are read of which no more is to come
abbrev pub invariant-members : goal.invariant-members
invariant-members g l =
    (n : ℕ) × (ms : Members) × (length l.reader ≤ n)
    × (converted (λ es. of_members es no_members) (members (value 126) (length l.fn.reader) l.fn.reader) ≡ converted (λ es. of_members es ms) (members (value 126) n l.reader))
    × (length l.reader ≤ length l.fn.reader)
    × MembersSorted ms
    × PartsSoFar g.P.OuterParts.stand l.parts l.left.own ms

abbrev pub decreases-members : goal.decreases-members
decreases-members g l = length l.reader
