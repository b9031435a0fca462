use Rattle.std.proofs.Common.{◌≡◌, ℕ, ◌≤◌, length}
use Rattle.json.specs.Json.{members, value}
use Rattle.serde_json.specs.Data.{Members, no_members}
use Rattle.serde_json.specs.Read.{of_members, converted}
use Rattle.scenario_read.specs.Sorted.{MembersSorted}
use Rattle.scenario_file.specs.Left.{MasterReadSoFar}
use Rattle.scenario_file.proofs.master.members_of.Given as goal

-- the members so far, of which those are read of which no more is to come
abbrev pub invariant-members : goal.invariant-members
invariant-members l =
    (n : ℕ) × (ms : Members) × (length l.reader ≤ n)
    × (converted (λ js. of_members js no_members) (members (value l.depth) (length l.fn.reader) l.fn.reader) ≡ converted (λ js. of_members js ms) (members (value l.depth) n l.reader))
    × (length l.reader ≤ length l.fn.reader)
    × MembersSorted ms
    × MasterReadSoFar l.reading ms

abbrev pub decreases-members : goal.decreases-members
decreases-members l = length l.reader
