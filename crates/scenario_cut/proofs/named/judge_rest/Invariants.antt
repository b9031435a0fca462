use Rattle.std.proofs.Common.{◌≡◌, ℕ, ◌≤◌, length}
use Rattle.json.specs.Json.{members, value}
use Rattle.serde_json.specs.Data.{Members, object, no_members}
use Rattle.serde_json.specs.Read.{of_members, converted}
use Rattle.scenario_cut.specs.Known.{Knows}
use Rattle.scenario_cut.proofs.named.judge_rest.Given as goal

-- what is known of the lists in the members so far
abbrev pub invariant-members : goal.invariant-members
invariant-members l =
    (n : ℕ) × (ms : Members) × (length l.reader ≤ n)
    × (converted (λ js. of_members js no_members) (members (value l.depth) (length l.fn.reader) l.fn.reader) ≡ converted (λ js. of_members js ms) (members (value l.depth) n l.reader))
    × (length l.reader ≤ length l.fn.reader)
    × (Knows l.search l.fn.known (object no_members) → Knows l.search l.known (object ms))

abbrev pub decreases-members : goal.decreases-members
decreases-members l = length l.reader
