use Rattle.std.proofs.Common.{◌≡◌, ℕ, ◌≤◌, length, option_map, string_bytes}
use Rattle.json.specs.Json.{members, value}
use Rattle.serde_json.specs.Data.{Members, no_members}
use Rattle.serde_json.specs.Read.{of_members, converted}
use Rattle.serde_json.specs.View.{members_view}
use Rattle.scenario_read.specs.Sorted.{MembersSorted}
use Rattle.scenario_cut.specs.Cutting.{Whole, names_at, only, cut_members}
use Rattle.scenario_cut.specs.Last.{filled, hidden}
use Rattle.scenario_cut.specs.Others.{first_other}
use Rattle.scenario_cut.proofs.last.keep_last.Given as goal

-- what is kept of the members so far, null for those of which more is to come, and the least of the other names
abbrev pub invariant-members : goal.invariant-members
invariant-members l =
    (n : ℕ) × (ms : Members) × (length l.reader ≤ n)
    × (converted (λ js. of_members js no_members) (members (value l.depth) (length l.fn.reader) l.fn.reader) ≡ converted (λ js. of_members js ms) (members (value l.depth) n l.reader))
    × MembersSorted ms
    × (members_view l.found.entries ≡ filled (hidden l.left) (cut_members Whole (only (names_at Whole) ms)))
    × (first_other (names_at Whole) ms ≡ option_map string_bytes l.other)

abbrev pub decreases-members : goal.decreases-members
decreases-members l = length l.reader
