use Rattle.std.proofs.Common.{◌≡◌, ℕ, ◌≤◌, length}
use Rattle.json.specs.Json.{members, value}
use Rattle.serde_json.specs.Data.{no_members}
use Rattle.serde_json.specs.Read.{of_members, converted}
use Rattle.scenario_file.specs.Plain.{plain_members}
use Rattle.scenario_file.proofs.plain.members_of.Given as goal

-- the members so far were put one by one
abbrev pub invariant-members : goal.invariant-members
invariant-members l =
    (n : ℕ) × (length l.reader ≤ n)
    × ((depth : ℕ) → converted (λ ms. of_members ms no_members) (members (value depth) (length l.fn.reader) l.fn.reader) ≡ converted (λ ms. of_members ms (plain_members l.plain)) (members (value depth) n l.reader))
    × (length l.reader ≤ length l.fn.reader)

abbrev pub decreases-members : goal.decreases-members
decreases-members l = length l.reader
