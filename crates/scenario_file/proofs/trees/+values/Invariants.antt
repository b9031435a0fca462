use Rattle.std.proofs.Common.{◌≡◌, ℕ, List, ◌+◌, ◌*◌, ◌≤◌, length}
use Rattle.json.specs.Json.{items, members, value, parse_map}
use Rattle.serde_json.specs.Data.{Data, no_members}
use Rattle.serde_json.specs.Read.{of_items, of_members, converted}
use Rattle.serde_json.specs.View.{items_view, members_view}
use Rattle.scenario_read.specs.Sorted.{MembersSorted}
use Rattle.scenario_cut.specs.Growing.{both}
use Rattle.scenario_cut.specs.Last.{filled}
use Rattle.scenario_file.specs.Trees.{seen}
use Rattle.scenario_file.proofs.trees.+values.Given as goal

abbrev pub decreases-tree_value : goal.decreases-tree_value
decreases-tree_value l = 3 * l.depth

abbrev pub decreases-tree_array : goal.decreases-tree_array
decreases-tree_array l = 3 * l.depth + 2

abbrev pub decreases-tree_items : goal.decreases-tree_items
decreases-tree_items l = 3 * l.depth + 1

abbrev pub decreases-tree_object : goal.decreases-tree_object
decreases-tree_object l = 3 * l.depth + 2

abbrev pub decreases-tree_members : goal.decreases-tree_members
decreases-tree_members l = 3 * l.depth + 1

abbrev pub invariant-tree_items-items : goal.invariant-tree_items-items
invariant-tree_items-items l =
    (n : ℕ) × (length l.reader ≤ n)
    × (converted of_items (items (value l.depth) (length l.initial.reader) l.initial.reader) ≡ parse_map (both (items_view l.found.items)) (converted of_items (items (value l.depth) n l.reader)))
    × (length l.reader ≤ length l.initial.reader)

abbrev pub decreases-tree_items-items : goal.decreases-tree_items-items
decreases-tree_items-items l = length l.reader

-- the members so far are those that are kept, with what was skipped where null is
abbrev pub invariant-tree_members-members : goal.invariant-tree_members-members
invariant-tree_members-members l =
    (n : ℕ) × (passed : List ℕ → Data) × (length l.reader ≤ n)
    × (converted (λ ms. of_members ms no_members) (members (value l.depth) (length l.initial.reader) l.initial.reader) ≡ converted
    (λ ms. of_members ms (filled (seen passed) (members_view l.found.entries))) (members (value l.depth) n l.reader))
    × (length l.reader ≤ length l.initial.reader)
    × MembersSorted (members_view l.found.entries)

abbrev pub decreases-tree_members-members : goal.decreases-tree_members-members
decreases-tree_members-members l = length l.reader
