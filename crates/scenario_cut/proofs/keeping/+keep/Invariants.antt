use Rattle.std.proofs.Common.{◌≡◌, ℕ, ◌+◌, ◌*◌, ◌≤◌, length, option_map, string_bytes}
use Rattle.json.specs.Json.{items, members, value, parse_map}
use Rattle.serde_json.specs.Data.{Items, Members, no_members}
use Rattle.serde_json.specs.Read.{of_items, of_members, converted}
use Rattle.serde_json.specs.View.{items_view, members_view}
use Rattle.scenario_read.specs.Sorted.{MembersSorted}
use Rattle.scenario_cut.specs.Cutting.{names_at, only, room, cut_items, cut_members}
use Rattle.scenario_cut.specs.Growing.{both}
use Rattle.scenario_cut.specs.Others.{first_other}
use Rattle.scenario_cut.proofs.keeping.+keep.Given as goal

abbrev pub decreases-keep : goal.decreases-keep
decreases-keep l = 3 * l.depth

abbrev pub decreases-keep_item : goal.decreases-keep_item
decreases-keep_item l = 3 * l.depth + 1

abbrev pub decreases-keep_items : goal.decreases-keep_items
decreases-keep_items l = 3 * l.depth + 2

abbrev pub decreases-keep_members : goal.decreases-keep_members
decreases-keep_members l = 3 * l.depth + 2

-- what is kept of the items so far, and what may be kept of those to come
abbrev pub invariant-keep_items-items : goal.invariant-keep_items-items
invariant-keep_items-items l =
    (n : ℕ) × (ds : Items) × (length l.reader ≤ n)
    × (converted of_items (items (value l.depth) (length l.initial.reader) l.initial.reader) ≡ parse_map (both ds) (converted of_items (items (value l.depth) n l.reader)))
    × (length l.reader ≤ length l.initial.reader)
    × ((rest : Items) → cut_items l.form (room l.form) (both ds rest) ≡ both (items_view l.found.items) (cut_items l.form l.left rest))
    × (l.left ≤ 4097)

abbrev pub decreases-keep_items-items : goal.decreases-keep_items-items
decreases-keep_items-items l = length l.reader

-- what is kept of the members so far, and the least of the other names
abbrev pub invariant-keep_members-members : goal.invariant-keep_members-members
invariant-keep_members-members l =
    (n : ℕ) × (ms : Members) × (length l.reader ≤ n)
    × (converted (λ js. of_members js no_members) (members (value l.depth) (length l.initial.reader) l.initial.reader) ≡ converted (λ js. of_members js ms) (members (value l.depth) n l.reader))
    × (length l.reader ≤ length l.initial.reader)
    × (members_view l.found.entries ≡ cut_members l.form (only (names_at l.form) ms))
    × (first_other (names_at l.form) ms ≡ option_map string_bytes l.other)
    × MembersSorted ms

abbrev pub decreases-keep_members-members : goal.decreases-keep_members-members
decreases-keep_members-members l = length l.reader
