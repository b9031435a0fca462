use Rattle.std.proofs.Common.{◌≡◌, ℕ, ◌≤◌, length}
use Rattle.json.specs.Json.{items, value, parse_map}
use Rattle.serde_json.specs.Data.{Items}
use Rattle.serde_json.specs.Read.{of_items, converted}
use Rattle.scenario_cut.specs.Growing.{both}
use Rattle.field_read.specs.Lists.{Holds, name_of}
use Rattle.field_read.proofs.lists.list_items.Given as goal

-- the items so far are of the list, and these are what they say
abbrev pub invariant-items : goal.invariant-items
invariant-items l =
    (n : ℕ) × (ds : Items) × (length l.reader ≤ n)
    × (converted of_items (items (value 125) (length l.fn.reader) l.fn.reader) ≡ parse_map (both ds) (converted of_items (items (value 125) n l.reader)))
    × (length l.reader ≤ length l.fn.reader)
    × Holds l.all ds
    × (name_of l.all ≡ name_of l.fn.found)

abbrev pub decreases-items : goal.decreases-items
decreases-items l = length l.reader
