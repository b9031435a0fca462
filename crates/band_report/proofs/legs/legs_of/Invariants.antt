use Rattle.std.proofs.Common.{◌≡◌, ℕ, ◌≤◌, length}
use Rattle.json.specs.Json.{items, value, parse_map}
use Rattle.serde_json.specs.Data.{Items}
use Rattle.serde_json.specs.Read.{of_items, converted}
use Rattle.scenario_cut.specs.Growing.{both}
use Rattle.band_report.specs.Parts.{AreLegs}
use Rattle.band_report.proofs.legs.legs_of.Given as goal

-- the items so far were read
abbrev pub invariant-items : goal.invariant-items
invariant-items l =
    (n : ℕ) × (ds : Items) × (length l.reader ≤ n)
    × (converted of_items (items (value l.depth) (length l.fn.reader) l.fn.reader) ≡ parse_map (both ds) (converted of_items (items (value l.depth) n l.reader)))
    × (length l.reader ≤ length l.fn.reader)
    × AreLegs l.legs ds

abbrev pub decreases-items : goal.decreases-items
decreases-items l = length l.reader
