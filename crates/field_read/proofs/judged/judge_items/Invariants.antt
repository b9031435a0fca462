use Rattle.std.proofs.Common.{◌≡◌, ℕ, ◌≤◌, length}
use Rattle.json.specs.Json.{items, value, parse_map}
use Rattle.serde_json.specs.Data.{Items}
use Rattle.serde_json.specs.Read.{of_items, converted}
use Rattle.scenario_cut.specs.Growing.{both}
use Rattle.field_read.specs.Judging.{IsJudged}
use Rattle.field_read.proofs.judged.judge_items.Given as goal

-- the pulses so far were judged
abbrev pub invariant-items : goal.invariant-items
invariant-items l =
    (n : ℕ) × (ds : Items) × (length l.reader ≤ n)
    × (converted of_items (items (value 125) (length l.fn.reader) l.fn.reader) ≡ parse_map (both ds) (converted of_items (items (value 125) n l.reader)))
    × (length l.reader ≤ length l.fn.reader)
    × IsJudged l.extent l.judged ds

abbrev pub decreases-items : goal.decreases-items
decreases-items l = length l.reader
