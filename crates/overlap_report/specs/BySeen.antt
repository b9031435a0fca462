-- What was seen of a cabinet of a trace determines the report on an overlap there.
use Rattle.std.specs.Prelude.{ℕ, ◌≡◌, ◌<◌, true, List, Ok, Err}
use Rattle.sig_types.specs.Phases.{is_phase, is_in}
use Rattle.overlap_run.specs.Text.{overlap_text}
use Rattle.overlap_run.specs.Parents.{green_at, AreFrames}
use Rattle.overlap_run.specs.declared.faults.OverlapFault.{OverlapFault}
use Rattle.trace_laws.specs.declared.seen.Seen.{Seen}
use Rattle.command_words.specs.declared.command.Overlap.{Overlap}
use Rattle.overlap_report.specs.Overlaps.{times_of, verdict_of, BreaksRule, TellsOverlap}

-- the overlap breaks no rule, by the tables that were seen
abbrev pub IsUnbroken : Seen → Overlap → Type 0
IsUnbroken seen asked = verdict_of seen.tables.items asked ≡ Ok tt

-- by the tables that were seen, the overlap breaks the same rule as by the tables in force. If it breaks none, its
-- text by the displays that were seen is the expected report. These displays cover all ticks, its parents are phases,
-- and its yellow change lasts at least one tick
pub record SaysOfOverlap (text : List ℕ) (asked : Overlap) (seen : Seen) : Type 0 where
  pub breaks : (fault : OverlapFault) → verdict_of seen.tables.items asked ≡ Err fault → BreaksRule text asked fault
  pub due : (fault : OverlapFault) → BreaksRule text asked fault → verdict_of seen.tables.items asked ≡ Err fault
  pub tells : IsUnbroken seen asked → TellsOverlap text asked (overlap_text (times_of asked) (green_at asked.parents.items seen.frames.items) seen.ticks)
  pub frames : IsUnbroken seen asked → AreFrames seen.frames.items seen.ticks
  pub phases : IsUnbroken seen asked → (p : ℕ) → is_in asked.parents.items p ≡ true → is_phase p ≡ true
  pub lasting : IsUnbroken seen asked → 0 < asked.yellow
