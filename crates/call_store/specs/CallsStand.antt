-- The stored calls are what looking back over the inputs and the frames gives.
use Rattle.std.specs.Prelude.{ℕ, ◌≤◌, ◌<◌, ◌||◌, Bool, Option, Some, None}
use Rattle.sig_types.specs.declared.frame.Field.{Field}
use Rattle.sig_types.specs.declared.frame.Field.TheVariants.{Veh, Ped as Button, Preempt}
use Rattle.sig_types.specs.declared.frame.Frame.{Frame}
use Rattle.sig_types.specs.declared.frame.Ped.TheVariants.{Walk}
use Rattle.sig_types.specs.Colour.{same_signal, signal_of}
use Rattle.sig_types.specs.Phases.{is_in}
use Rattle.sig_tables.specs.Past.{Past}
use Rattle.sig_tables.specs.Splits.{split_maximum}
use Rattle.sig_tables.specs.Calls.{some_heard, turns_on, is_active}
use Rattle.sig_tables.specs.Layout.{Has}
use Rattle.sig_tables.specs.Seen.{vehicle_seen, pedestrian_seen, detectors_seen}
use Rattle.call_store.specs.declared.Calls.{Calls}

-- the store represents the past: its sets are the locked calls, the detectors that are on, and those that were turned
-- on since the last frame
pub record CallsStand (c : Calls) (past : Past) : Type 0 where
  pub vehicle : Has c.vehicle (is_in (vehicle_seen past))
  pub pedestrian : Has c.pedestrian (is_in (pedestrian_seen past))
  pub detectors : Has c.detectors (is_in (detectors_seen past))
  pub turned_on : Has c.turned_on (some_heard (λ _ field q. turns_on field q) past.heard)

-- phase p shows Walk
abbrev pub is_walking : Frame → ℕ → Bool
is_walking f p = same_signal (signal_of f p) Walk

-- the input belongs to one of the phases 1 to 16, or to a preempt
abbrev pub NamesPhase : Field → Type 0
NamesPhase (Veh q on) = (0 < q) × (q ≤ 16)
NamesPhase (Button q) = (0 < q) × (q ≤ 16)
NamesPhase (Preempt n on) = Unit {0}

-- phase p is active at a tick with this pattern in effect: by itself, or by the pattern's maximum recall. For a
-- disabled phase the result doesn't matter, since only the activity of Green phases is used
abbrev pub is_active_with : Option ℕ → Past → ℕ → Bool
is_active_with None past p = is_active past.tables past.heard (detectors_seen past) p
is_active_with (Some n) past p = is_active past.tables past.heard (detectors_seen past) p || split_maximum past.tables n p
