-- Which Green phases are quiet, from the set of the active ones.
use Rattle.std.proofs.Common.{◌≡◌, ℕ, true, not, ◌&&◌, ◌||◌, Option, Some, None, refl, ◌∙◌}
use Rattle.sig_types.specs.declared.phase_set.PhaseSet.{PhaseSet}
use Rattle.sig_types.specs.PhaseSet.{has}
use Rattle.sig_types.specs.Phases.{is_phase, is_in}
use Rattle.sig_types.proofs.Sets.{in-phases}
use Rattle.sig_tables.specs.Past.{Past}
use Rattle.sig_tables.specs.Splits.{split_maximum}
use Rattle.sig_tables.specs.Calls.{is_active, is_green}
use Rattle.sig_tables.specs.Layout.{Has}
use Rattle.sig_tables.specs.Seen.{frame_seen, detectors_seen, quiet_with}
use Rattle.call_store.specs.CallsStand.{is_active_with}

-- a Green phase is quiet where it is not among the active ones
pub quiet-is : (pattern : Option ℕ) (past : Past) (active : PhaseSet) → Has active (is_active_with pattern past) → (p : ℕ)
    → is_phase p ≡ true → is_in (quiet_with pattern past) p ≡ (is_green (frame_seen past) p && not (has active p))
quiet-is None past active h p is =
    in-phases (λ q. is_green (frame_seen past) q && not (is_active past.tables past.heard (detectors_seen past) q)) p is ∙ rw (h p is) refl
quiet-is (Some n) past active h p is =
    in-phases (λ q. is_green (frame_seen past) q
    && not (is_active past.tables past.heard (detectors_seen past) q || split_maximum past.tables n q)) p is ∙ rw (h p is) refl
