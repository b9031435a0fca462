-- What a tick sees, in code and in the definitions.
use Rattle.std.specs.Prelude.{ℕ, ◌≡◌, ◌&&◌, not, true}
use Rattle.sig_types.specs.Phases.{is_phase, is_in}
use Rattle.sig_types.specs.PhaseSet.{has, phases_of}
use Rattle.sig_tables.specs.Past.{Past}
use Rattle.sig_tables.specs.Calls.{is_green}
use Rattle.sig_tables.specs.Layout.{Has}
use Rattle.sig_tables.specs.Seen.{frame_seen, demand_seen, quiet_seen, opposed_seen}
use Rattle.tick_context.specs.declared.seeing.TickInputs.{TickInputs}

-- the phases with demand; the active phases (a Green phase is quiet if it isn't active); and the Green phases for which
-- a conflicting phase has demand
pub record Sees (s : TickInputs) (past : Past) : Type 0 where
  pub demand : phases_of s.demand ≡ demand_seen past
  pub quiet : (p : ℕ) → is_phase p ≡ true → is_in (quiet_seen past) p ≡ (is_green (frame_seen past) p && not (has s.active p))
  pub opposed : Has s.opposed (is_in (opposed_seen past))
