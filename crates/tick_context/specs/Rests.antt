-- Ticks of free operation whose frame equals the last one.
use Rattle.std.specs.Prelude.{◌≡◌, ◌≢◌, ◌∷◌, []}
use Rattle.sig_types.specs.declared.frame.Mode.TheVariants.{Free}
use Rattle.sig_types.specs.Colour.{on_in}
use Rattle.sig_tables.specs.Past.{Past}
use Rattle.sig_tables.specs.Ticking.{on_of}
use Rattle.sig_tables.specs.Decide.{next_moment}
use Rattle.sig_tables.specs.Seen.{frame_seen, mode_seen}

-- in all but its colours and signals, the last frame is a frame of Free by the tables in force
pub record IsCurrent (past : Past) : Type 0 where
  pub version : (frame_seen past).version ≡ past.version
  pub counter : (frame_seen past).counter ≡ 0
  pub target : (frame_seen past).target ≡ 0
  pub on : (frame_seen past).on ≡ on_of past.tables (frame_seen past).veh 1 ∷ on_of past.tables (frame_seen past).veh 2 ∷ []

-- the cabinet is in free operation and stays in it, a phase is on in each ring, and the next frame equals the last one
pub record Repeats (past : Past) : Type 0 where
  pub was : (frame_seen past).mode ≡ Free
  pub mode : mode_seen past ≡ Free
  pub first : on_in (frame_seen past) 1 ≢ 0
  pub second : on_in (frame_seen past) 2 ≢ 0
  pub again : (next_moment past).frame ≡ frame_seen past
