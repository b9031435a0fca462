-- An engine represents a history if all that it stores follows from the history.
use Rattle.std.specs.Prelude.{ℕ, max}
use Rattle.sig_tables.specs.Past.{Past, History}
use Rattle.sig_tables.specs.Decide.{past_at}
use Rattle.sig_tables.specs.Layout.{Has}
use Rattle.sig_tables.specs.Seen.{frame_seen}
use Rattle.call_store.specs.CallsStand.{is_walking}
use Rattle.tick_context.specs.Shows.{is_signalling}
use Rattle.tick_context.specs.Context.{ContextStands, told_ticks}
use Rattle.engine.specs.Shows.{ShowsColours}
use Rattle.engine.specs.declared.Engine.{Engine}

-- the number of ticks so far
abbrev pub tick_count : {M : Type 0} → (M → ℕ) → Engine M → ℕ
tick_count frames e = max (told_ticks e.context) (frames e.memory)

-- the number of downloads put in force since the opening
abbrev pub install_count : {M : Type 0} → Engine M → ℕ
install_count e = e.context.version

-- what the engine stores represents the past
pub record EngineKeeps {M : Type 0} (remembers : M → Past → Type 0) (e : Engine M) (past : Past) : Type 0 where
  pub context : ContextStands e.context past
  pub memory : remembers e.memory past
  pub shown : ShowsColours e.shown (frame_seen past).veh
  pub walking : Has e.walking (is_walking (frame_seen past))
  pub signalling : Has e.signalling (is_signalling (frame_seen past))

-- the engine represents a history
abbrev pub EngineStands : {M : Type 0} → (M → Past → Type 0) → Engine M → History → Type 0
EngineStands remembers e h = EngineKeeps remembers e (past_at h)
