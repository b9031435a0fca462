-- The pattern that binds at a tick.
use Rattle.std.proofs.Common.{◌≡◌, ℕ, Bool, sym, ◌∙◌, ap, subst}
use Rattle.sig_types.specs.declared.frame.Mode.{Mode}
use Rattle.sig_types.specs.declared.frame.Mode.TheVariants.{Coord}
use Rattle.sig_tables.specs.Past.{Past}
use Rattle.sig_tables.specs.Seen.{mode_seen}
use Rattle.tick_context.specs.declared.context.TickContext.{TickContext}
use Rattle.tick_context.specs.declared.tick_state.TickState.{TickState}
use Rattle.tick_context.specs.Modes.{is_coord}
use Rattle.tick_context.specs.Binds.{ActivePatternIs, IsBound}
use Rattle.tick_context.specs.Runs.{ContextRuns}

-- coordinated in pattern n, that is the pattern which is kept
pub active_pattern-in : (c : TickContext) (k : TickState) (past : Past) (n : ℕ) → ContextRuns c k past → mode_seen past ≡ Coord n → ActivePatternIs c.active_pattern past.tables n
active_pattern-in c k past n r e = subst (λ (m : Mode). IsBound c.active_pattern past.tables m) e r.bound

-- whether the mode of a tick state is coordinated in a pattern
pub coord-of : (c : TickContext) (k : TickState) (past : Past) (b x : Bool) → ContextRuns c k past → b ≡ is_coord k.mode → b ≡ x → is_coord (mode_seen past) ≡ x
coord-of c k past b x r e f = sym (ap is_coord r.tick_state.mode) ∙ sym e ∙ f
