use Rattle.std.proofs.Common.{◌≡◌, ◌<◌, ◌≤◌, ℕ, true, false}
use Rattle.sig_types.specs.PhaseSet.{has}
use Rattle.sig_types.specs.Phases.{is_phase}
use Rattle.sig_tables.specs.Past.{Past}
use Rattle.sig_tables.specs.Modes.{bound}
use Rattle.tick_context.specs.Binds.{IsBound}
use Rattle.tick_context.specs.Context.{ContextStands}
use Rattle.tick_context.specs.Lasting.{HasNoRoom}
use Rattle.tick_context.proofs.context.TickContext.all_full_left.Given as goal

-- for each of the phases that was looked at there is no room for that many ticks
abbrev pub invariant-loop : goal.invariant-loop
invariant-loop l =
    (past : Past) (k q : ℕ) → ContextStands l.self past → IsBound l.self.active_pattern past.tables l.self.frame.mode
    → 0 < k → k ≤ l.left → is_phase q ≡ true → has l.fn.phases q ≡ true → has l.rest q ≡ false → HasNoRoom (bound l.self.frame.mode) k past q
