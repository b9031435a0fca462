use Rattle.std.proofs.Common.{◌≡◌, length, ℕ, Bool, if◌then◌else◌}
use Rattle.sig_types.specs.declared.frame.Ped.TheVariants.{Walk}
use Rattle.sig_tables.specs.Past.{Past}
use Rattle.sig_tables.specs.Layout.{Has}
use Rattle.tick_context.specs.Walks.{signal_seen}
use Rattle.engine.specs.Runs.{Runs}
use Rattle.sig_tables.proofs.FilledTo.{FilledTo}
use Rattle.engine.proofs.Engine.signals_after.Given as goal

abbrev pub invariant-loop-p : goal.invariant-loop-p
invariant-loop-p g l = record {
  sixteen : length l.ped ≡ 16;
  filled : (past : Past) (begins : ℕ → Bool) → Runs g.M.Memory.remembers l.self l.tick_state past → Has l.walks begins
      → FilledTo Walk l.ped l.p (λ p. if begins p then Walk else signal_seen past p);
}
