-- The inputs of preempts at a tick.
use Rattle.std.specs.Prelude.{ℕ, List}
use Rattle.sig_tables.specs.Past.{Past}
use Rattle.sig_tables.specs.Preempts.{preempts_on}
use Rattle.sig_tables.specs.Seen.{moment_seen}

-- the preempts whose input is on
unfoldable pub preempts_seen : Past → List ℕ
preempts_seen past = preempts_on past.heard (moment_seen past)
