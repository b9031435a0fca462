-- A queue at skipped ticks.
use Rattle.std.specs.Prelude.{◌≡◌, None}
use Rattle.prio_queue.specs.declared.Queue.{Queue}

-- no request is active that was active at the last tick and hasn't been replaced since then
abbrev pub IsIdle : Queue → Type 0
IsIdle q = q.active ≡ None
