use Rattle.std.proofs.Common.{◌≡◌, ◌+◌, ℕ, drop}
use Rattle.sig_tables.specs.declared.tables.Tables.{Tables}
use Rattle.sig_tables.specs.Past.{Past}
use Rattle.sig_tables.specs.Slots.{is_coordinated}
use Rattle.sig_tables.specs.Layout.{Has}
use Rattle.sig_tables.specs.Priority.{leader, all_requests}
use Rattle.prio_queue.specs.Places.{meant}
use Rattle.prio_queue.specs.QueueStands.{QueueStands}
use Rattle.prio_queue.proofs.Queue.leader.Given as goal

-- of the numbers from the greatest down that were looked at, the one that comes first
abbrev pub invariant-loop-step : goal.invariant-loop-step
invariant-loop-step l = (past : Past) (t : Tables) (n k : ℕ) → QueueStands l.self past → Has l.coordinated (is_coordinated t n)
    → k + l.step ≡ 10 → meant l.leader ≡ leader t n l.tick past.asked (drop k all_requests)
