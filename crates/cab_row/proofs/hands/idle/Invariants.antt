use Rattle.std.proofs.Common.{◌≤◌, ◌-◌, All, vec_len, vec_capacity}
use Rattle.cab_row.specs.Hands.{IsIdle}
use Rattle.cab_row.proofs.hands.idle.Given as goal

abbrev pub invariant-loop-alloc : goal.invariant-loop-alloc
invariant-loop-alloc l = All IsIdle l.all.items × (vec_len l.all ≤ l.workers) × (l.workers ≤ vec_capacity l.all)

abbrev pub decreases-loop-alloc : goal.decreases-loop-alloc
decreases-loop-alloc l = l.workers - vec_len l.all
