-- The shorter times that a preempt leaves a phase.
use Rattle.std.specs.Prelude.{ℕ, if◌then◌else◌, Option, Some, None}
use Rattle.sig_types.specs.PhaseSet.{has}
use Rattle.sig_tables.specs.declared.tables.Preempt.{Preempt}
use Rattle.judge.specs.declared.lesser.LesserTimes.{LesserTimes}
use Rattle.judge.specs.declared.lesser.Way.{Way}

-- the times that this preempt leaves a phase; none without a preempt
abbrev pub lesser_of : Option Preempt → Option LesserTimes
lesser_of None = None
lesser_of (Some preempt) =
    Some (record { green = preempt.minimum_green; walk = preempt.minimum_walk; clearance = preempt.enter_pedestrian_clear })

-- the times that a preempt leaves phase p; none if there is no preempt, or if the preempt serves p
abbrev pub left_by : Option Way → ℕ → Option LesserTimes
left_by None p = None
left_by (Some way) p = if has way.served p then None else Some way.times
