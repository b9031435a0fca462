-- The exit status for each answer.
use Rattle.std.specs.Prelude.{ℕ}
use Rattle.station.specs.declared.status.Status.{Status}
use Rattle.station.specs.declared.status.Status.TheVariants.{Done, Usage, Scenario, NotATrace, Overlap, Unsafe, NotALog, ReadFault, WriteFault, NoMemory}

-- the exit status
abbrev pub exit_status : Status → ℕ
exit_status Done = 0
exit_status Usage = 1
exit_status (Scenario refusal) = 2
exit_status ReadFault = 3
exit_status WriteFault = 4
exit_status (NotATrace fault) = 5
exit_status (NotALog fault) = 5
exit_status NoMemory = 6
exit_status (Overlap fault) = 7
exit_status Unsafe = 8
