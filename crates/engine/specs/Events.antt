-- The events that a cabinet receives.
use Rattle.sig_types.specs.declared.frame.Field.{Field}
use Rattle.sig_types.specs.declared.frame.Field.TheVariants.{Veh, Ped, Preempt}
use Rattle.sig_tables.specs.Past.{Event, Tick, Input, Install, SetPattern, SetClock, Ask, Cancel, SetDrift}

abbrev pub IsOfPhase : Field → Type 0
IsOfPhase (Veh q on) = Unit {0}
IsOfPhase (Ped q) = Unit {0}
IsOfPhase (Preempt i on) = ⊥

-- the event is not a tick, puts no tables in force and is not an input of a preempt
abbrev pub LeavesBe : Event → Type 0
LeavesBe Tick = ⊥
LeavesBe (Input field) = IsOfPhase field
LeavesBe (Install tables) = ⊥
LeavesBe (SetPattern command) = Unit {0}
LeavesBe (SetClock time) = Unit {0}
LeavesBe (Ask request) = Unit {0}
LeavesBe (Cancel number) = Unit {0}
LeavesBe (SetDrift gain lose) = Unit {0}
