-- What the rings do at a tick, in code and in the definitions.
use Rattle.sig_types.specs.PhaseSet.{phases_of}
use Rattle.sig_tables.specs.TickState.{RingTurn as Meant, Rest as MeantRest, StartUp as MeantStartUp, Rings as MeantRings, Goal as MeantGoal}
use Rattle.flash_mode.specs.declared.ring_turn.RingTurn.{RingTurn}
use Rattle.flash_mode.specs.declared.ring_turn.RingTurn.TheVariants.{Rest, StartUp, Rings, Goal}

-- what the rings do in the definitions, for a turn in code
abbrev pub ring_turn_meant : RingTurn → Meant
ring_turn_meant Rest = MeantRest
ring_turn_meant StartUp = MeantStartUp
ring_turn_meant Rings = MeantRings
ring_turn_meant (Goal goal) = MeantGoal (phases_of goal)
