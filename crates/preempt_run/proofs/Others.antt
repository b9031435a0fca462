-- The registers represent what has come with one event more that is not an input of a preempt and no tick.
use Rattle.sig_types.specs.declared.frame.Field.TheVariants.{Veh, Ped as Button, Preempt as PreemptInput}
use Rattle.sig_tables.specs.Past.{Event, Tick, Input, Install, SetPattern, SetClock, Ask, Cancel, SetDrift, Past}
use Rattle.sig_tables.specs.Decide.{with_event}
use Rattle.preempt_run.specs.declared.Preempts.{Preempts}
use Rattle.preempt_run.specs.PreemptsKeep.{PreemptsStand}

-- the event is not a tick, and no input of a preempt
abbrev pub IsOther : Event → Type 0
IsOther Tick = ⊥
IsOther (Input (Veh q on)) = Unit {0}
IsOther (Input (Button q)) = Unit {0}
IsOther (Input (PreemptInput i on)) = ⊥
IsOther (Install t) = Unit {0}
IsOther (SetPattern n) = Unit {0}
IsOther (SetClock time) = Unit {0}
IsOther (Ask request) = Unit {0}
IsOther (Cancel number) = Unit {0}
IsOther (SetDrift gain lose) = Unit {0}

pub stands-other : (c : Preempts) (e : Event) (past : Past) → IsOther e → PreemptsStand c past → PreemptsStand c (with_event e past)
stands-other c Tick past other stands = absurd other
stands-other c (Input (Veh q on)) past other stands = record {
  steps = stands.steps;
  on = stands.on;
  inputs = stands.inputs;
  mode = stands.mode;
  mode_run = stands.mode_run;
  stage_run = stands.stage_run;
  green = stands.green;
  off = stands.off;
  fits = stands.fits;
}
stands-other c (Input (Button q)) past other stands = record {
  steps = stands.steps;
  on = stands.on;
  inputs = stands.inputs;
  mode = stands.mode;
  mode_run = stands.mode_run;
  stage_run = stands.stage_run;
  green = stands.green;
  off = stands.off;
  fits = stands.fits;
}
stands-other c (Input (PreemptInput i on)) past other stands = absurd other
stands-other c (Install t) past other stands = stands
stands-other c (SetPattern n) past other stands = stands
stands-other c (SetClock time) past other stands = stands
stands-other c (Ask request) past other stands = stands
stands-other c (Cancel number) past other stands = stands
stands-other c (SetDrift gain lose) past other stands = stands
