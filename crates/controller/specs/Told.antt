-- An event that doesn't concern past frames leaves registers as they are.
use Rattle.std.specs.Prelude.{◌<◌, ◌≤◌, length}
use Rattle.sig_types.specs.declared.frame.Field.TheVariants.{Veh, Ped, Preempt}
use Rattle.sig_tables.specs.declared.tables.Tables.{Tables}
use Rattle.sig_tables.specs.Past.{Past, Event, Tick, Input, Install, SetPattern, SetClock, Ask, Cancel, SetDrift}
use Rattle.sig_tables.specs.Decide.{with_event}
use Rattle.sig_tables.specs.Seen.{frame_seen}
use Rattle.tick_context.proofs.Events.{not-yet}
use Rattle.preempt_run.proofs.Others.{stands-other}
use Rattle.engine.specs.Events.{LeavesBe}
use Rattle.controller.specs.declared.Registers.{Registers}
use Rattle.controller.specs.Registers.{RegistersStand}

pub told_leaves : (m : Registers) (past : Past) (e : Event) → LeavesBe e → RegistersStand m past → RegistersStand m (with_event e past)
told_leaves m past Tick l k = absurd l
told_leaves m past (Input (Veh q on)) l k = record { clocks = k.clocks; signals = k.signals; preempts = stands-other m.preempts (Input (Veh q on)) past tt k.preempts; last = k.last; latest = k.latest; start = k.start; counts = λ n s. let z = k.counts n s in record { stands = z.stands; within = z.within } }
told_leaves m past (Input (Ped q)) l k = record { clocks = k.clocks; signals = k.signals; preempts = stands-other m.preempts (Input (Ped q)) past tt k.preempts; last = k.last; latest = k.latest; start = k.start; counts = λ n s. let z = k.counts n s in record { stands = z.stands; within = z.within } }
told_leaves m past (Input (Preempt i on)) l k = absurd l
told_leaves m past (Install t) l k = absurd l
told_leaves m past (SetPattern n) l k = record { clocks = k.clocks; signals = k.signals; preempts = stands-other m.preempts (SetPattern n) past tt k.preempts; last = k.last; latest = k.latest; start = k.start; counts = λ n s. let z = k.counts n s in record { stands = z.stands; within = z.within } }
told_leaves m past (SetClock time) l k = record { clocks = k.clocks; signals = k.signals; preempts = stands-other m.preempts (SetClock time) past tt k.preempts; last = k.last; latest = k.latest; start = k.start; counts = λ n s. let z = k.counts n s in record { stands = z.stands; within = z.within } }
told_leaves m past (Ask r) l k = record { clocks = k.clocks; signals = k.signals; preempts = stands-other m.preempts (Ask r) past tt k.preempts; last = k.last; latest = k.latest; start = k.start; counts = λ n s. let z = k.counts n s in record { stands = z.stands; within = z.within } }
told_leaves m past (Cancel n) l k = record { clocks = k.clocks; signals = k.signals; preempts = stands-other m.preempts (Cancel n) past tt k.preempts; last = k.last; latest = k.latest; start = k.start; counts = λ n s. let z = k.counts n s in record { stands = z.stands; within = z.within } }
told_leaves m past (SetDrift gain lose) l k = record { clocks = k.clocks; signals = k.signals; preempts = stands-other m.preempts (SetDrift gain lose) past tt k.preempts; last = k.last; latest = k.latest; start = k.start; counts = λ n s. let z = k.counts n s in record { stands = z.stands; within = z.within } }

pub installed_leaves : (m : Registers) (past : Past) (t : Tables) → 0 < length past.moments → (frame_seen past).version ≤ past.version → RegistersStand m past
    → RegistersStand m (with_event (Install t) past)
installed_leaves m past t some old k = record {
  clocks = k.clocks;
  signals = k.signals;
  preempts = k.preempts;
  last = k.last;
  latest = k.latest;
  start = k.start;
  counts = λ n s. absurd (not-yet (frame_seen past) past.version n old s);
}
