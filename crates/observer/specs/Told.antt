-- An event that doesn't concern past frames leaves the memory as it is.
use Rattle.std.specs.Prelude.{◌≡◌, ◌<◌, ◌≤◌, ◌-◌, length}
use Rattle.std.proofs.Common.{refl, ap, arith}
use Rattle.sig_types.specs.declared.frame.Field.TheVariants.{Veh, Ped, Preempt}
use Rattle.sig_types.specs.Phases.{is_in}
use Rattle.sig_tables.specs.declared.tables.Tables.{Tables}
use Rattle.sig_tables.specs.Past.{Past, Event, Moment, Tick, Input, Install, SetPattern, SetClock, Ask, Cancel, SetDrift}
use Rattle.sig_tables.specs.Decide.{with_event}
use Rattle.sig_tables.specs.Preempts.{preempt_on}
use Rattle.sig_tables.specs.Seen.{frame_seen, moment_seen}
use Rattle.tick_context.proofs.Events.{moment-kept, not-yet}
use Rattle.observer.specs.Inputs.{kept-on}
use Rattle.engine.specs.Events.{LeavesBe}
use Rattle.observer.specs.declared.LookingBack.{LookingBack}
use Rattle.observer.specs.LookingBack.{SeesBack}

pub told_leaves : (m : LookingBack) (past : Past) (e : Event) → LeavesBe e → SeesBack m past → SeesBack m (with_event e past)
told_leaves m past Tick l k = absurd l
told_leaves m past (Input (Veh q on)) l k = record { inputs = kept-on m.inputs past (with_event (Input (Veh q on)) past) (λ i. refl) k.inputs; frame_history = k.frame_history; frames = k.frames; within = k.within }
told_leaves m past (Input (Ped q)) l k = record { inputs = kept-on m.inputs past (with_event (Input (Ped q)) past) (λ i. refl) k.inputs; frame_history = k.frame_history; frames = k.frames; within = k.within }
told_leaves m past (Input (Preempt i on)) l k = absurd l
told_leaves m past (Install t) l k = absurd l
told_leaves m past (SetPattern n) l k = record { inputs = kept-on m.inputs past (with_event (SetPattern n) past) (λ i. refl) k.inputs; frame_history = k.frame_history; frames = k.frames; within = k.within }
told_leaves m past (SetClock time) l k = record { inputs = kept-on m.inputs past (with_event (SetClock time) past) (λ i. refl) k.inputs; frame_history = k.frame_history; frames = k.frames; within = k.within }
told_leaves m past (Ask r) l k = record { inputs = kept-on m.inputs past (with_event (Ask r) past) (λ i. refl) k.inputs; frame_history = k.frame_history; frames = k.frames; within = k.within }
told_leaves m past (Cancel n) l k = record { inputs = kept-on m.inputs past (with_event (Cancel n) past) (λ i. refl) k.inputs; frame_history = k.frame_history; frames = k.frames; within = k.within }
told_leaves m past (SetDrift gain lose) l k = record { inputs = kept-on m.inputs past (with_event (SetDrift gain lose) past) (λ i. refl) k.inputs; frame_history = k.frame_history; frames = k.frames; within = k.within }

pub installed_leaves : (m : LookingBack) (past : Past) (t : Tables) → 0 < length past.moments → (frame_seen past).version ≤ past.version → SeesBack m past
    → SeesBack m (with_event (Install t) past)
installed_leaves m past t some old k =
    let e : moment_seen past ≡ moment_seen (with_event (Install t) past) = moment-kept past t (length past.moments - 1) (omega (arith, some)) in
    record {
      inputs = kept-on m.inputs past (with_event (Install t) past) (λ i. ap (λ (m : Moment). preempt_on (is_in m.preempts i) past.heard i) e) k.inputs;
      frame_history = k.frame_history;
      frames = k.frames;
      within = λ n s. absurd (not-yet (frame_seen past) past.version n old s);
    }
