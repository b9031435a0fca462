-- What a download leaves as it was.
use Rattle.std.proofs.Common.{◌≡◌, ◌≤◌, ◌+◌, ◌==◌, ◌&&◌, not, ℕ, true, List, [], ◌∷◌, length, refl, ◌∙◌, ap, arith, subst}
use Rattle.std.proofs.lemmas.Bool.{and_parts}
use Rattle.sig_types.specs.declared.frame.Frame.{Frame}
use Rattle.sig_types.specs.declared.frame.Mode.TheVariants.{Coord}
use Rattle.sig_types.specs.Colour.{same_mode}
use Rattle.sig_types.specs.Phases.{is_in}
use Rattle.sig_types.proofs.Lists.{eq-true}
use Rattle.sig_tables.specs.declared.tables.Tables.{Tables}
use Rattle.sig_tables.specs.Past.{Past, Moment, Install}
use Rattle.sig_tables.specs.Looking.{last_moment}
use Rattle.sig_tables.specs.Choosing.{is_in_step}
use Rattle.sig_tables.specs.Command.{command_told}
use Rattle.sig_tables.specs.Clock.{clock_told}
use Rattle.sig_tables.specs.Calls.{vehicle_calls, pedestrian_calls, detectors_on}
use Rattle.sig_tables.specs.Decide.{with_event}
use Rattle.sig_tables.specs.Layout.{Has}
use Rattle.sig_tables.specs.Seen.{moment_seen}
use Rattle.call_store.specs.declared.Calls.{Calls}
use Rattle.call_store.specs.CallsStand.{CallsStand}
use Rattle.sig_tables.specs.Priority.{place_of, is_given_since}
use Rattle.prio_queue.specs.declared.Queue.{Queue}
use Rattle.prio_queue.specs.Places.{IsGivenBy}
use Rattle.prio_queue.specs.QueueStands.{kept, QueueStands}
use Rattle.tick_context.specs.declared.unit_commands.UnitCommands.{UnitCommands}
use Rattle.tick_context.specs.UnitCommands.{UnitCommandsStand}

same-moment : (t u : Tables) (past : List Moment) (n : ℕ) → length past ≡ n + 1 → last_moment t past ≡ last_moment u past
same-moment t u [] n h = absurd (omega arith)
same-moment t u (m ∷ past) n h = refl

-- the last moment is the same under other tables
pub moment-kept : (past : Past) (t : Tables) (n : ℕ) → length past.moments ≡ n + 1 → moment_seen past ≡ moment_seen (with_event (Install t) past)
moment-kept past t n h = same-moment past.tables t past.moments n h

pub calls-kept : (c : Calls) (past : Past) (t : Tables) → moment_seen past ≡ moment_seen (with_event (Install t) past) → CallsStand c past
    → CallsStand c (with_event (Install t) past)
calls-kept c past t e k = record {
  vehicle = subst (λ (m : Moment). Has c.vehicle (is_in (vehicle_calls past.heard m))) e k.vehicle;
  pedestrian = subst (λ (m : Moment). Has c.pedestrian (is_in (pedestrian_calls past.heard m))) e k.pedestrian;
  detectors = subst (λ (m : Moment). Has c.detectors (is_in (detectors_on past.heard m))) e k.detectors;
  turned_on = k.turned_on;
}

pub unit_commands-kept : (o : UnitCommands) (past : Past) (t : Tables) → moment_seen past ≡ moment_seen (with_event (Install t) past) → UnitCommandsStand o past
    → UnitCommandsStand o (with_event (Install t) past)
unit_commands-kept o past t e k = record {
  command = k.command ∙ ap (command_told past.commanded) e;
  since = k.since;
  clock = k.clock ∙ ap (clock_told past.clock_set) e;
  ticks = k.ticks ∙ ap (λ (m : Moment). m.number) e;
  gain = k.gain;
  lose = k.lose;
}

-- no frame is coordinated in a pattern of tables that came after it
pub not-yet : (f : Frame) (v n : ℕ) → f.version ≤ v → is_in_step f (v + 1) n ≡ true → ⊥
not-yet f v n old e =
    let same : f.version ≡ v + 1 = eq-true f.version (v + 1) (and_parts (same_mode f.mode (Coord n)) (f.version == v + 1) e).1 in
    omega arith

pub queue-kept : (q : Queue) (past : Past) (t : Tables) → moment_seen past ≡ moment_seen (with_event (Install t) past) → QueueStands q past
    → QueueStands q (with_event (Install t) past)
queue-kept q past t e stands i a b =
    let k = stands i a b in
    record {
      place = k.place;
      cancelled = k.cancelled;
      given = subst (λ (m : Moment). IsGivenBy m.number (kept q i)) e k.given;
      stays = k.stays;
      active = k.active ∙ ap (λ (m : Moment). m.active == i && not (is_given_since m.number (place_of i past.asked))) e;
    }
