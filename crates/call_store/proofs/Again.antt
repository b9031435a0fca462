-- The calls that a tick sees are those that the tick before saw, where that one showed what the last frame shows and nothing was heard since.
use Rattle.std.proofs.Common.{◌≡◌, ◌&&◌, ◌||◌, ◌-◌, not, ℕ, Bool, true, false, List, [], get_or, refl, sym, ◌∙◌, ap}
use Rattle.sig_types.specs.declared.frame.Colour.{Colour}
use Rattle.sig_types.specs.declared.frame.Colour.TheVariants.{Green}
use Rattle.sig_types.specs.declared.frame.Ped.{Ped}
use Rattle.sig_types.specs.declared.frame.Ped.TheVariants.{Walk}
use Rattle.sig_types.specs.Colour.{same_colour, same_signal, colour_in}
use Rattle.sig_types.specs.declared.frame.Frame.{Frame}
use Rattle.sig_types.specs.declared.frame.Field.{Field}
use Rattle.sig_types.specs.Phases.{is_phase, is_in, all_phases, those}
use Rattle.sig_types.proofs.Sets.{in-phases, those-same, listed-phase}
use Rattle.sig_tables.specs.declared.tables.Tables.{Tables}
use Rattle.sig_tables.specs.Past.{Past, Moment, Heard}
use Rattle.sig_tables.specs.Calls.{is_green, some_heard, turns_on, locks_vehicle, locks_pedestrian, detector_on}
use Rattle.sig_tables.specs.Decide.{with_moment}
use Rattle.sig_tables.specs.Seen.{frame_seen, moment_seen, vehicle_seen, pedestrian_seen, detectors_seen}
use Rattle.sig_tables.proofs.Called.{called, called-on, frame-same}
use Rattle.call_store.specs.declared.Calls.{Calls}
use Rattle.call_store.specs.CallsStand.{CallsStand, is_walking}

twice : (g y : Bool) → (not g && (not g && y)) ≡ (not g && y)
twice true y = refl
twice false y = refl

-- calls that remain once a frame has served them are served by it no more
served-again : (served : Frame → ℕ → Bool) (locks : Tables → Field → ℕ → Bool) (heard : List Heard) (f g : Frame) (stood : List ℕ)
    → ((p : ℕ) → served f p ≡ served g p) → called (served f) locks [] (called (served g) locks heard stood) ≡ called (served g) locks heard stood
served-again served locks heard f g stood e =
    those-same _ _ all_phases (λ p l.
    let h = listed-phase p l in
    ap (λ (b : Bool). not (served f p) && b) (in-phases (λ x. not (served g x) && (some_heard locks heard x || is_in stood x)) p h)
    ∙ ap (λ (b : Bool). not b && (not (served g p) && (some_heard locks heard p || is_in stood p))) (e p)
    ∙ twice (served g p) (some_heard locks heard p || is_in stood p))

pub vehicle-again : (past : Past) (m : Moment) → m.frame.veh ≡ (frame_seen past).veh → m.vehicle ≡ vehicle_seen past
    → vehicle_seen (with_moment past m) ≡ vehicle_seen past
vehicle-again past m e v =
    let same : m.frame.veh ≡ (moment_seen past).frame.veh = e ∙ sym (ap (λ (f : Frame). f.veh) (frame-same past.tables past.moments)) in
    ap (λ (xs : List ℕ). called (is_green m.frame) locks_vehicle [] xs) v
    ∙ served-again is_green locks_vehicle past.heard m.frame (moment_seen past).frame (moment_seen past).vehicle
    (λ p. ap (λ (veh : List Colour). same_colour (colour_in veh p) Green) same)

pub pedestrian-again : (past : Past) (m : Moment) → m.frame.ped ≡ (frame_seen past).ped → m.pedestrian ≡ pedestrian_seen past
    → pedestrian_seen (with_moment past m) ≡ pedestrian_seen past
pedestrian-again past m e v =
    let same : m.frame.ped ≡ (moment_seen past).frame.ped = e ∙ sym (ap (λ (f : Frame). f.ped) (frame-same past.tables past.moments)) in
    ap (λ (xs : List ℕ). called (is_walking m.frame) locks_pedestrian [] xs) v
    ∙ served-again is_walking locks_pedestrian past.heard m.frame (moment_seen past).frame (moment_seen past).pedestrian
    (λ p. ap (λ (ped : List Ped). same_signal (get_or ped (p - 1) Walk) Walk) same)

pub detectors-again : (past : Past) (m : Moment) → m.detectors ≡ detectors_seen past → detectors_seen (with_moment past m) ≡ detectors_seen past
detectors-again past m v =
    ap (λ (xs : List ℕ). those (λ p. is_in xs p) all_phases) v
    ∙ those-same _ _ all_phases (λ p l. in-phases (λ x. detector_on (is_in (moment_seen past).detectors x) past.heard x) p (listed-phase p l))

-- and what is kept of them represents one such moment more
pub calls-on : (c : Calls) (past : Past) (m : Moment) → CallsStand c past → past.heard ≡ [] → m.frame.veh ≡ (frame_seen past).veh
    → m.frame.ped ≡ (frame_seen past).ped → m.vehicle ≡ vehicle_seen past → m.pedestrian ≡ pedestrian_seen past → m.detectors ≡ detectors_seen past
    → CallsStand c (with_moment past m)
calls-on c past m k none e f v q d = record {
  vehicle = λ p is. k.vehicle p is ∙ ap (λ (xs : List ℕ). is_in xs p) (sym (vehicle-again past m e v));
  pedestrian = λ p is. k.pedestrian p is ∙ ap (λ (xs : List ℕ). is_in xs p) (sym (pedestrian-again past m f q));
  detectors = λ p is. k.detectors p is ∙ ap (λ (xs : List ℕ). is_in xs p) (sym (detectors-again past m d));
  turned_on = λ p is. k.turned_on p is ∙ ap (λ (xs : List Heard). some_heard (λ _ field q. turns_on field q) xs p) none;
}
