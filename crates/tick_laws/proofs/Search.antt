-- The calls that a moment keeps are those that the search finds.
use Rattle.std.proofs.Common.{◌≡◌, ℕ, Bool, true, false, not, ◌&&◌, ◌||◌, ◌==◌, if◌then◌else◌, List, [], ◌∷◌, refl, sym, ◌∙◌, ap}
use Rattle.sig_types.specs.declared.frame.Field.{Field}
use Rattle.sig_types.specs.declared.frame.Field.TheVariants.{Veh}
use Rattle.sig_types.specs.declared.frame.Frame.{Frame}
use Rattle.sig_types.specs.Phases.{is_phase, is_in}
use Rattle.sig_tables.specs.declared.tables.Tables.{Tables}
use Rattle.sig_tables.specs.Tables.{is_enabled, has_maximum_recall}
use Rattle.sig_tables.specs.Past.{Event, Tick, Input, Install, Heard, Moment, Past, first_frame, first_moment}
use Rattle.sig_tables.specs.Calls.{locks_vehicle, locks_pedestrian, turns_on, some_heard, detector_on, detectors_on, is_green, is_active}
use Rattle.sig_tables.specs.Decide.{last_moment, next_moment, past_of}
use Rattle.sig_tables.specs.Seen.{moment_seen, vehicle_seen, pedestrian_seen, detectors_seen}
use Rattle.tick_laws.specs.Search.{stands, is_walk, stands_locked, stands_pressed, last_turned_on, turned_on_since}
use Rattle.sig_tables.proofs.Called.{called, called-more, called-on, frame-same}
use Rattle.sig_types.proofs.Sets.{in-phases}

-- the calls that a tick sees: locked since the last frame or present at its moment, and not served by it
abbrev calls_seen : (Frame → ℕ → Bool) → (Tables → Field → ℕ → Bool) → (Moment → List ℕ) → Past → List ℕ
calls_seen serves locks stood past = called (serves (moment_seen past).frame) locks past.heard (stood (moment_seen past))

nothing : (b : Bool) → (b && false) ≡ false
nothing true = refl
nothing false = refl

-- the calls that a moment keeps, where none is there at first and each tick keeps those that it sees
record SearchKeeps (serves : Frame → ℕ → Bool) (locks : Tables → Field → ℕ → Bool) (stood : Moment → List ℕ) : Type 0 where
  first : (t : Tables) → stood (first_moment t) ≡ []
  next : (past : Past) → stood (next_moment past) ≡ calls_seen serves locks stood past

aside : (serves : Frame → ℕ → Bool) (locks : Tables → Field → ℕ → Bool) (stood : Moment → List ℕ) → SearchKeeps serves locks stood
    → (a b : Tables) (heard : List Heard) (moments : List Moment)
    → called (serves (last_moment a moments).frame) locks heard (stood (last_moment a moments))
    ≡ called (serves (last_moment b moments).frame) locks heard (stood (last_moment b moments))
aside serves locks stood k a b heard [] = ap (λ (x : List ℕ). called (serves first_frame) locks heard x) (k.first a ∙ sym (k.first b))
aside serves locks stood k a b heard (m ∷ past) = refl

found : (serves : Frame → ℕ → Bool) (locks : Tables → Field → ℕ → Bool) (stood : Moment → List ℕ) → SearchKeeps serves locks stood
    → (opening : Tables) (events : List Event) (p : ℕ) → is_phase p ≡ true
    → is_in (calls_seen serves locks stood (past_of opening events)) p ≡ stands serves locks opening events p
found serves locks stood k opening [] p ph =
    called-on (serves first_frame) locks (stood (first_moment opening)) p ph
    ∙ ap (λ (x : List ℕ). not (serves first_frame p) && is_in x p) (k.first opening) ∙ nothing (not (serves first_frame p))
found serves locks stood k opening (Tick ∷ events) p ph =
    let past : Past = past_of opening events in
    called-on (serves (next_moment past).frame) locks (stood (next_moment past)) p ph
    ∙ ap (λ (x : List ℕ). not (serves (next_moment past).frame p) && is_in x p) (k.next past)
    ∙ ap (λ (x : Bool). not (serves (next_moment past).frame p) && x) (found serves locks stood k opening events p ph)
found serves locks stood k opening (Input field ∷ events) p ph =
    let past : Past = past_of opening events in
    called-more (serves (moment_seen past).frame) locks past.tables field past.heard (stood (moment_seen past)) p ph
    ∙ ap (λ (x : Bool). not (serves (moment_seen past).frame p) && locks past.tables field p || x) (found serves locks stood k opening events p ph)
    ∙ ap (λ (x : Frame). not (serves x p) && locks past.tables field p || stands serves locks opening events p) (frame-same past.tables past.moments)
found serves locks stood k opening (Install t ∷ events) p ph =
    let past : Past = past_of opening events in
    ap (λ (x : List ℕ). is_in x p) (aside serves locks stood k t past.tables past.heard past.moments) ∙ found serves locks stood k opening events p ph
found serves locks stood k opening (_ ∷ events) p ph = found serves locks stood k opening events p ph

pub vehicle-found : (opening : Tables) (events : List Event) (p : ℕ) → is_phase p ≡ true
    → is_in (vehicle_seen (past_of opening events)) p ≡ stands_locked opening events p
vehicle-found = found is_green locks_vehicle (λ m. m.vehicle) (record { first = λ t. refl; next = λ past. refl })

pub pedestrian-found : (opening : Tables) (events : List Event) (p : ℕ) → is_phase p ≡ true
    → is_in (pedestrian_seen (past_of opening events)) p ≡ stands_pressed opening events p
pedestrian-found = found is_walk locks_pedestrian (λ m. m.pedestrian) (record { first = λ t. refl; next = λ past. refl })

detectors-aside : (a b : Tables) (heard : List Heard) (moments : List Moment)
    → detectors_on heard (last_moment a moments) ≡ detectors_on heard (last_moment b moments)
detectors-aside a b heard [] = refl
detectors-aside a b heard (m ∷ past) = refl

one-detector : (past : Past) (p : ℕ) → is_phase p ≡ true → is_in (detectors_seen past) p ≡ detector_on (is_in (moment_seen past).detectors p) past.heard p
one-detector past p ph = in-phases (λ q. detector_on (is_in (moment_seen past).detectors q) past.heard q) p ph

pub detector-found : (opening : Tables) (events : List Event) (p : ℕ) → is_phase p ≡ true
    → is_in (detectors_seen (past_of opening events)) p ≡ last_turned_on events p
detector-found opening [] p ph = one-detector (past_of opening []) p ph
detector-found opening (Tick ∷ events) p ph = one-detector (past_of opening (Tick ∷ events)) p ph ∙ detector-found opening events p ph
detector-found opening (Input (Veh q on) ∷ events) p ph =
    one-detector (past_of opening (Input (Veh q on) ∷ events)) p ph
    ∙ ap (λ (b : Bool). if q == p then on else b) (sym (one-detector (past_of opening events) p ph) ∙ detector-found opening events p ph)
detector-found opening (Install t ∷ events) p ph =
    let past : Past = past_of opening events in
    ap (λ (x : List ℕ). is_in x p) (detectors-aside t past.tables past.heard past.moments) ∙ detector-found opening events p ph
detector-found opening (_ ∷ events) p ph = detector-found opening events p ph

if-or : (a b : Bool) → (if a then true else b) ≡ (a || b)
if-or true b = refl
if-or false b = refl

turned-on : (opening : Tables) (events : List Event) (p : ℕ)
    → some_heard (λ _ field q. turns_on field q) (past_of opening events).heard p ≡ turned_on_since events p
turned-on opening [] p = refl
turned-on opening (Tick ∷ events) p = refl
turned-on opening (Input (Veh q true) ∷ events) p =
    if-or (q == p) (some_heard (λ _ field x. turns_on field x) (past_of opening events).heard p)
    ∙ ap (λ (b : Bool). q == p || b) (turned-on opening events p)
turned-on opening (_ ∷ events) p = turned-on opening events p

pub active-found : (t opening : Tables) (events : List Event) (p : ℕ) → is_phase p ≡ true
    → is_active t (past_of opening events).heard (detectors_seen (past_of opening events)) p
    ≡ (is_enabled t p && (last_turned_on events p || turned_on_since events p || has_maximum_recall t p))
active-found t opening events p ph =
    ap (λ (b : Bool). is_enabled t p && (b || some_heard (λ _ field q. turns_on field q) (past_of opening events).heard p || has_maximum_recall t p))
    (detector-found opening events p ph)
    ∙ ap (λ (b : Bool). is_enabled t p && (last_turned_on events p || b || has_maximum_recall t p)) (turned-on opening events p)
