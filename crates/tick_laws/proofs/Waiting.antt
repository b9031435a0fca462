-- Calls wait until their phase serves them, and a walk that was asked for comes with a green that begins in free operation.
use Rattle.std.proofs.Common.{◌≡◌, ℕ, Bool, true, false, not, ◌&&◌, ◌||◌, if◌then◌else◌, List, [], ◌∷◌, Option, Some, None, refl, sym, ◌∙◌, ap}
use Rattle.std.proofs.lemmas.Bool.{and_from, false≢true}
use Rattle.sig_types.specs.declared.frame.Colour.{Colour}
use Rattle.sig_types.specs.declared.frame.Colour.TheVariants.{Green, Red}
use Rattle.sig_types.specs.declared.frame.Ped.TheVariants.{Walk}
use Rattle.sig_types.specs.declared.frame.Mode.{Mode}
use Rattle.sig_types.specs.declared.frame.Frame.{Frame}
use Rattle.sig_types.specs.declared.frame.Field.{Field}
use Rattle.sig_types.specs.Phases.{is_phase, is_in}
use Rattle.sig_types.specs.Colour.{same_colour, colour_in, colour_of, signal_of}
use Rattle.sig_types.proofs.Sets.{in-phases}
use Rattle.sig_tables.specs.declared.tables.Tables.{Tables}
use Rattle.sig_tables.specs.Tables.{is_enabled}
use Rattle.sig_tables.specs.Past.{Event, Tick, Input, Install, SetPattern, SetClock, Ask, Cancel, SetDrift, History, Past}
use Rattle.sig_tables.specs.Slots.{is_omitted}
use Rattle.sig_tables.specs.Splits.{omits}
use Rattle.sig_tables.specs.Modes.{bound}
use Rattle.sig_tables.specs.Calls.{locks_vehicle, locks_pedestrian, some_heard, is_called, is_green}
use Rattle.sig_tables.proofs.Called.{frame-same}
use Rattle.sig_tables.specs.SplitCalls.{is_called_by, demand_in}
use Rattle.sig_tables.specs.Looking.{last_frame}
use Rattle.sig_tables.specs.TickState.{RingTurn, Rest, StartUp, Rings, Goal}
use Rattle.sig_tables.specs.Walking.{walks_at_green, has_walk, walk_begins}
use Rattle.sig_tables.specs.View.{View}
use Rattle.sig_tables.specs.Seen.{moment_seen, vehicle_seen, pedestrian_seen, detectors_seen, mode_seen, ring_turn_seen, view_seen, moves_seen, demand_seen}
use Rattle.sig_tables.specs.Decide.{moves_of, colour_after, colours_of, next_moment, past_of, past_at, since_opening, last_frame_of, with_one}
use Rattle.tick_laws.specs.Search.{stands, is_walk}
use Rattle.tick_laws.specs.Waiting.{with_more, is_served_in, BeginsFree}
use Rattle.tick_laws.proofs.Search.{vehicle-found, pedestrian-found}
use Rattle.tick_laws.proofs.Choices.{leaves, differs}
use Rattle.tick_laws.proofs.Next.{next-colour, next-signal, crossing_seen, walk_seen, signal_left}

-- ---- a call remains until it is served

unserved : (s b : Bool) → (s || b) ≡ false → (s ≡ false) × (b ≡ false)
unserved true b h = absurd (false≢true (sym h))
unserved false b h = (refl, h)

or-second : (a b : Bool) → b ≡ true → (a || b) ≡ true
or-second true b h = refl
or-second false b h = h

kept : (serves : Frame → ℕ → Bool) (locks : Tables → Field → ℕ → Bool) (h : History) (p : ℕ) (later : List Event)
    → stands serves locks h.tables (since_opening h) p ≡ true → is_served_in serves later h p ≡ false
    → stands serves locks h.tables (since_opening (with_more later h)) p ≡ true
kept serves locks h p [] s n = s
kept serves locks h p (Tick ∷ later) s n =
    let a = unserved (serves (next_moment (past_of h.tables (since_opening (with_more later h)))).frame p) (is_served_in serves later h p) n in
    and_from _ _ (ap not a.0) (kept serves locks h p later s a.1)
kept serves locks h p (Input field ∷ later) s n =
    or-second _ (stands serves locks h.tables (since_opening (with_more later h)) p) (kept serves locks h p later s n)
kept serves locks h p (Install t ∷ later) s n = kept serves locks h p later s n
kept serves locks h p (SetPattern i ∷ later) s n = kept serves locks h p later s n
kept serves locks h p (SetClock time ∷ later) s n = kept serves locks h p later s n
kept serves locks h p (Ask request ∷ later) s n = kept serves locks h p later s n
kept serves locks h p (Cancel number ∷ later) s n = kept serves locks h p later s n
kept serves locks h p (SetDrift gain lose ∷ later) s n = kept serves locks h p later s n

-- an input that locks a call which is not served makes it remain
or-first : (a b : Bool) → a ≡ true → (a || b) ≡ true
or-first true b h = refl
or-first false b h = absurd (false≢true h)

locked-now : (serves : Frame → ℕ → Bool) (locks : Tables → Field → ℕ → Bool) (h : History) (field : Field) (p : ℕ)
    → locks (past_at h).tables field p ≡ true → serves (last_frame_of h) p ≡ false
    → stands serves locks h.tables (since_opening (with_one h (Input field))) p ≡ true
locked-now serves locks h field p l n = or-first _ (stands serves locks h.tables (since_opening h) p) (and_from _ _ (ap not n) l)

pub vehicle-locked : (h : History) (field : Field) (p : ℕ) → is_phase p ≡ true → locks_vehicle (past_at h).tables field p ≡ true
    → is_green (last_frame_of h) p ≡ false → is_in (vehicle_seen (past_at (with_one h (Input field)))) p ≡ true
vehicle-locked h field p ph l n =
    vehicle-found h.tables (since_opening (with_one h (Input field))) p ph ∙ locked-now is_green locks_vehicle h field p l n

pub pedestrian-pressed : (h : History) (field : Field) (p : ℕ) → is_phase p ≡ true → locks_pedestrian (past_at h).tables field p ≡ true
    → is_walk (last_frame_of h) p ≡ false → is_in (pedestrian_seen (past_at (with_one h (Input field)))) p ≡ true
pedestrian-pressed h field p ph l n =
    pedestrian-found h.tables (since_opening (with_one h (Input field))) p ph ∙ locked-now is_walk locks_pedestrian h field p l n

pub vehicle-stays : (h : History) (later : List Event) (p : ℕ) → is_phase p ≡ true → is_in (vehicle_seen (past_at h)) p ≡ true
    → is_served_in is_green later h p ≡ false → is_in (vehicle_seen (past_at (with_more later h))) p ≡ true
vehicle-stays h later p ph s n =
    vehicle-found h.tables (since_opening (with_more later h)) p ph
    ∙ kept is_green locks_vehicle h p later (sym (vehicle-found h.tables (since_opening h) p ph) ∙ s) n

pub pedestrian-stays : (h : History) (later : List Event) (p : ℕ) → is_phase p ≡ true → is_in (pedestrian_seen (past_at h)) p ≡ true
    → is_served_in is_walk later h p ≡ false → is_in (pedestrian_seen (past_at (with_more later h))) p ≡ true
pedestrian-stays h later p ph s n =
    pedestrian-found h.tables (since_opening (with_more later h)) p ph
    ∙ kept is_walk locks_pedestrian h p later (sym (pedestrian-found h.tables (since_opening h) p ph) ∙ s) n

-- a phase that is Green has no locked call
pub vehicle-served : (past : Past) (p : ℕ) → is_phase p ≡ true → is_green (last_frame past.moments) p ≡ true → is_in (vehicle_seen past) p ≡ false
vehicle-served past p ph green =
    in-phases
    (λ q. not (same_colour (colour_of (moment_seen past).frame q) Green)
    && (some_heard locks_vehicle past.heard q || is_in (moment_seen past).vehicle q)) p ph
    ∙ ap (λ (f : Frame). not (same_colour (colour_of f p) Green) && (some_heard locks_vehicle past.heard p || is_in (moment_seen past).vehicle p))
    (frame-same past.tables past.moments)
    ∙ rw green refl

-- ---- a call that remains is demand

-- a tick wants each enabled Red phase that it sees called, except one that the pattern omits
in-demand : (pattern : Option ℕ) (t : Tables) (f : Frame) (vehicle pedestrian detectors : List ℕ) (p : ℕ) → is_phase p ≡ true
    → is_in vehicle p ≡ true → is_enabled t p ≡ true → same_colour (colour_of f p) Red ≡ true → omits pattern t p ≡ false
    → is_in (demand_in pattern t f vehicle pedestrian detectors) p ≡ true
in-demand None t f vehicle pedestrian detectors p ph s e red o =
    in-phases (λ q. is_enabled t q && same_colour (colour_of f q) Red && is_called t vehicle pedestrian detectors q) p ph ∙ rw (e, red, s) refl
in-demand (Some n) t f vehicle pedestrian detectors p ph s e red o =
    in-phases
    (λ q. is_enabled t q && same_colour (colour_of f q) Red && not (is_omitted t n q)
    && (is_called t vehicle pedestrian detectors q || is_called_by t n q)) p ph ∙ rw (e, red, o, s) refl

pub call-demands : (past : Past) (p : ℕ) → is_phase p ≡ true → is_in (vehicle_seen past) p ≡ true → is_enabled past.tables p ≡ true
    → colour_of (last_frame past.moments) p ≡ Red → omits (bound (mode_seen past)) past.tables p ≡ false → is_in (demand_seen past) p ≡ true
call-demands past p ph s e red o =
    in-demand (bound (mode_seen past)) past.tables (last_frame past.moments) (vehicle_seen past) (pedestrian_seen past) (detectors_seen past) p ph s e
    (ap (λ (c : Colour). same_colour c Red) red) o

-- ---- the walk comes with the green

-- phases begin only where the rings do something, and then each walk that was asked for comes with its green
asked-walks : (turn : RingTurn) (v : View) (t : Tables) (pedestrian : List ℕ) (p : ℕ) → is_in (moves_of turn v).begins p ≡ true
    → is_in pedestrian p ≡ true → walks_at_green turn t pedestrian p ≡ true
asked-walks Rest v t pedestrian p b asked = absurd (false≢true b)
asked-walks StartUp v t pedestrian p b asked = rw asked refl
asked-walks Rings v t pedestrian p b asked = rw asked refl
asked-walks (Goal goal) v t pedestrian p b asked = rw asked refl

pub walk-comes : (h : History) (p : ℕ) → is_phase p ≡ true → is_in (pedestrian_seen (past_at h)) p ≡ true → BeginsFree h p
    → has_walk (past_at h).tables p ≡ true → signal_of (next_moment (past_at h)).frame p ≡ Walk
walk-comes h p ph asked b walk = next-signal past p ph ∙ ap (λ (w : Bool). if w then Walk else signal_left past p) begins
  where
    past : Past
    past = past_at h

    begun : is_in (moves_seen past).begins p ≡ true
    begun = leaves (is_in (moves_seen past).begins p) Green Red (λ e. differs Green Red refl (sym goes ∙ e))
      where
        goes : (if is_in (moves_seen past).begins p then Green else Red) ≡ Green
        goes = ap (λ (c : Colour). colour_after (moves_seen past) p past.tables past.moments c) (sym b.red)
            ∙ sym (next-colour past p ph) ∙ b.green

    begins : walk_seen past p ≡ true
    begins =
        ap (λ (m : Mode). walk_begins (crossing_seen past) m p (colour_of (last_frame past.moments) p) (colour_in (colours_of past (moves_seen past)) p)
        (signal_of (last_frame past.moments) p)) b.mode
        ∙ rw (b.red, b.green) (and_from _ _ walk (asked-walks (ring_turn_seen past) (view_seen past) past.tables (pedestrian_seen past) p begun asked))
