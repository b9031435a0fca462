-- What each tick of a lawful history says: it seeks the pattern in command, is coordinated in it, or does neither.
use Rattle.std.proofs.Common.{◌≡◌, ◌⊎◌, inl, inr, ℕ, ◌+◌, ◌*◌, ◌%◌, ◌<◌, ◌≤◌, ◌==◌, ◌&&◌, nat_le, Bool, true, false}
use Rattle.std.proofs.Common.{if◌then◌else◌, List, [], ◌∷◌, refl, sym, ◌∙◌, ap, subst, arith}
use Rattle.std.proofs.Math.Nat.{mod-lt}
use Rattle.std.proofs.lemmas.Bool.{cases_Bool, and_parts, and_from, both_ways, false≢true, leb-true}
use Rattle.std.proofs.lemmas.Bool.Decides.{Decides-eqb}
use Rattle.sig_types.specs.declared.frame.Frame.{Frame}
use Rattle.sig_types.specs.declared.frame.Mode.{Mode}
use Rattle.sig_types.specs.declared.frame.Mode.TheVariants.{Start, Free, Seek, Coord, Ending, Flash, Entry, Track, Dwell, Exit}
use Rattle.sig_types.proofs.Lists.{eq-true}
use Rattle.sig_tables.specs.declared.tables.Tables.{Tables}
use Rattle.sig_tables.specs.Cells.{pattern_of}
use Rattle.sig_tables.specs.Slots.{is_defined, cycle_time, window}
use Rattle.tick_laws.specs.Steps.{Steps as CounterSteps}
use Rattle.sig_tables.specs.Modes.{same_mode}
use Rattle.sig_tables.specs.Clock.{day, target_at, target_in, clock_now}
use Rattle.sig_tables.specs.Command.{command_now}
use Rattle.sig_tables.specs.Counting.{HasRoom, next_counter}
use Rattle.sig_tables.specs.Counters.{correction_of, counters_since, counter_in}
use Rattle.sig_tables.specs.Choosing.{is_in_step, are_all_red, mode_reached}
use Rattle.sig_tables.specs.TickState.{tick_state_of}
use Rattle.sig_tables.specs.Moves.{Moves}
use Rattle.sig_types.specs.Colour.{colour_of}
use Rattle.sig_tables.specs.Past.{Past, Moment}
use Rattle.sig_tables.specs.Looking.{last_frame, last_moment}
use Rattle.sig_tables.specs.Seen.{mode_seen, moves_seen, view_seen}
use Rattle.sig_tables.specs.Decide.{colour_after, colours_of, next_moment}
use Rattle.sig_tables.proofs.Below.{enabled-phase}
use Rattle.tick_laws.specs.Lawful.{Sound}
use Rattle.tick_laws.specs.InStep.{NamesOn, Coordinated}
use Rattle.tick_laws.proofs.Apart.{Holds}
use Rattle.tick_laws.proofs.InStep.{GoesInStep, sees, step-of, moves-are}
use Rattle.tick_laws.proofs.Next.{next-colour}
use Rattle.tick_laws.proofs.Modes.{same-coord}
use Rattle.tick_laws.proofs.PatternFacts.{holds-pair, plan-serves, times-serve, window-within}
use Rattle.coordination_laws.specs.Search.{AnyMoment}
use Rattle.plan_facts.specs.Disturbances.{Drift, drifts, rise, interrupts, is_disturbed, quiet_for}
use Rattle.coordination_laws.specs.Versions.{greatest_at, HasYellow}
use Rattle.coordination_laws.specs.Lasting.{SeekTick}
use Rattle.coordination_laws.specs.Drifting.{moved}
use Rattle.coordination_laws.specs.Cycles.{HasTime, step_at}
use Rattle.coordination_laws.specs.Facts.{is_coord, SeekFacts, StepFacts, Tells, Elsewhere, Seeks, Steps}
use Rattle.coordination_laws.specs.Goes.{CounterGoesOn}
use Rattle.coordination_laws.proofs.Telling.{goes-on, target-later}
use Rattle.coordination_laws.specs.MomentTold.{Obeys, ModeFollows, MomentTold}
use Rattle.coordination_laws.proofs.TellingMet.{obeys}
use Rattle.coordination_laws.proofs.Seeking.{SeeksOn, seek-tick}

-- what is known before a tick, whose last moment is l
pub record Before (d : Drift) (past : Past) (l : Moment) (earlier : List Moment) : Type 0 where
  pub lasting : past.moments ≡ l ∷ earlier
  pub holds : Holds past.tables past.moments
  pub told : MomentTold l
  pub version : l.frame.version ≡ past.version → l.tables ≡ past.tables
  pub time : drifts d ≡ true → (n : ℕ) → is_defined past.tables n ≡ true → HasTime d (correction_of past.tables n)
  pub any : AnyMoment (greatest_at (next_moment past ∷ l ∷ earlier)) past.tables (next_moment past ∷ l ∷ earlier)
  pub shown : (n : ℕ) → (next_moment past).frame.mode ≡ Coord n → Coordinated past.tables n (next_moment past)
  pub steps : (n : ℕ) → mode_seen past ≡ Coord n → is_in_step (last_frame past.moments) past.version n ≡ true → GoesInStep past n

-- ---- a defined pattern of sound tables

long-cycle : (t : Tables) (n : ℕ) → is_defined t n ≡ true → 10 ≤ cycle_time t n
long-cycle t n defined = ten _ (leb-true 1 (pattern_of t n).cycle (and_parts (nat_le 1 n && nat_le n 48) _ defined).1)
  where
    ten : (c : ℕ) → 1 ≤ c → 10 ≤ 10 * c
    ten c h = omega arith

has-room : (t : Tables) (n : ℕ) → Sound t → is_defined t n ≡ true → HasRoom (correction_of t n)
has-room t n sound defined = record {
  least_mode = sound.times.correction.least_mode;
  greatest_mode = sound.times.correction.greatest_mode;
  dwell = sound.times.correction.dwell;
  add = sound.times.correction.add;
  subtract = sound.times.correction.subtract;
  stands = (sound.plans n defined).window.stands;
  skips = (sound.plans n defined).window.skips;
  window = window-within t n sound defined;
  cycle = long-cycle t n defined;
}

has-yellow : (t : Tables) → Sound t → HasYellow t
has-yellow t sound p e = some _ (sound.times.phases.yellow p e)
  where
    some : (y : ℕ) → 30 ≤ y → 1 ≤ y
    some y h = omega arith

target-below : (t : Tables) (n time : ℕ) → is_defined t n ≡ true → target_at t n time < cycle_time t n
target-below t n time defined = let some : 10 ≤ cycle_time t n = long-cycle t n defined in mod-lt _ (omega arith)

-- ---- a tick that seeks the pattern

not-in-step : (f : Frame) (v n : ℕ) → is_in_step f v n ≡ false → (f.version == v && same_mode f.mode (Coord n)) ≡ false
not-in-step f v n h = swap (same_mode f.mode (Coord n)) (f.version == v) h
  where
    swap : (a b : Bool) → (a && b) ≡ false → (b && a) ≡ false
    swap true true h = h
    swap true false h = refl
    swap false true h = refl
    swap false false h = refl

-- a quiet moment is in Free or in a mode of a pattern
quiet-mode : (d : Drift) (l : Moment) (earlier : List Moment) → is_disturbed d (l ∷ earlier) ≡ false → interrupts l.frame.mode ≡ false
quiet-mode d l [] h = absurd (false≢true (sym h))
quiet-mode d l (k ∷ older) h = (goes-on d l k older h).mode

sought-before : (t : Tables) (n : ℕ) (mode : Mode) → interrupts mode ≡ false → ModeFollows t n mode → is_defined t n ≡ true
    → same_mode mode (Coord n) ≡ false → mode ≡ Seek n
sought-before t n Free quiet follows defined apart = absurd (both_ways _ follows defined)
sought-before t n (Seek k) quiet follows defined apart = ap Seek follows
sought-before t n (Coord k) quiet follows defined apart = absurd (both_ways (k == n) apart ((Decides-eqb k n).1 follows))
sought-before t n mode quiet follows defined apart = absurd (false≢true (sym quiet))

quiet-before : (d : Drift) (past : Past) (l : Moment) (earlier : List Moment) → Before d past l earlier
    → is_in_step (last_frame past.moments) past.version (command_now past) ≡ false
    → is_disturbed d (next_moment past ∷ l ∷ earlier) ≡ false
    → (past.tables ≡ l.tables) × (same_mode l.frame.mode (Coord (command_now past)) ≡ false)
quiet-before d past l earlier b apart quiet = (sym (b.version (sym on.version)), off (same_mode l.frame.mode (Coord (command_now past))) refl)
  where
    on : CounterGoesOn d (next_moment past) l
    on = goes-on d (next_moment past) l earlier quiet

    here : is_in_step l.frame past.version (command_now past) ≡ false
    here = subst (λ (ms : List Moment). is_in_step (last_frame ms) past.version (command_now past) ≡ false) b.lasting apart

    off : (x : Bool) → same_mode l.frame.mode (Coord (command_now past)) ≡ x → x ≡ false
    off false e = refl
    off true e =
        absurd (both_ways _ here (and_from (same_mode l.frame.mode (Coord (command_now past))) (l.frame.version == past.version) e
        ((Decides-eqb l.frame.version past.version).1 (sym on.version))))

seeks : (d : Drift) (past : Past) (n : ℕ) (l : Moment) (earlier : List Moment) → Before d past l earlier → mode_seen past ≡ Seek n → n ≡ command_now past
    → is_defined past.tables n ≡ true → is_in_step (last_frame past.moments) past.version (command_now past) ≡ false
    → (quiet_for d (next_moment past ∷ l ∷ earlier) ≤ 1) ⊎ ((l.frame.mode ≡ Seek n) × SeekTick past.tables n (next_moment past) l earlier)
seeks d past n l earlier b mode same defined apart = elim (cases_Bool (is_disturbed d (next_moment past ∷ l ∷ earlier))) [
  | inl now ↦
      let none : quiet_for d (next_moment past ∷ l ∷ earlier) ≡ 0
      = ap (λ (x : Bool). if x then 0 else quiet_for d (l ∷ earlier) + 1) now in
      inl (omega arith)
  | inr quiet ↦ elim (cases_Bool (is_disturbed d (l ∷ earlier))) [
    | inl now ↦
        let one : quiet_for d (next_moment past ∷ l ∷ earlier) ≡ 1
        = ap (λ (x : Bool). if x then 0 else quiet_for d (l ∷ earlier) + 1) quiet
        ∙ ap (λ (x : Bool). (if x then 0 else quiet_for d earlier + 1) + 1) now in
        inl (omega arith)
    | inr older ↦ inr (before quiet older, seek-tick past n l earlier (on quiet older) b.lasting)
  ]
]
  where
    before : is_disturbed d (next_moment past ∷ l ∷ earlier) ≡ false → is_disturbed d (l ∷ earlier) ≡ false → l.frame.mode ≡ Seek n
    before quiet older =
        let k = quiet-before d past l earlier b apart quiet in
        let command : l.command ≡ n = sym (goes-on d (next_moment past) l earlier quiet).command ∙ sym same in
        sought-before past.tables n l.frame.mode (quiet-mode d l earlier older)
        (subst (λ (u : Tables). ModeFollows u n l.frame.mode) (sym k.0) (subst (λ (x : ℕ). ModeFollows l.tables x l.frame.mode) command b.told.mode)) defined
        (subst (λ (x : ℕ). same_mode l.frame.mode (Coord x) ≡ false) (sym same) k.1)

    on : is_disturbed d (next_moment past ∷ l ∷ earlier) ≡ false → is_disturbed d (l ∷ earlier) ≡ false → SeeksOn past n
    on quiet older = record {
      sound = b.holds.sound;
      stands = b.holds.stands;
      named = subst (λ (ms : List Moment). NamesOn past.tables (last_frame ms)) (sym b.lasting)
          (subst (λ (u : Tables). NamesOn u l.frame) (sym (quiet-before d past l earlier b apart quiet).0) b.told.named);
      defined = defined;
      mode = mode;
      before = subst (λ (ms : List Moment). (last_frame ms).mode ≡ Seek n) (sym b.lasting) (before quiet older);
    }

seek-facts : (d : Drift) (past : Past) (n : ℕ) (l : Moment) (earlier : List Moment) → Before d past l earlier → mode_seen past ≡ Seek n → n ≡ command_now past
    → is_defined past.tables n ≡ true → is_in_step (last_frame past.moments) past.version (command_now past) ≡ false
    → SeekFacts d n (next_moment past) l earlier
seek-facts d past n l earlier b mode same defined apart = record {
  command = sym same;
  apart = not-in-step l.frame past.version n
      (subst (λ (ms : List Moment). is_in_step (last_frame ms) past.version n ≡ false) b.lasting
      (subst (λ (x : ℕ). is_in_step (last_frame past.moments) past.version x ≡ false) (sym same) apart));
  before = λ quiet. let k = quiet-before d past l earlier b apart quiet in
      (k.0, subst (λ (x : ℕ). same_mode l.frame.mode (Coord x) ≡ false) (sym same) k.1);
  reached = reached;
  counter = ap (λ (m : Mode). counter_in past.tables m (tick_state_of past).target past.moments) mode;
  target = subst (λ (x : ℕ). x < cycle_time past.tables n) (sym (ap (λ (m : Mode). target_in past.tables m (clock_now past)) mode))
      (target-below past.tables n (clock_now past) defined);
  room = has-room past.tables n b.holds.sound defined;
  time = λ some. b.time some n defined;
  yellow = has-yellow past.tables b.holds.sound;
  enabled = (b.holds.sound.coordinated n defined).enabled;
  any = b.any;
  alone = λ green.
      (b.shown n (reached ∙ ap (λ (x : Bool). if x then Coord n else Seek n) green)).zero
      (ap (λ (m : Mode). counter_in past.tables m (tick_state_of past).target past.moments) mode);
  tick = seeks d past n l earlier b mode same defined apart;
}
  where
    reached : (next_moment past).frame.mode ≡ mode_reached (Seek n) past.tables (next_moment past).frame.veh
    reached = ap (λ (m : Mode). mode_reached m past.tables (colours_of past (moves_seen past))) mode

-- ---- a tick coordinated in the pattern

step-facts : (d : Drift) (past : Past) (n : ℕ) (l : Moment) (earlier : List Moment) → Before d past l earlier → mode_seen past ≡ Coord n → n ≡ command_now past
    → is_defined past.tables n ≡ true → is_in_step (last_frame past.moments) past.version n ≡ true → StepFacts d n (next_moment past) l earlier
step-facts d past n l earlier b mode same defined before = record {
  command = sym same;
  number = ap (λ (ms : List Moment). (last_moment past.tables ms).number + 1) b.lasting;
  tables = sym tables;
  counts = record {
    mode = ap (λ (m : Mode). mode_reached m past.tables (colours_of past (moves_seen past))) mode;
    before = last;
    version = sym version;
    counter = ap (λ (m : Mode). counter_in past.tables m (tick_state_of past).target past.moments) mode
        ∙ ap (λ (ms : List Moment). next_counter (correction_of past.tables n) (counters_since n (last_frame ms).version ms) (tick_state_of past).target) b.lasting;
  };
  tick = record {
    view = view_seen past;
    tables = refl;
    lasting = b.lasting;
    sees = sees past n going;
    gives = record {
      frame = refl;
      counter = subst (λ (ms : List Moment). CounterSteps (cycle_time past.tables n) (window past.tables n) (last_frame ms).counter (tick_state_of past).counter)
          b.lasting (step-of past n going);
      tables = refl;
      colours = λ p e.
          subst
          (λ (moves : Moves). colour_of (next_moment past).frame p ≡ colour_after moves p past.tables past.moments (colour_of (last_frame past.moments) p))
          (moves-are past n mode (ap (λ (ms : List Moment). (last_frame ms).mode) b.lasting ∙ last)) (next-colour past p (enabled-phase past.tables p e));
    };
    counter = refl;
  };
  later = λ quiet. later (goes-on d (next_moment past) l earlier quiet);
  target = subst (λ (x : ℕ). x < cycle_time past.tables n) (sym targeted) (target-below past.tables n (clock_now past) defined);
  room = has-room past.tables n b.holds.sound defined;
  time = λ some. b.time some n defined;
  pair = holds-pair past.tables n b.holds.sound defined;
  plan = plan-serves past.tables n b.holds.sound defined;
  times = times-serve past.tables n b.holds.sound defined;
}
  where
    going : GoesInStep past n
    going = b.steps n mode before

    here : is_in_step l.frame past.version n ≡ true
    here = subst (λ (ms : List Moment). is_in_step (last_frame ms) past.version n ≡ true) b.lasting before

    last : l.frame.mode ≡ Coord n
    last = same-coord l.frame.mode n (and_parts (same_mode l.frame.mode (Coord n)) (l.frame.version == past.version) here).0

    version : l.frame.version ≡ past.version
    version = eq-true _ _ (and_parts (same_mode l.frame.mode (Coord n)) (l.frame.version == past.version) here).1

    tables : l.tables ≡ past.tables
    tables = b.version version

    targeted : (tick_state_of past).target ≡ target_at past.tables n (clock_now past)
    targeted = ap (λ (m : Mode). target_in past.tables m (clock_now past)) mode

    before-target : l.frame.target ≡ target_at past.tables n l.clock
    before-target = b.told.target ∙ ap (λ (m : Mode). target_in l.tables m l.clock) last ∙ ap (λ (t : Tables). target_at t n l.clock) tables

    later : CounterGoesOn d (next_moment past) l
        → (tick_state_of past).target ≡ moved (cycle_time past.tables n) (step_at d (next_moment past).number) l.frame.target
    later on =
        targeted ∙ ap (target_at past.tables n) on.clock
        ∙ target-later d past.tables n (next_moment past).number l.clock
        (subst (λ (x : ℕ). (l.clock + rise d (next_moment past).number < day) ⊎ (day % cycle_time past.tables x ≡ 0)) (sym same)
        (on.midnight (subst (λ (x : ℕ). is_defined past.tables x ≡ true) same defined)))
        ∙ ap (moved (cycle_time past.tables n) (step_at d (next_moment past).number)) (sym before-target)

-- ---- any tick

-- a mode that is of no pattern: Free, where none is defined, or one that disturbs
elsewhere : (d : Drift) (past : Past) (l : Moment) (earlier : List Moment) (mode : Mode) → (next_moment past).frame.mode ≡ mode → is_coord mode ≡ false
    → ((n : ℕ) → mode ≡ Seek n → ⊥) → (is_defined past.tables (command_now past) ≡ false) ⊎ (interrupts mode ≡ true)
    → Tells d (next_moment past) l earlier
elsewhere d past l earlier mode e coord free idle =
    Elsewhere (ap is_coord e ∙ coord) (owes idle) (λ n h. free n (sym e ∙ h))
  where
    owes : (is_defined past.tables (command_now past) ≡ false) ⊎ (interrupts mode ≡ true)
        → (is_defined past.tables (command_now past) ≡ false) ⊎ (is_disturbed d (next_moment past ∷ l ∷ earlier) ≡ true)
    owes (inl h) = inl h
    owes (inr h) = elim (cases_Bool (is_disturbed d (next_moment past ∷ l ∷ earlier))) [
      | inl now ↦ inr now
      | inr quiet ↦ absurd (both_ways _ (goes-on d (next_moment past) l earlier quiet).mode (ap interrupts e ∙ h))
    ]

abbrev seeks-mode : Mode → Bool
seeks-mode (Seek n) = true
seeks-mode mode = false

not-seek : (mode : Mode) → seeks-mode mode ≡ false → (n : ℕ) → mode ≡ Seek n → ⊥
not-seek mode h n e = false≢true (sym h ∙ ap seeks-mode e)

pub tells : (d : Drift) (past : Past) (l : Moment) (earlier : List Moment) → Before d past l earlier → Tells d (next_moment past) l earlier
tells d past l earlier b = by (mode_seen past) refl (obeys past b.holds.numbered)
  where
    reached : (mode : Mode) → mode_seen past ≡ mode → (next_moment past).frame.mode ≡ mode_reached mode past.tables (colours_of past (moves_seen past))
    reached mode e = ap (λ (m : Mode). mode_reached m past.tables (colours_of past (moves_seen past))) e

    by : (mode : Mode) → mode_seen past ≡ mode → Obeys past.tables past.version (last_frame past.moments) (command_now past) mode
        → Tells d (next_moment past) l earlier
    by Free e o = elsewhere d past l earlier Free (reached Free e) refl (not-seek Free refl) (inl o)
    by (Seek n) e o = Seeks (seek-facts d past (command_now past) l earlier b (e ∙ ap Seek o.0) refl o.1 o.2)
    by (Coord n) e o = Steps (step-facts d past (command_now past) l earlier b (e ∙ ap Coord o.0) refl o.1 o.2)
    by Ending e o = pick (are_all_red (colours_of past (moves_seen past))) (reached Ending e)
      where
        pick : (x : Bool) → (next_moment past).frame.mode ≡ (if x then Flash else Ending) → Tells d (next_moment past) l earlier
        pick true h = elsewhere d past l earlier Flash h refl (not-seek Flash refl) (inr refl)
        pick false h = elsewhere d past l earlier Ending h refl (not-seek Ending refl) (inr refl)
    by Start e o = elsewhere d past l earlier Start (reached Start e) refl (not-seek Start refl) (inr refl)
    by Flash e o = elsewhere d past l earlier Flash (reached Flash e) refl (not-seek Flash refl) (inr refl)
    by (Entry i) e o = elsewhere d past l earlier (Entry i) (reached (Entry i) e) refl (not-seek (Entry i) refl) (inr refl)
    by (Track i) e o = elsewhere d past l earlier (Track i) (reached (Track i) e) refl (not-seek (Track i) refl) (inr refl)
    by (Dwell i) e o = elsewhere d past l earlier (Dwell i) (reached (Dwell i) e) refl (not-seek (Dwell i) refl) (inr refl)
    by (Exit i) e o = elsewhere d past l earlier (Exit i) (reached (Exit i) e) refl (not-seek (Exit i) refl) (inr refl)
