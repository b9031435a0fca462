-- One tick of a cabinet coordinated in a pattern keeps it coordinated, and a pickup puts it there.
use Rattle.std.proofs.Common.{◌≡◌, ◌≢◌, ◌⊎◌, inl, inr, ℕ, ◌<◌, ◌≤◌, Bool, true, false, not, ◌&&◌, ◌==◌, if◌then◌else◌, List, [], ◌∷◌, refl, sym, ◌∙◌, ap, subst, arith}
use Rattle.std.proofs.lemmas.Bool.{cases_Bool, and_parts, both_ways, false≢true}
use Rattle.std.proofs.lemmas.Bool.Decides.{Decides-eqb}
use Rattle.sig_types.specs.declared.frame.Colour.{Colour}
use Rattle.sig_types.specs.declared.frame.Colour.TheVariants.{Green, Yellow, Clear, Red}
use Rattle.sig_types.specs.declared.frame.Ped.{Ped}
use Rattle.sig_types.specs.declared.frame.Ped.TheVariants.{Dont}
use Rattle.sig_types.specs.declared.frame.Frame.{Frame}
use Rattle.sig_types.specs.declared.frame.Mode.{Mode}
use Rattle.sig_types.specs.declared.frame.Mode.TheVariants.{Seek, Coord}
use Rattle.sig_types.specs.Phases.{all_phases, is_in, first, only}
use Rattle.sig_types.specs.Colour.{same_colour, is_start, colour_in, colour_of, signal_of, on_in}
use Rattle.sig_types.proofs.Lists.{in-head, in-tail, in-first, eq-true}
use Rattle.sig_types.proofs.Sets.{in-every}
use Rattle.sig_tables.specs.declared.tables.Tables.{Tables}
use Rattle.sig_tables.specs.Tables.{ring_of, is_enabled, walk_time}
use Rattle.sig_tables.specs.Sides.{are_of_one_side}
use Rattle.sig_tables.specs.Slots.{is_defined, is_coordinated, is_omitted, coordinated_phase, cycle_time, window, force_point}
use Rattle.sig_tables.specs.Modes.{same_mode, stage_of}
use Rattle.sig_tables.specs.Lesser.{Lesser, signal_runs_within}
use Rattle.sig_tables.specs.Clock.{clock_now, target_in}
use Rattle.sig_tables.specs.Counting.{last_counter, next_counter}
use Rattle.sig_tables.specs.Counters.{correction_of, counters_since, counter_in}
use Rattle.sig_tables.specs.Past.{Moment, Past}
use Rattle.sig_tables.specs.Looking.{last_frame, signal_runs_on}
use Rattle.sig_tables.specs.Choosing.{is_in_step, are_coordinated_green, mode_reached}
use Rattle.sig_tables.specs.TickState.{RingTurn, Rings, ring_turn_in, ring_turn_from_start, ring_turn_of, tick_state_of}
use Rattle.sig_tables.specs.Walking.{Crossing, has_walk, walk_begins}
use Rattle.sig_tables.specs.Moves.{Moves, ring_moves}
use Rattle.sig_tables.specs.Seen.{mode_seen, ring_turn_seen, view_seen, moves_seen, tick_inputs_seen}
use Rattle.sig_tables.specs.Decide.{moves_of, colour_after, colours_of, on_of, next_moment}
use Rattle.sig_tables.proofs.FreeTickState.{lesser-unstaged}
use Rattle.sig_tables.proofs.Below.{enabled-phase}
use Rattle.plan_facts.specs.Plan.{PlanHolds}
use Rattle.tick_laws.specs.Steps.{Steps, Stands, Plain, Skips, Zero}
use Rattle.tick_laws.specs.Phases.{OtherStands, SignalMoves, SignalStands}
use Rattle.tick_laws.proofs.Steps.{counter-steps}
use Rattle.tick_laws.proofs.Held.{held-green}
use Rattle.tick_laws.proofs.ForcedSignals.{signal-step}
use Rattle.tick_laws.specs.Zero.{Gives, InTime, Kept, Sees, ZeroHolds}
use Rattle.tick_laws.proofs.Seeing.{sees-made}
use Rattle.tick_laws.proofs.Ticking.{tick-keeps, picked-up}
use Rattle.tick_laws.specs.Lawful.{Sound}
use Rattle.tick_laws.specs.Safe.{is_on}
use Rattle.tick_laws.specs.Walking.{OnGreen}
use Rattle.tick_laws.specs.InStep.{Coordinated, NamesOn, InStep}
use Rattle.tick_laws.proofs.Choices.{same-is, differs, not-chosen, chosen}
use Rattle.tick_laws.proofs.Next.{next-colour, next-signal, mode_given, crossing_seen, walk_seen, signal_left}
use Rattle.tick_laws.proofs.Signals.{seen-dont}
use Rattle.tick_laws.proofs.SignalWithin.{long-walk}
use Rattle.tick_laws.proofs.FrameStands.{FrameStands}
use Rattle.tick_laws.proofs.OneSide.{own, beside}
use Rattle.tick_laws.proofs.PatternFacts.{holds-pair, plan-serves, times-serve, window-within}
use Rattle.tick_laws.proofs.Modes.{same-coord}

pub on-not-red : (f : Frame) (p : ℕ) → colour_of f p ≢ Red → is_on f p ≡ true
on-not-red f p ne = by (colour_of f p) ne
  where
    by : (c : Colour) → c ≢ Red → not (same_colour c Red) ≡ true
    by Green ne = refl
    by Yellow ne = refl
    by Clear ne = refl
    by Red ne = absurd (ne refl)

-- ---- what the tick sees and gives

-- what a frame names in a ring is on in it, as it is made
named-first : (t : Tables) (veh : List Colour) (r : ℕ)
    → (on_of t veh r ≡ 0)
    ⊎ ((is_enabled t (on_of t veh r) ≡ true) × (colour_in veh (on_of t veh r) ≢ Red) × (ring_of t (on_of t veh r) ≡ r))
named-first t veh r = by (first test all_phases) refl
  where
    test : ℕ → Bool
    test p = is_enabled t p && ring_of t p == r && not (same_colour (colour_in veh p) Red)

    is-red : (c : Colour) → not (same_colour c Red) ≡ true → c ≢ Red
    is-red Red h e = false≢true h
    is-red Green h e = differs Green Red refl e
    is-red Yellow h e = differs Yellow Red refl e
    is-red Clear h e = differs Clear Red refl e

    by : (xs : List ℕ) → first test all_phases ≡ xs
        → (only xs ≡ 0) ⊎ ((is_enabled t (only xs) ≡ true) × (colour_in veh (only xs) ≢ Red) × (ring_of t (only xs) ≡ r))
    by [] e = inl refl
    by (x ∷ xs) e =
        let passes : test x ≡ true = (in-first test all_phases x (subst (λ (ys : List ℕ). is_in ys x ≡ true) (sym e) (in-head x xs))).0 in
        let a = and_parts (is_enabled t x && ring_of t x == r) (not (same_colour (colour_in veh x) Red)) passes in
        let b = and_parts (is_enabled t x) (ring_of t x == r) a.0 in
        inr (b.0, is-red _ a.1, eq-true _ _ b.1)

pub next-named : (past : Past) → NamesOn past.tables (next_moment past).frame
next-named past r (inl one) =
    subst (λ (x : ℕ). (on_in (next_moment past).frame x ≡ 0)
    ⊎ ((is_enabled past.tables (on_in (next_moment past).frame x) ≡ true) ×
    (colour_of (next_moment past).frame (on_in (next_moment past).frame x) ≢ Red) × (ring_of past.tables (on_in (next_moment past).frame x) ≡ x)))
    (sym one) (named-first past.tables (colours_of past (moves_seen past)) 1)
next-named past r (inr two) =
    subst (λ (x : ℕ). (on_in (next_moment past).frame x ≡ 0)
    ⊎ ((is_enabled past.tables (on_in (next_moment past).frame x) ≡ true) ×
    (colour_of (next_moment past).frame (on_in (next_moment past).frame x) ≢ Red) × (ring_of past.tables (on_in (next_moment past).frame x) ≡ x)))
    (sym two) (named-first past.tables (colours_of past (moves_seen past)) 2)

-- what is on in both rings is of one side
pub named-beside : (t : Tables) (f : Frame) → FrameStands t f → NamesOn t f → on_in f 1 ≢ 0 → on_in f 2 ≢ 0
    → are_of_one_side t (on_in f 1) (on_in f 2) ≡ true
named-beside t f stands named a b = elim (named 1 (inl refl)) [
  | inl none ↦ absurd (a none)
  | inr x ↦ elim (named 2 (inr refl)) [
    | inl none ↦ absurd (b none)
    | inr y ↦
        elim (stands.together (on_in f 1) (on_in f 2) (enabled-phase t (on_in f 1) x.0) (enabled-phase t (on_in f 2) y.0)
        (on-not-red f (on_in f 1) x.1) (on-not-red f (on_in f 2) y.1)) [
          | inl same ↦ subst (λ (z : ℕ). are_of_one_side t (on_in f 1) z ≡ true) same (own t (on_in f 1) x.0)
          | inr c ↦ beside t (on_in f 1) (on_in f 2) c
        ]
  ]
]

-- what is known of a tick that continues coordinated
pub record GoesInStep (past : Past) (n : ℕ) : Type 0 where
  pub sound : Sound past.tables
  pub stands : FrameStands past.tables (last_frame past.moments)
  pub mode : mode_seen past ≡ Coord n
  pub before : is_in_step (last_frame past.moments) past.version n ≡ true
  pub step : InStep past.tables n past.moments
  pub last : Moment
  pub earlier : List Moment
  pub lasting : past.moments ≡ last ∷ earlier

pub sees : (past : Past) (n : ℕ) → GoesInStep past n → Sees (view_seen past) n
sees past n g =
    sees-made (view_seen past) n (tick_inputs_seen past).calls.vehicle (tick_inputs_seen past).calls.pedestrian (tick_inputs_seen past).calls.detectors
    (record {
      mode = g.mode;
      sequence = refl;
      demand = refl;
      ended = refl;
      frame = refl;
      served = λ q held.
          subst (λ (x : ℕ). is_omitted past.tables n x ≡ false) (sym (plan.coordinates.alone q held))
          (plan.coordinates.served (ring_of past.tables q) (g.sound.ring q (and_parts (is_enabled past.tables q) _ held).0));
      placed = λ p e on. g.stands.placed p (enabled-phase past.tables p e) (on-not-red (last_frame past.moments) p on);
      named = g.step.named;
      beside = λ a b. named-beside past.tables (last_frame past.moments) g.stands g.step.named a b;
    })
  where
    plan : PlanHolds past.tables n
    plan = g.sound.plans n g.step.defined

-- the turn is that of the rings
rings-ring_turn : (past : Past) (n : ℕ) → mode_seen past ≡ Coord n → (last_frame past.moments).mode ≡ Coord n → ring_turn_seen past ≡ Rings
rings-ring_turn past n mode last =
    ap (λ (m : Mode). ring_turn_of past.tables past.moments m) mode
    ∙ ap (λ (m : Mode). if is_start m then ring_turn_from_start past.tables (Coord n) else ring_turn_in past.tables (Coord n)) last

pub moves-are : (past : Past) (n : ℕ) → mode_seen past ≡ Coord n → (last_frame past.moments).mode ≡ Coord n → moves_seen past ≡ ring_moves (view_seen past)
moves-are past n mode last = ap (λ (ring_turn : RingTurn). moves_of ring_turn (view_seen past)) (rings-ring_turn past n mode last)

-- the counter of the tick follows that of the last frame
counter-is : (past : Past) (n : ℕ) → mode_seen past ≡ Coord n
    → (tick_state_of past).counter
    ≡ next_counter (correction_of past.tables n) (counters_since n (last_frame past.moments).version past.moments)
    (target_in past.tables (Coord n) (clock_now past))
counter-is past n mode = ap (λ (m : Mode). counter_in past.tables m (target_in past.tables m (clock_now past)) past.moments) mode

last-counted : (n : ℕ) (l : Moment) (earlier : List Moment) → same_mode l.frame.mode (Coord n) ≡ true
    → last_counter (counters_since n l.frame.version (l ∷ earlier)) ≡ l.frame.counter
last-counted n l earlier h = rw ((Decides-eqb l.frame.version l.frame.version).1 refl, h) refl

pub step-of : (past : Past) (n : ℕ) → GoesInStep past n
    → Steps (cycle_time past.tables n) (window past.tables n) (last_frame past.moments).counter (tick_state_of past).counter
step-of past n g =
    subst (λ (d : ℕ). Steps (cycle_time past.tables n) (window past.tables n) (last_frame past.moments).counter d) (sym (counter-is past n g.mode))
    (subst
    (λ (c : ℕ). Steps (cycle_time past.tables n) (window past.tables n) c
    (next_counter (correction_of past.tables n) counters (target_in past.tables (Coord n) (clock_now past))))
    counted
    (counter-steps (correction_of past.tables n) counters (target_in past.tables (Coord n) (clock_now past))
    (subst (λ (c : ℕ). c < cycle_time past.tables n) (sym counted) g.step.within)))
  where
    counters : List ℕ
    counters = counters_since n (last_frame past.moments).version past.moments

    counted : last_counter counters ≡ (last_frame past.moments).counter
    counted =
        subst (λ (ms : List Moment). last_counter (counters_since n (last_frame ms).version ms) ≡ (last_frame ms).counter) (sym g.lasting)
        (last-counted n g.last g.earlier
        (subst (λ (ms : List Moment). same_mode (last_frame ms).mode (Coord n) ≡ true) g.lasting
        (and_parts (same_mode (last_frame past.moments).mode (Coord n)) ((last_frame past.moments).version == past.version) g.before).0))

-- and keeps to the cycle
step-within : (cycle window c d : ℕ) → window < cycle → Steps cycle window c d → d < cycle
step-within cycle window c d short (Stands same inside) = omega arith
step-within cycle window c d short (Plain next within) = omega arith
step-within cycle window c d short (Skips over inside) = omega arith
step-within cycle window c d short (Zero zero last) = omega arith

last-coord : (past : Past) (n : ℕ) → is_in_step (last_frame past.moments) past.version n ≡ true → (last_frame past.moments).mode ≡ Coord n
last-coord past n h = same-coord _ n (and_parts (same_mode (last_frame past.moments).mode (Coord n)) ((last_frame past.moments).version == past.version) h).0

gives : (past : Past) (n : ℕ) → GoesInStep past n → Gives (view_seen past) n (last_frame past.moments).counter (next_moment past)
gives past n g = record {
  frame = refl;
  counter = step-of past n g;
  tables = refl;
  colours = λ p e.
      subst
      (λ (moves : Moves). colour_of (next_moment past).frame p ≡ colour_after moves p past.tables past.moments (colour_of (last_frame past.moments) p))
      (moves-are past n g.mode (last-coord past n g.before)) (next-colour past p (enabled-phase past.tables p e));
}

pub tick-kept : (past : Past) (n : ℕ) → GoesInStep past n → Kept (view_seen past) n (next_moment past)
tick-kept past n g =
    tick-keeps (view_seen past) n (last_frame past.moments).counter g.last g.earlier (next_moment past)
    (holds-pair past.tables n g.sound g.step.defined) (plan-serves past.tables n g.sound g.step.defined)
    (times-serve past.tables n g.sound g.step.defined) (sees past n g) (gives past n g) g.lasting g.step.in_time

-- ---- walks

-- in a pattern's mode Walk begins on a phase that is not coordinated only with its Green
begins-red : (c : Crossing) (n p : ℕ) (before after : Colour) (signal : Ped) → is_coordinated c.tables n p ≡ false
    → walk_begins c (Coord n) p before after signal ≡ true → (before ≡ Red) × (has_walk c.tables p ≡ true)
begins-red c n p Red Green signal other h = (refl, (and_parts _ _ h).0)
begins-red c n p Green Green Dont other h =
    let a = and_parts (c.is_zero && has_walk c.tables p && is_coordinated c.tables n p) _ h in
    absurd (both_ways _ other (and_parts (c.is_zero && has_walk c.tables p) (is_coordinated c.tables n p) a.0).1)
begins-red c n p before after signal other h = absurd (false≢true h)

-- the times of its walk and clearance are in full
in-full : (past : Past) (n p : ℕ) → mode_seen past ≡ Coord n
    → signal_left past p ≡ signal_runs_on p past.tables past.moments (signal_of (last_frame past.moments) p)
in-full past n p mode =
    ap (λ (l : Lesser). signal_runs_within l p past.tables past.moments (signal_of (last_frame past.moments) p))
    (lesser-unstaged past.tables (mode_seen past) p (ap stage_of mode))

signal-moves : (past : Past) (n p : ℕ) → mode_seen past ≡ Coord n → is_enabled past.tables p ≡ true → is_coordinated past.tables n p ≡ false
    → OnGreen (last_frame past.moments) → OnGreen (next_moment past).frame → SignalMoves past.tables p past.moments (next_moment past)
signal-moves past n p mode e other last next = record {
  tables = refl;
  how = elim (cases_Bool (walk_seen past p)) [
    | inl w ↦
        let ph = enabled-phase past.tables p e in
        let given : mode_given past ≡ Coord n = ap (λ (m : Mode). mode_reached m past.tables (colours_of past (moves_seen past))) mode in
        let begun : walk_begins (crossing_seen past) (Coord n) p (colour_of (last_frame past.moments) p)
        (colour_in (colours_of past (moves_seen past)) p) (signal_of (last_frame past.moments) p) ≡ true
        = subst
        (λ (m : Mode). walk_begins (crossing_seen past) m p (colour_of (last_frame past.moments) p) (colour_in (colours_of past (moves_seen past)) p)
        (signal_of (last_frame past.moments) p) ≡ true)
        given w in
        let from = begins-red (crossing_seen past) n p _ _ _ other begun in
        let long : 0 < walk_time past.tables p = long-walk past.tables p from.1 in
        inl (next-signal past p ph ∙ chosen (walk_seen past p) _ _ w, from.0, seen-dont past p ph last w, omega (arith, long))
    | inr w ↦ inr (next-signal past p (enabled-phase past.tables p e) ∙ not-chosen (walk_seen past p) _ _ w ∙ in-full past n p mode)
  ];
  green = next p (enabled-phase past.tables p e);
}

walks-on : (past : Past) (n p : ℕ) → GoesInStep past n → is_enabled past.tables p ≡ true → is_coordinated past.tables n p ≡ false
    → OnGreen (last_frame past.moments) → OnGreen (next_moment past).frame
    → SignalStands past.tables p (next_moment past ∷ past.moments) (signal_of (next_moment past).frame p)
walks-on past n p g e other last next =
    by past.moments (sym g.lasting) (signal-moves past n p g.mode e other last next) (g.step.walks p e other)
  where
    by : (ms : List Moment) → g.last ∷ g.earlier ≡ ms → SignalMoves past.tables p ms (next_moment past)
        → SignalStands past.tables p ms (signal_of (last_frame ms) p)
        → SignalStands past.tables p (next_moment past ∷ ms) (signal_of (next_moment past).frame p)
    by ms is moves stands =
        subst (λ (ys : List Moment). SignalStands past.tables p (next_moment past ∷ ys) (signal_of (next_moment past).frame p)) is
        (signal-step past.tables p g.last g.earlier (next_moment past)
        (subst (λ (ys : List Moment). SignalMoves past.tables p ys (next_moment past)) (sym is) moves)
        (subst (λ (ys : List Moment). SignalStands past.tables p ys (signal_of (last_frame ys) p)) (sym is) stands))

-- the tick keeps the cabinet coordinated
pub goes-on : (past : Past) (n : ℕ) → GoesInStep past n → OnGreen (last_frame past.moments) → OnGreen (next_moment past).frame
    → InStep past.tables n (next_moment past ∷ past.moments)
goes-on past n g last next = record {
  defined = g.step.defined;
  within = step-within _ _ _ _ (window-within past.tables n g.sound g.step.defined) (step-of past n g);
  in_time = (tick-kept past n g).in_time;
  named = next-named past;
  walks = λ p e other. walks-on past n p g e other last next;
}

-- ---- the pickup

-- beside both coordinated phases nothing else is on
pub other-red : (t : Tables) (n : ℕ) (f : Frame) → Sound t → is_defined t n ≡ true → FrameStands t f
    → ((r : ℕ) → (r ≡ 1) ⊎ (r ≡ 2) → colour_of f (coordinated_phase t n r) ≡ Green)
    → (p : ℕ) → is_enabled t p ≡ true → is_coordinated t n p ≡ false → colour_of f p ≡ Red
other-red t n f sound defined stands green p e other = elim (cases_Bool (same_colour (colour_of f p) Red)) [
  | inl red ↦ same-is _ Red red
  | inr lit ↦
      let on : is_on f p ≡ true = ap not lit in
      let plan = sound.plans n defined in
      let which : (ring_of t p ≡ 1) ⊎ (ring_of t p ≡ 2) = sound.ring p e in
      let held : is_coordinated t n (coordinated_phase t n (ring_of t p)) ≡ true = plan.coordinates.coordinated (ring_of t p) which in
      let there : is_on f (coordinated_phase t n (ring_of t p)) ≡ true
      = ap (λ (c : Colour). not (same_colour c Red)) (green (ring_of t p) which) in
      elim (stands.together p (coordinated_phase t n (ring_of t p)) (enabled-phase t p e)
      (enabled-phase t (coordinated_phase t n (ring_of t p)) (and_parts (is_enabled t (coordinated_phase t n (ring_of t p))) _ held).0) on there) [
        | inl same ↦ absurd (both_ways _ other (subst (λ (x : ℕ). is_coordinated t n x ≡ true) (sym same) held))
        | inr c ↦ absurd (sound.across p (coordinated_phase t n (ring_of t p)) c (sym (plan.coordinates.ring (ring_of t p) which)))
      ]
]

pair-green : (t : Tables) (n : ℕ) (veh : List Colour) → are_coordinated_green t n veh ≡ true → (r : ℕ) → (r ≡ 1) ⊎ (r ≡ 2)
    → colour_in veh (coordinated_phase t n r) ≡ Green
pair-green t n veh h r which =
    same-is _ Green (in-every (λ p. same_colour (colour_in veh p) Green) (coordinated_phase t n 1 ∷ coordinated_phase t n 2 ∷ [])
    (coordinated_phase t n r) h (listed which))
  where
    listed : (r ≡ 1) ⊎ (r ≡ 2) → is_in (coordinated_phase t n 1 ∷ coordinated_phase t n 2 ∷ []) (coordinated_phase t n r) ≡ true
    listed (inl one) = subst (λ (x : ℕ). is_in (coordinated_phase t n 1 ∷ coordinated_phase t n 2 ∷ []) (coordinated_phase t n x) ≡ true) (sym one)
        (in-head (coordinated_phase t n 1) (coordinated_phase t n 2 ∷ []))
    listed (inr two) = subst (λ (x : ℕ). is_in (coordinated_phase t n 1 ∷ coordinated_phase t n 2 ∷ []) (coordinated_phase t n x) ≡ true) (sym two)
        (in-tail (coordinated_phase t n 1) (coordinated_phase t n 2 ∷ []) (coordinated_phase t n 2) (in-head (coordinated_phase t n 2) []))

-- a pattern that is picked up: its coordinated phases are Green, and nothing else is on
pub picks-up : (past : Past) (n : ℕ) → Sound past.tables → is_defined past.tables n ≡ true → mode_seen past ≡ Seek n
    → are_coordinated_green past.tables n (colours_of past (moves_seen past)) ≡ true → FrameStands past.tables (next_moment past).frame
    → OnGreen (next_moment past).frame → InStep past.tables n (next_moment past ∷ past.moments)
picks-up past n sound defined mode green stands walks = record {
  defined = defined;
  within = subst (λ (c : ℕ). c < cycle_time past.tables n) (sym zero-counter) (some _ _ (window-within past.tables n sound defined));
  in_time = subst (λ (c : ℕ). InTime past.tables n c (next_moment past ∷ past.moments)) (sym zero-counter)
      (picked-up past.tables n (next_moment past) past.moments at-zero);
  named = next-named past;
  walks = λ p e other.
      subst (λ (s : Ped). SignalStands past.tables p (next_moment past ∷ past.moments) s) (sym (dont p e (others p e other))) tt;
}
  where
    zero-counter : (tick_state_of past).counter ≡ 0
    zero-counter = ap (λ (m : Mode). counter_in past.tables m (target_in past.tables m (clock_now past)) past.moments) mode

    some : (w c : ℕ) → w < c → 0 < c
    some w c h = omega arith

    pair : (r : ℕ) → (r ≡ 1) ⊎ (r ≡ 2) → colour_of (next_moment past).frame (coordinated_phase past.tables n r) ≡ Green
    pair r which = pair-green past.tables n (colours_of past (moves_seen past)) green r which

    others : (p : ℕ) → is_enabled past.tables p ≡ true → is_coordinated past.tables n p ≡ false → colour_of (next_moment past).frame p ≡ Red
    others p e other = other-red past.tables n (next_moment past).frame sound defined stands pair p e other

    dont : (p : ℕ) → is_enabled past.tables p ≡ true → colour_of (next_moment past).frame p ≡ Red → signal_of (next_moment past).frame p ≡ Dont
    dont p e red = elim (walks p (enabled-phase past.tables p e)) [ inl d ↦ d | inr g ↦ absurd (differs Red Green refl (sym red ∙ g)) ]

    at-zero : ZeroHolds past.tables n (next_moment past)
    at-zero = record {
      held = λ q held.
          subst (λ (x : ℕ). colour_of (next_moment past).frame x ≡ Green) (sym ((sound.plans n defined).coordinates.alone q held))
          (pair (ring_of past.tables q) (sound.ring q (and_parts (is_enabled past.tables q) _ held).0));
      others = others;
    }

-- ---- what the frame of a coordinated cabinet shows

shows-red : (t : Tables) (n p c : ℕ) (past : List Moment) (x : Colour) → c < window t n → OtherStands t n p c past x → x ≡ Red
shows-red t n p c past Green early s = absurd (omega (arith, s.in_time.after))
shows-red t n p c past Yellow early s = absurd (omega (arith, s.in_time.after))
shows-red t n p c past Clear early s = absurd (omega (arith, s.in_time.after))
shows-red t n p c past Red early s = refl

shows-early : (t : Tables) (n p c : ℕ) (past : List Moment) → OtherStands t n p c past Green → c < force_point t n p
shows-early t n p c past s = omega (arith, s.in_time.room)

pub shows-coordinated : (t : Tables) (n : ℕ) (m : Moment) (past : List Moment) → Sound t → InStep t n (m ∷ past) → Coordinated t n m
shows-coordinated t n m past sound step = record {
  within = step.within;
  held = λ q h early. held-green t n q m.frame.counter (m ∷ past) (colour_of m.frame q) early (step.in_time.held q h);
  window = λ p e other early. dark p e other early;
  forced = λ p e other green. elim (cases_Bool (is_omitted t n p)) [
    | inl o ↦ absurd (differs Red Green refl (sym (step.in_time.omitted p e other o) ∙ green))
    | inr s ↦
        shows-early t n p m.frame.counter (m ∷ past)
        (subst (λ (x : Colour). OtherStands t n p m.frame.counter (m ∷ past) x) green (step.in_time.others p e other s))
  ];
  omitted = step.in_time.omitted;
  zero = λ z. record {
    held = λ q h.
        held-green t n q m.frame.counter (m ∷ past) (colour_of m.frame q)
        (after (window t n) (force_point t n q) m.frame.counter z (sound.plans n step.defined).window.some ((sound.plans n step.defined).held q h).window)
        (step.in_time.held q h);
    others = λ p e other. dark p e other (first (window t n) m.frame.counter z (sound.plans n step.defined).window.some);
  };
}
  where
    dark : (p : ℕ) → is_enabled t p ≡ true → is_coordinated t n p ≡ false → m.frame.counter < window t n → colour_of m.frame p ≡ Red
    dark p e other early = elim (cases_Bool (is_omitted t n p)) [
      | inl o ↦ step.in_time.omitted p e other o
      | inr s ↦ shows-red t n p m.frame.counter (m ∷ past) (colour_of m.frame p) early (step.in_time.others p e other s)
    ]

    after : (w f c : ℕ) → c ≡ 0 → 1 ≤ w → w ≤ f → c < f
    after w f c z a b = omega arith

    first : (w c : ℕ) → c ≡ 0 → 1 ≤ w → c < w
    first w c z a = omega arith
