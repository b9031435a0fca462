-- A tick of free operation at which a phase is Green: what is called, what is through, and what is on the side of the phase.
use Rattle.std.proofs.Common.{◌≡◌, ◌≢◌, inl, inr, ℕ, Bool, true, false, not, ◌&&◌, ◌||◌, ◌==◌, if◌then◌else◌, zero, suc, List, [], ◌∷◌, Option, None, refl, sym, ◌∙◌, ap, subst}
use Rattle.std.proofs.lemmas.Bool.{cases_Bool, both_ways, false≢true}
use Rattle.sig_types.specs.declared.frame.Colour.{Colour}
use Rattle.sig_types.specs.declared.frame.Colour.TheVariants.{Green, Red}
use Rattle.sig_types.specs.declared.frame.Mode.{Mode}
use Rattle.sig_types.specs.declared.frame.Mode.TheVariants.{Start, Free, Seek, Coord, Ending, Flash}
use Rattle.sig_types.specs.declared.frame.Frame.{Frame}
use Rattle.sig_types.specs.Phases.{is_phase, is_in, some}
use Rattle.sig_types.specs.Colour.{same_colour, is_start, colour_of, on_in}
use Rattle.sig_types.proofs.Lists.{eq-true}
use Rattle.sig_types.proofs.Sets.{in-phases, some-same, those-same}
use Rattle.sig_tables.specs.declared.tables.Tables.{Tables}
use Rattle.sig_tables.specs.Tables.{ring_of, is_enabled, gap_time, maximum_time, has_maximum_recall, order_of}
use Rattle.sig_tables.specs.Sides.{are_of_one_side, ring_phases}
use Rattle.sig_tables.specs.Splits.{keeps_maximum}
use Rattle.sig_tables.specs.Modes.{bound, sequence_in}
use Rattle.sig_tables.specs.SplitCalls.{demand_in}
use Rattle.sig_tables.specs.Past.{Event, Moment, Past, first_frame}
use Rattle.sig_tables.specs.Looking.{last_frame, lasts, lasts_now, last_on, runs_on}
use Rattle.sig_tables.specs.Choosing.{are_coordinated_green, are_all_red, mode_reached}
use Rattle.sig_tables.specs.TickState.{RingTurn, ring_turn_in, ring_turn_from_start, ring_turn_of}
use Rattle.sig_tables.specs.View.{View, is_served, has_gap, has_maximum, is_reasoned, is_done, ended_of, on_phase, is_open, present_side, later_in, earlier_in, present, later, earlier, is_wanted}
use Rattle.sig_tables.specs.Moves.{ring_moves}
use Rattle.sig_tables.specs.Seen.{vehicle_seen, pedestrian_seen, detectors_seen, mode_seen, quiet_seen, demand_seen, view_seen, moves_seen}
use Rattle.sig_tables.specs.Decide.{moves_of, next_moment, past_of}
use Rattle.sig_tables.proofs.FreeTickState.{wanted-unbound}
use Rattle.sig_tables.proofs.Histories.{over-events}
use Rattle.sig_tables.proofs.Below.{enabled-phase}
use Rattle.tick_laws.specs.Lawful.{Sound, SameLayout, is_dark, IsLawfulAfter, Lawful}
use Rattle.tick_laws.specs.Safe.{is_on}
use Rattle.tick_laws.specs.InStep.{NamesOn}
use Rattle.tick_laws.specs.Barrier.{called_at, has_gapped, has_maxed, is_through}
use Rattle.tick_laws.proofs.FrameStands.{FrameStands}
use Rattle.tick_laws.proofs.OneSide.{own, side-mutual, side-joined}
use Rattle.tick_laws.proofs.Rings.{closed}
use Rattle.tick_laws.proofs.InStep.{on-not-red, next-named, named-beside}
use Rattle.tick_laws.proofs.Apart.{holds}

-- ---- what a frame names in its rings, along a lawful history

dark-names : (old new : Tables) (f : Frame) → is_dark f.mode ≡ true → FrameStands old f → NamesOn old f → NamesOn new f
dark-names old new f dark stands named r which = elim (named r which) [
  | inl none ↦ inl none
  | inr x ↦ absurd (both_ways (is_on f (on_in f r)) (stands.idle dark (on_in f r) (enabled-phase old (on_in f r) x.0)) (on-not-red f (on_in f r) x.1))
]

same-names : (old new : Tables) (f : Frame) → SameLayout old new → NamesOn old f → NamesOn new f
same-names old new f same named r which = elim (named r which) [
  | inl none ↦ inl none
  | inr x ↦ inr (same.enabled (on_in f r) ∙ x.0, x.1, same.ring (on_in f r) x.0 ∙ x.2)
]

first-names : (t : Tables) → NamesOn t first_frame
first-names t r (inl one) = inl (ap (on_in first_frame) one)
first-names t r (inr two) = inl (ap (on_in first_frame) two)

pub names : (opening : Tables) (events : List Event) → Lawful opening events
    → NamesOn (past_of opening events).tables (last_frame (past_of opening events).moments)
names opening events l =
    over-events opening (IsLawfulAfter opening) (λ t version moments. NamesOn t (last_frame moments)) (first-names opening)
    (λ before a allowed h. next-named (past_of opening before))
    (λ before t a allowed h. elim allowed.1 [
      | inl dark ↦ dark-names (past_of opening before).tables t (last_frame (past_of opening before).moments) dark
          (holds opening before (l.0, a)).stands h
      | inr same ↦ same-names (past_of opening before).tables t (last_frame (past_of opening before).moments) same h
    ])
    events l.1

-- ---- a tick of free operation

pub reached-free : (mode : Mode) (t : Tables) (veh : List Colour) → mode_reached mode t veh ≡ Free → mode ≡ Free
reached-free (Seek n) t veh h = absurd (split (are_coordinated_green t n veh) h)
  where
    is-free : Mode → Bool
    is-free Free = true
    is-free _ = false

    split : (b : Bool) → (if b then Coord n else Seek n) ≡ Free → ⊥
    split true e = false≢true (ap is-free e)
    split false e = false≢true (ap is-free e)
reached-free Ending t veh h = absurd (split (are_all_red veh) h)
  where
    is-free : Mode → Bool
    is-free Free = true
    is-free _ = false

    split : (b : Bool) → (if b then Flash else Ending) ≡ Free → ⊥
    split true e = false≢true (ap is-free e)
    split false e = false≢true (ap is-free e)
reached-free _ t veh h = h

-- a tick of free operation, at which p is Green
pub record FreeGreen (past : Past) (p : ℕ) : Type 0 where
  pub sound : Sound past.tables
  pub stands : FrameStands past.tables (last_frame past.moments)
  pub named : NamesOn past.tables (last_frame past.moments)
  pub phase : is_phase p ≡ true
  pub mode : mode_seen past ≡ Free
  pub green : colour_of (last_frame past.moments) p ≡ Green

on-green : (past : Past) (p : ℕ) → FreeGreen past p → is_on (last_frame past.moments) p ≡ true
on-green past p g = ap (λ (c : Colour). not (same_colour c Red)) g.green

pub enabled : (past : Past) (p : ℕ) → FreeGreen past p → is_enabled past.tables p ≡ true
enabled past p g = g.stands.enabled p g.phase (on-green past p g)

pub placed : (past : Past) (p : ℕ) → FreeGreen past p → on_phase (view_seen past) (ring_of past.tables p) ≡ p
placed past p g = g.stands.placed p g.phase (on-green past p g)

start-dark : (m : Mode) → is_start m ≡ true → is_dark m ≡ true
start-dark Start h = refl
start-dark _ h = absurd (false≢true h)

not-start : (past : Past) (p : ℕ) → FreeGreen past p → is_start (last_frame past.moments).mode ≡ false
not-start past p g = elim (cases_Bool (is_start (last_frame past.moments).mode)) [
  | inr shuts ↦ shuts
  | inl s ↦ absurd (both_ways (is_on (last_frame past.moments) p) (g.stands.idle (start-dark (last_frame past.moments).mode s) p g.phase) (on-green past p g))
]

pub moves-are : (past : Past) (p : ℕ) → FreeGreen past p → moves_seen past ≡ ring_moves (view_seen past)
moves-are past p g =
    ap (λ (turn : RingTurn). moves_of turn (view_seen past))
    (ap (λ (m : Mode). ring_turn_of past.tables past.moments m) g.mode
    ∙ ap (λ (b : Bool). if b then ring_turn_from_start past.tables Free else ring_turn_in past.tables Free) (not-start past p g))

pub unbound : (past : Past) (p : ℕ) → FreeGreen past p → bound (mode_seen past) ≡ None
unbound past p g = ap bound g.mode

-- ---- what is called

pub demand-is : (past : Past) → bound (mode_seen past) ≡ None → demand_seen past ≡ called_at past.moments (next_moment past)
demand-is past e =
    ap (λ (b : Option ℕ). demand_in b past.tables (last_frame past.moments) (vehicle_seen past) (pedestrian_seen past) (detectors_seen past)) e

pub some-wanted : (past : Past) (k : ℕ) (xs : List ℕ) → bound (mode_seen past) ≡ None
    → some (is_wanted (view_seen past) k) xs ≡ some (is_in (called_at past.moments (next_moment past))) xs
some-wanted past k xs e =
    some-same (is_wanted (view_seen past) k) (is_in (called_at past.moments (next_moment past))) xs
    (λ q h. wanted-unbound (view_seen past) k q e ∙ ap (λ (ys : List ℕ). is_in ys q) (demand-is past e))

-- ---- a phase that is through

lasts-now : (n : ℕ) (test : Moment → Bool) (m : Moment) (past : List Moment) → lasts_now n (test m) test past ≡ lasts n test (m ∷ past)
lasts-now zero test m past = refl
lasts-now (suc n) test m past = refl

gap-is : (past : Past) (p : ℕ) → bound (mode_seen past) ≡ None → has_gap (view_seen past) p ≡ has_gapped past.moments (next_moment past) p
gap-is past p e =
    ap (λ (b : Option ℕ). not (keeps_maximum b past.tables p) && lasts_now (gap_time past.tables p) (is_in (quiet_seen past) p) (λ m. is_in m.quiet p) past.moments) e
    ∙ ap (λ (b : Bool). not (has_maximum_recall past.tables p) && b)
    (lasts-now (gap_time past.tables p) (λ m. is_in m.quiet p) (next_moment past) past.moments)

maximum-is : (past : Past) (p : ℕ) → has_maximum (view_seen past) p ≡ has_maxed past.moments (next_moment past) p
maximum-is past p = lasts-now (maximum_time past.tables p) (λ m. is_in m.opposed p) (next_moment past) past.moments

pub through-is : (past : Past) (p : ℕ) → bound (mode_seen past) ≡ None → is_done (view_seen past) p ≡ is_through past.moments (next_moment past) p
through-is past p e =
    ap (λ (b : Option ℕ). (is_enabled past.tables p && same_colour (colour_of (last_frame past.moments) p) Green && is_reasoned b (view_seen past) p)
    && is_served past.tables past.moments p) e
    ∙ ap (λ (b : Bool). (is_enabled past.tables p && same_colour (colour_of (last_frame past.moments) p) Green && (b || has_maximum (view_seen past) p))
    && is_served past.tables past.moments p) (gap-is past p e)
    ∙ ap (λ (b : Bool). (is_enabled past.tables p && same_colour (colour_of (last_frame past.moments) p) Green
    && (has_gapped past.moments (next_moment past) p || b)) && is_served past.tables past.moments p) (maximum-is past p)

-- ---- the present side is that of p

pub same-side : (t : Tables) (a p x : ℕ) → Sound t → are_of_one_side t a p ≡ true → are_of_one_side t a x ≡ are_of_one_side t p x
same-side t a p x sound h = by (are_of_one_side t a x) refl (are_of_one_side t p x) refl
  where
    by : (b : Bool) → are_of_one_side t a x ≡ b → (c : Bool) → are_of_one_side t p x ≡ c → b ≡ c
    by true e true f = refl
    by true e false f = absurd (both_ways (are_of_one_side t p x) f (side-joined t p a x sound (side-mutual t a p h) e))
    by false e true f = absurd (both_ways (are_of_one_side t a x) e (side-joined t a p x sound h f))
    by false e false f = refl

not-ended : (past : Past) (p : ℕ) → FreeGreen past p → is_in (ended_of past.tables past.moments) p ≡ false
not-ended past p g =
    in-phases
    (λ q. not (same_colour (colour_of (last_frame past.moments) q) Red)
    && same_colour (runs_on q past.tables past.moments (colour_of (last_frame past.moments) q)) Red) p g.phase
    ∙ rw g.green refl

shut : (past : Past) (p : ℕ) → FreeGreen past p → is_open (view_seen past) (ring_of past.tables p) ≡ false
shut past p g = closed (view_seen past) (ring_of past.tables p) p g.phase (placed past p g) (not-ended past p g)

-- where a ring is not open its phase is not 0
pub on-some : (v : View) (r : ℕ) → is_open v r ≡ false → on_phase v r ≢ 0
on-some v r h none = false≢true (sym h ∙ ap (λ (x : ℕ). x == 0 || is_in v.ended x) none)

pub side-is : (past : Past) (p : ℕ) → FreeGreen past p → are_of_one_side past.tables (present_side (view_seen past)) p ≡ true
side-is past p g = elim (g.sound.ring p (enabled past p g)) [
  | inl one ↦ first (is_open v 1) refl (subst (λ (r : ℕ). is_open v r ≡ false) one (shut past p g)) (subst (λ (r : ℕ). on_phase v r ≡ p) one (placed past p g))
  | inr two ↦ second (is_open v 1) refl (is_open v 2) (subst (λ (r : ℕ). is_open v r ≡ false) two (shut past p g))
      (subst (λ (r : ℕ). on_phase v r ≡ p) two (placed past p g))
]
  where
    v : View
    v = view_seen past

    mine : are_of_one_side past.tables p p ≡ true
    mine = own past.tables p (enabled past p g)

    first : (a : Bool) → is_open v 1 ≡ a → a ≡ false → on_phase v 1 ≡ p → are_of_one_side past.tables (present_side v) p ≡ true
    first a e shuts at = rw (e ∙ shuts, at) mine

    second : (a : Bool) → is_open v 1 ≡ a → (b : Bool) → is_open v 2 ≡ false → on_phase v 2 ≡ p → are_of_one_side past.tables (present_side v) p ≡ true
    second true e b shuts at = rw (e, shuts, at) mine
    second false e b shuts at =
        rw e (subst (λ (x : ℕ). are_of_one_side past.tables (on_phase v 1) x ≡ true) at
        (named-beside past.tables (last_frame past.moments) g.stands g.named (on-some v 1 e) (on-some v 2 shuts)))

present-is : (past : Past) (p r : ℕ) → FreeGreen past p → present (view_seen past) r ≡ ring_phases past.tables 1 p r
present-is past p r g =
    ap (λ (m : Mode). ring_phases past.tables (sequence_in past.tables m) (present_side (view_seen past)) r) g.mode
    ∙ those-same _ _ (order_of past.tables 1 r)
    (λ q h. ap (λ (b : Bool). ring_of past.tables q == r && b) (same-side past.tables (present_side (view_seen past)) p q g.sound (side-is past p g)))

last-is : (moments : List Moment) (r x : ℕ) → is_start (last_frame moments).mode ≡ false → on_in (last_frame moments) r ≡ x → x ≢ 0 → last_on r moments ≡ x
last-is [] r x s e ne = absurd (false≢true (sym s))
last-is (m ∷ past) r x s e ne = rw (s, e, other (x == 0) refl) refl
  where
    other : (b : Bool) → (x == 0) ≡ b → (x == 0) ≡ false
    other true z = absurd (ne (eq-true x 0 z))
    other false z = z

pub later-is : (past : Past) (p r x : ℕ) → FreeGreen past p → on_phase (view_seen past) r ≡ x → x ≢ 0
    → later (view_seen past) r ≡ later_in (ring_phases past.tables 1 p r) x
later-is past p r x g at ne =
    ap (λ (xs : List ℕ). later_in xs (last_on r past.moments)) (present-is past p r g)
    ∙ ap (later_in (ring_phases past.tables 1 p r)) (last-is past.moments r x (not-start past p g) at ne)

pub earlier-is : (past : Past) (p r x : ℕ) → FreeGreen past p → on_phase (view_seen past) r ≡ x → x ≢ 0
    → earlier (view_seen past) r ≡ earlier_in (ring_phases past.tables 1 p r) x
earlier-is past p r x g at ne =
    ap (λ (xs : List ℕ). earlier_in xs (last_on r past.moments)) (present-is past p r g)
    ∙ ap (earlier_in (ring_phases past.tables 1 p r)) (last-is past.moments r x (not-start past p g) at ne)
