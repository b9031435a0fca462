-- What lasts for some ticks more is as it was at the next of them: nothing ends, and no phase is done or forced off.
use Rattle.std.proofs.Common.{◌≡◌, ◌≢◌, ◌<◌, ◌≤◌, ◌+◌, ◌&&◌, ◌||◌, ◌==◌, not, nat_le, if◌then◌else◌, ℕ, zero, suc, Bool, true, false, List, [], ◌∷◌}
use Rattle.std.proofs.Common.{Option, None, Some, refl, sym, ◌∙◌, ap, arith, subst, inl, inr}
use Rattle.std.proofs.lemmas.Bool.{false≢true, ne_eqb, cases_Bool, lt-leb}
use Rattle.std.proofs.lemmas.Bool.Decides.{Decides-eqb}
use Rattle.std.proofs.Math.Bool.{and-false}
use Rattle.sig_types.specs.declared.frame.Colour.{Colour}
use Rattle.sig_types.specs.declared.frame.Colour.TheVariants.{Green, Yellow, Clear, Red}
use Rattle.sig_types.specs.declared.frame.Ped.{Ped}
use Rattle.sig_types.specs.declared.frame.Ped.TheVariants.{Walk, Flash, Dont}
use Rattle.sig_types.specs.Phases.{is_phase, is_in}
use Rattle.sig_types.specs.Colour.{same_signal, signal_of, on_in}
use Rattle.sig_tables.specs.declared.tables.Tables.{Tables}
use Rattle.sig_tables.specs.Sides.{are_of_one_side}
use Rattle.sig_tables.specs.Tables.{is_enabled, ring_of, least_green, yellow_time, red_clear_time, walk_time, pedestrian_clear_time, gap_time, maximum_time}
use Rattle.sig_tables.specs.Slots.{force_point, window, least_service}
use Rattle.sig_tables.specs.Coordinating.{has_room, is_forced_off, extension_of, has_floated}
use Rattle.sig_tables.specs.Modes.{bound}
use Rattle.sig_tables.specs.Past.{Past, Moment}
use Rattle.sig_tables.specs.Looking.{latest_on, in_a_row, run, latched, runs_on, signal_run, signal_latched, signal_runs_on}
use Rattle.sig_tables.specs.Calls.{is_green}
use Rattle.sig_tables.specs.TickState.{tick_state_of}
use Rattle.sig_tables.specs.View.{is_served, is_done, is_forced, has_reason, is_reasoned, has_gap, has_maximum, is_open, is_wanted, other_ring, present_side, present_side_of}
use Rattle.sig_tables.specs.Moves.{ring_moves, ending_in, beginning_of}
use Rattle.sig_tables.specs.Seen.{frame_seen, mode_seen, quiet_seen, quiet_with, demand_with, opposed_seen, view_seen}
use Rattle.sig_tables.proofs.Lasting.{lasts_now-counted}
use Rattle.call_store.specs.Signals.{SignalLasts}
use Rattle.ring_barrier.proofs.Views.{ended-not}
use Rattle.tick_context.specs.Lasting.{ColourLasts, StaysUnserved, HasNoGap, HasNoMaximum, HasNoReason, StaysUnforced, PhaseLasts, StaysOn, HasNoRoom, IsUnwanted, NoneInRing, NoneElsewhere, RingLasts, present_on, opposed_with}
use Rattle.tick_context.proofs.Causes.{held-reason, fill-reason}
use Rattle.tick_context.proofs.Colours.{yellow-stays, clear-stays}
use Rattle.tick_context.proofs.Waiting.{NoneHere, NoneBeyond, not-free, to-end-not, ends-not, ended-waits, begins-not, shut-begins, no-moves, no-demand}
use Rattle.tick_context.proofs.Seen.{gap-not-quiet, maximum-unopposed, served-early, done-unreasoned, done-not}

-- a Yellow or a red clearance continues
pub colour-stays : (j p : ℕ) (now : Tables) (past : List Moment) (c : Colour) → ColourLasts (suc j) p now past c → runs_on p now past c ≡ c
colour-stays j p now past Green h = refl
colour-stays j p now past Red h = refl
colour-stays j p now past Yellow h =
    let k : run p Yellow past + suc j ≤ yellow_time (latched p Yellow now past) p = h in
    let ne : run p Yellow past ≢ yellow_time (latched p Yellow now past) p = λ e. absurd (omega (arith, k, e)) in
    sym (yellow-stays p now past Yellow refl ne)
colour-stays j p now past Clear h =
    let k : run p Clear past + suc j ≤ red_clear_time (latched p Clear now past) p = h in
    let ne : run p Clear past ≢ red_clear_time (latched p Clear now past) p = λ e. absurd (omega (arith, k, e)) in
    sym (clear-stays p now past Clear refl ne)

-- a Walk or a Flash continues
pub signal-stays : (j p : ℕ) (now : Tables) (past : List Moment) (s : Ped) → SignalLasts (suc j) p now past s → signal_runs_on p now past s ≡ s
signal-stays j p now past Dont h = refl
signal-stays j p now past Walk h =
    let k : signal_run p Walk past + suc j ≤ walk_time (signal_latched p Walk now past) p = h in
    let ne : signal_run p Walk past ≢ walk_time (signal_latched p Walk now past) p = λ e. absurd (omega (arith, k, e)) in
    rw (ne_eqb _ _ ne) refl
signal-stays j p now past Flash h =
    let k : signal_run p Flash past + suc j ≤ pedestrian_clear_time (signal_latched p Flash now past) p = h in
    let ne : signal_run p Flash past ≢ pedestrian_clear_time (signal_latched p Flash now past) p = λ e. absurd (omega (arith, k, e)) in
    rw (ne_eqb _ _ ne) refl

off : (a b : Bool) → b ≡ false → (a && b) ≡ false
off a b e = rw e (and-false a)

not-dont : (s : Ped) → (same_signal s Walk || same_signal s Flash) ≡ true → same_signal s Dont ≡ false
not-dont Walk e = refl
not-dont Flash e = refl
not-dont Dont e = absurd (false≢true e)

-- it is not served
unserved-stays : (j : ℕ) (past : Past) (p : ℕ) → SignalLasts (suc j) p past.tables past.moments (signal_of (frame_seen past) p)
    → StaysUnserved (suc j) past p → is_served past.tables past.moments p ≡ false
unserved-stays j past p signal (inl h) =
    let k : run p Green past.moments + suc j ≤ least_green (latched p Green past.tables past.moments) p = h in
    sym (served-early past p (run p Green past.moments) (least_green (latched p Green past.tables past.moments) p) refl refl (omega (arith, k)))
unserved-stays j past p signal (inr h) =
    off _ _ (ap (λ (s : Ped). same_signal s Dont) (signal-stays j p past.tables past.moments (signal_of (frame_seen past) p) signal)
    ∙ not-dont (signal_of (frame_seen past) p) h)

-- a count that is too short with that many ticks more is so with this one
short-now : (most row j : ℕ) (b : Bool) → row + suc j < most → nat_le most (if b then row + 1 else 0) ≡ false
short-now most row j true h = lt-leb most (row + 1) (omega (arith, h))
short-now most row j false h = lt-leb most 0 (omega (arith, h))

-- there is no gap
gap-stays : (j : ℕ) (past : Past) (p : ℕ) (o : Option ℕ) → bound (mode_seen past) ≡ o → HasNoGap o (suc j) past p → has_gap (view_seen past) p ≡ false
gap-stays j past p o e (inl h) = gap-not-quiet past p (ap (λ (x : Option ℕ). is_in (quiet_with x past) p) e ∙ h)
gap-stays j past p o e (inr h) =
    off _ _ (lasts_now-counted (gap_time past.tables p) (is_in (quiet_seen past) p) (λ m. is_in m.quiet p) past.moments
    ∙ short-now (gap_time past.tables p) (in_a_row (λ m. is_in m.quiet p) past.moments) j (is_in (quiet_seen past) p) h)

-- nor a maximum
maximum-stays : (j : ℕ) (past : Past) (p : ℕ) (o : Option ℕ) → bound (mode_seen past) ≡ o → HasNoMaximum o (suc j) past p
    → has_maximum (view_seen past) p ≡ false
maximum-stays j past p o e (some, inl h) = sym (maximum-unopposed past p some (ap (λ (x : Option ℕ). is_in (opposed_with x past) p) e ∙ h))
maximum-stays j past p o e (some, inr h) =
    lasts_now-counted (maximum_time past.tables p) (is_in (opposed_seen past) p) (λ m. is_in m.opposed p) past.moments
    ∙ short-now (maximum_time past.tables p) (in_a_row (λ m. is_in m.opposed p) past.moments) j (is_in (opposed_seen past) p) h

-- nor any reason to end it
reason-stays : (j : ℕ) (past : Past) (p : ℕ) (o : Option ℕ) → bound (mode_seen past) ≡ o → (tick_state_of past).active ≡ 0
    → (tick_state_of past).counter ≤ (frame_seen past).counter + 1 → HasNoReason o (suc j) past p
    → is_reasoned (bound (mode_seen past)) (view_seen past) p ≡ false
reason-stays j past p None e active counter (gap, most) =
    ap (λ (x : Option ℕ). is_reasoned x (view_seen past) p) e
    ∙ neither _ _ (gap-stays j past p None e gap) (maximum-stays j past p None e most)
  where
    neither : (a b : Bool) → a ≡ false → b ≡ false → (a || b) ≡ false
    neither a b f g = rw (f, g) refl
reason-stays j past p (Some n) e active counter (inl (held, before)) =
    let k : (frame_seen past).counter + suc j < force_point past.tables n p = before in
    ap (λ (x : Option ℕ). is_reasoned x (view_seen past) p) e
    ∙ sym (held-reason past n p false held
    (sym (lt-leb (force_point past.tables n p + extension_of past.tables (tick_state_of past).active) (tick_state_of past).counter (omega (arith, k, counter)))))
reason-stays j past p (Some n) e active counter (inr (free, (fixed, gap))) =
    ap (λ (x : Option ℕ). is_reasoned x (view_seen past) p) e
    ∙ sym (fill-reason past n p (run p Green past.moments) false free (ap (λ (k : ℕ). not (k == 0)) active) (gap-stays j past p (Some n) e gap) refl
    (sym (ap (λ (b : Bool). if b then has_floated past.tables n p (run p Green past.moments) else false) fixed)))

-- so what stays on is not done
pub done-stays : (j : ℕ) (past : Past) (o : Option ℕ) (r : ℕ) → bound (mode_seen past) ≡ o → (tick_state_of past).active ≡ 0
    → (tick_state_of past).counter ≤ (frame_seen past).counter + 1 → ((p : ℕ) → is_phase p ≡ true → PhaseLasts o (suc j) past p)
    → StaysOn o (suc j) past r → is_done (view_seen past) (on_in (frame_seen past) r) ≡ false
done-stays j past o r e active counter lasts stays = by (on_in (frame_seen past) r) refl
  where
    by : (p : ℕ) → on_in (frame_seen past) r ≡ p → is_done (view_seen past) p ≡ false
    by p is = elim (cases_Bool (is_phase p)) [
      | inr i ↦ rw i refl
      | inl i ↦ elim (cases_Bool (is_enabled past.tables p && is_green (frame_seen past) p)) [
        | inr h ↦ sym (done-not past p h)
        | inl h ↦ elim (stays.undone (ap (λ (x : ℕ). is_enabled past.tables x && is_green (frame_seen past) x) is ∙ h)) [
          | inl unserved ↦
              off (has_reason (view_seen past) p) _
              (unserved-stays j past p (lasts p i).signal (subst (λ (x : ℕ). StaysUnserved (suc j) past x) is unserved))
          | inr reason ↦
              sym (done-unreasoned past p (reason-stays j past p o e active counter (subst (λ (x : ℕ). HasNoReason o (suc j) past x) is reason)))
        ]
      ]
    ]

-- the pattern does not force it off
unforced-stays : (j : ℕ) (past : Past) (p : ℕ) (o : Option ℕ) → (tick_state_of past).counter ≤ (frame_seen past).counter + 1 → StaysUnforced o (suc j) past p
    → is_forced_off o past.tables (tick_state_of past).counter p ≡ false
unforced-stays j past p None counter h = refl
unforced-stays j past p (Some n) counter (inl held) = rw held refl
unforced-stays j past p (Some n) counter (inr before) =
    let k : (frame_seen past).counter + suc j < force_point past.tables n p = before in
    off _ _ (lt-leb (force_point past.tables n p) (tick_state_of past).counter (omega (arith, k, counter)))

third : (a b c : Bool) → c ≡ false → (a && b && c) ≡ false
third true true c e = e
third true false c e = refl
third false b c e = refl

neither : (a b c : Bool) → (a && b) ≡ false → (a && b && c) ≡ false
neither true true c e = absurd (false≢true (sym e))
neither true false c e = refl
neither false b c e = refl

pub forced-stays : (j : ℕ) (past : Past) (o : Option ℕ) → bound (mode_seen past) ≡ o → (tick_state_of past).counter ≤ (frame_seen past).counter + 1
    → ((p : ℕ) → is_phase p ≡ true → PhaseLasts o (suc j) past p) → (p : ℕ) → is_forced (view_seen past) p ≡ false
forced-stays j past o e counter lasts p = elim (cases_Bool (is_phase p)) [
  | inr i ↦ rw i refl
  | inl i ↦ elim (cases_Bool (is_enabled past.tables p && is_green (frame_seen past) p)) [
    | inr h ↦ neither (is_enabled past.tables p) (is_green (frame_seen past) p) _ h
    | inl h ↦ third (is_enabled past.tables p) (is_green (frame_seen past) p) _
        (ap (λ (x : Option ℕ). is_forced_off x past.tables (tick_state_of past).counter p) e
        ∙ unforced-stays j past p o counter ((lasts p i).unforced h))
  ]
]

-- the counter continues, where a pattern binds
abbrev pub GoesAhead : Option ℕ → Past → Type 0
GoesAhead o past = (n : ℕ) → o ≡ Some n → (frame_seen past).counter + 1 ≤ (tick_state_of past).counter

-- what has no room has none at the next tick
no-room : (j : ℕ) (past : Past) (q d : ℕ) (o : Option ℕ) → (tick_state_of past).counter ≤ (frame_seen past).counter + 1 → GoesAhead o past
    → HasNoRoom o (suc j) past q → has_room o past.tables (tick_state_of past).counter d q ≡ false
no-room j past q d None counter ahead h = absurd h
no-room j past q d (Some n) counter ahead (free, inl late) =
    let k : force_point past.tables n q < (frame_seen past).counter + 1 + least_service past.tables q = late in
    let more : (frame_seen past).counter + 1 ≤ (tick_state_of past).counter = ahead n refl in
    rw (free, lt-leb ((tick_state_of past).counter + d + least_service past.tables q) (force_point past.tables n q) (omega (arith, k, more))) refl
no-room j past q d (Some n) counter ahead (free, inr early) =
    let k : (frame_seen past).counter + suc j < window past.tables n = early in
    rw free (off _ _ (lt-leb (window past.tables n) (tick_state_of past).counter (omega (arith, k, counter))))

-- what is unwanted is not wanted then, after however many ticks
pub unwanted-stays : (j : ℕ) (past : Past) (o : Option ℕ) → bound (mode_seen past) ≡ o → (tick_state_of past).counter ≤ (frame_seen past).counter + 1
    → GoesAhead o past → (q d : ℕ) → IsUnwanted o (suc j) past q → is_wanted (view_seen past) d q ≡ false
unwanted-stays j past o e counter ahead q d h =
    ap (λ (x : Option ℕ). if is_in (demand_with x past) q then has_room x past.tables (tick_state_of past).counter d q else false) e ∙ elim h [
      | inl none ↦ rw none refl
      | inr full ↦ by (is_in (demand_with o past) q) _ (no-room j past q d o counter ahead full)
    ]
  where
    by : (a b : Bool) → b ≡ false → (if a then b else false) ≡ false
    by true b f = f
    by false b f = refl

-- what the rings look at, where the clearances continue: a ring is open where nothing is on in it
pub record RingsAre (past : Past) : Type 0 where
  pub first : is_open (view_seen past) 1 ≡ (on_in (frame_seen past) 1 == 0)
  pub second : is_open (view_seen past) 2 ≡ (on_in (frame_seen past) 2 == 0)
  pub side : present_side (view_seen past) ≡ present_on past

pub rings-are : (past : Past) → present_on past ≢ 0 → is_open (view_seen past) 1 ≡ (on_in (frame_seen past) 1 == 0)
    → is_open (view_seen past) 2 ≡ (on_in (frame_seen past) 2 == 0) → RingsAre past
rings-are past some one two = record {
  first = one;
  second = two;
  side = by (is_open (view_seen past) 1) (is_open (view_seen past) 2) (present_side_of (view_seen past) (latest_on past.moments))
      (on_in (frame_seen past) 1) (on_in (frame_seen past) 2) one two some;
}
  where
    by : (a b : Bool) (x one two : ℕ) → a ≡ (one == 0) → b ≡ (two == 0) → (if one == 0 then two else one) ≢ 0
        → (if a then (if b then x else two) else one) ≡ (if one == 0 then two else one)
    by a b x zero zero e f some = absurd (some refl)
    by a b x zero (suc two) e f some = let h : b ≡ false = f ∙ ne_eqb (suc two) 0 (omega arith) in rw (e, h) refl
    by a b x (suc one) two e f some = let h : a ≡ false = e ∙ ne_eqb (suc one) 0 (omega arith) in rw (h, ne_eqb (suc one) 0 (omega arith)) refl

none-here : (j : ℕ) (past : Past) (o : Option ℕ) (r : ℕ) → bound (mode_seen past) ≡ o → (tick_state_of past).counter ≤ (frame_seen past).counter + 1
    → GoesAhead o past → RingsAre past → NoneInRing o (suc j) past r → NoneHere (view_seen past) r
none-here j past o r e counter ahead are none = λ d q.
    ap (λ (s : ℕ). (ring_of past.tables q == r && are_of_one_side past.tables s q) && is_wanted (view_seen past) d q) are.side
    ∙ elim (cases_Bool (ring_of past.tables q == r && are_of_one_side past.tables (present_on past) q)) [
      | inr out ↦ rw out refl
      | inl on ↦ off _ _ (unwanted-stays j past o e counter ahead q d (none q on))
    ]

none-beyond : (j : ℕ) (past : Past) (o : Option ℕ) → bound (mode_seen past) ≡ o → (tick_state_of past).counter ≤ (frame_seen past).counter + 1
    → GoesAhead o past → RingsAre past → NoneElsewhere o (suc j) past → NoneBeyond (view_seen past)
none-beyond j past o e counter ahead are none = λ d q.
    ap (λ (s : ℕ). not (are_of_one_side past.tables s q) && is_wanted (view_seen past) d q) are.side ∙ elim (cases_Bool (is_phase q)) [
      | inr i ↦ off _ _ (ap (λ (b : Bool). if b then has_room (bound (mode_seen past)) past.tables (tick_state_of past).counter d q else false)
          (no-demand (bound (mode_seen past)) past q i))
      | inl i ↦ elim (cases_Bool (are_of_one_side past.tables (present_on past) q)) [
        | inl on ↦ rw on refl
        | inr out ↦ off _ _ (unwanted-stays j past o e counter ahead q d (none q i out))
      ]
    ]

-- a ring that lasts ends nothing
ring-ends : (j : ℕ) (past : Past) (o : Option ℕ) (r : ℕ) → bound (mode_seen past) ≡ o → (tick_state_of past).active ≡ 0
    → (tick_state_of past).counter ≤ (frame_seen past).counter + 1 → GoesAhead o past
    → ((p : ℕ) → is_phase p ≡ true → PhaseLasts o (suc j) past p) → RingsAre past
    → is_open (view_seen past) (other_ring r) ≡ (on_in (frame_seen past) (other_ring r) == 0) → RingLasts o (suc j) past r
    → ending_in (view_seen past) r ≡ []
ring-ends j past o r e active counter ahead lasts are opens (inl stays) =
    ends-not (view_seen past) r (forced-stays j past o e counter lasts (on_in (frame_seen past) r))
    (sym (ended-not (view_seen past) r (on_in (frame_seen past) r) (done-stays j past o r e active counter lasts stays)))
ring-ends j past o r e active counter ahead lasts are opens (inr (none, inl empty)) =
    ends-not (view_seen past) r (forced-stays j past o e counter lasts (on_in (frame_seen past) r))
    (sym (ended-not (view_seen past) r (on_in (frame_seen past) r) (ap (is_done (view_seen past)) empty)))
ring-ends j past o r e active counter ahead lasts are opens (inr (none, inr wait)) =
    ends-not (view_seen past) r (forced-stays j past o e counter lasts (on_in (frame_seen past) r))
    (ended-waits (view_seen past) r (on_in (frame_seen past) r)
    (to-end-not (view_seen past) r (on_in (frame_seen past) r) (none-here j past o r e counter ahead are none) (elim wait [
      | inl beyond ↦ inl (none-beyond j past o e counter ahead are beyond)
      | inr stays ↦
          inr (not-free (view_seen past) (other_ring r) (opens ∙ ne_eqb (on_in (frame_seen past) (other_ring r)) 0 stays.on)
          (done-stays j past o (other_ring r) e active counter lasts stays))
    ])))

-- and begins nothing
ring-begins : (j : ℕ) (past : Past) (o : Option ℕ) (r : ℕ) → bound (mode_seen past) ≡ o
    → (tick_state_of past).counter ≤ (frame_seen past).counter + 1 → GoesAhead o past → RingsAre past
    → is_open (view_seen past) r ≡ (on_in (frame_seen past) r == 0)
    → (on_in (frame_seen past) r ≡ 0 → is_open (view_seen past) (other_ring r) ≡ false) → RingLasts o (suc j) past r
    → beginning_of (view_seen past) r ≡ []
ring-begins j past o r e counter ahead are opens shut l = elim (cases_Bool (on_in (frame_seen past) r == 0)) [
  | inr on ↦ shut-begins (view_seen past) r (opens ∙ on)
  | inl off ↦
      let empty : on_in (frame_seen past) r ≡ 0 = (Decides-eqb (on_in (frame_seen past) r) 0).0 off in
      elim l [
        | inl stays ↦ absurd (stays.on empty)
        | inr (none, wait) ↦ begins-not (view_seen past) r (opens ∙ off) (shut empty) (none-here j past o r e counter ahead are none)
      ]
]

-- so the rings stay as they are
pub rings-stay : (j : ℕ) (past : Past) (o : Option ℕ) → bound (mode_seen past) ≡ o → (tick_state_of past).active ≡ 0
    → (tick_state_of past).counter ≤ (frame_seen past).counter + 1 → GoesAhead o past
    → ((p : ℕ) → is_phase p ≡ true → PhaseLasts o (suc j) past p) → present_on past ≢ 0
    → is_open (view_seen past) 1 ≡ (on_in (frame_seen past) 1 == 0) → is_open (view_seen past) 2 ≡ (on_in (frame_seen past) 2 == 0)
    → RingLasts o (suc j) past 1 → RingLasts o (suc j) past 2 → ring_moves (view_seen past) ≡ record { ends = []; begins = [] }
rings-stay j past o e active counter ahead lasts some one two first second =
    let are = rings-are past some one two in
    no-moves (view_seen past)
    (ring-ends j past o 1 e active counter ahead lasts are two first)
    (ring-ends j past o 2 e active counter ahead lasts are one second)
    (ring-begins j past o 1 e counter ahead are one
    (λ none. two ∙ ne_eqb (on_in (frame_seen past) 2) 0 (λ x. some (beside-second (on_in (frame_seen past) 1) (on_in (frame_seen past) 2) none x))) first)
    (ring-begins j past o 2 e counter ahead are two
    (λ none. one ∙ ne_eqb (on_in (frame_seen past) 1) 0 (λ x. some (beside-second (on_in (frame_seen past) 1) (on_in (frame_seen past) 2) x none))) second)
  where
    beside-second : (a b : ℕ) → a ≡ 0 → b ≡ 0 → (if a == 0 then b else a) ≡ 0
    beside-second a b f g = rw (f, g) refl
