-- One tick of a pattern keeps every phase in time, and at local zero both held phases are Green.
use Rattle.std.proofs.Common.{◌≡◌, ◌⊎◌, inl, inr, ℕ, ◌+◌, ◌≤◌, ◌<◌, Bool, true, false, not, ◌&&◌, if◌then◌else◌, List, [], ◌∷◌, refl, sym, ◌∙◌, ap, subst, arith}
use Rattle.std.proofs.lemmas.Bool.{cases_Bool, both_ways, false≢true, and_parts, and_from, cases_lt}
use Rattle.sig_types.specs.declared.frame.Colour.{Colour}
use Rattle.sig_types.specs.declared.frame.Colour.TheVariants.{Green, Yellow, Clear, Red}
use Rattle.sig_types.specs.declared.frame.Frame.{Frame}
use Rattle.sig_types.specs.Phases.{is_in, first}
use Rattle.sig_types.specs.Colour.{same_colour, colour_of}
use Rattle.sig_types.proofs.Lists.{in-append, in-first, in-or_else}
use Rattle.sig_tables.specs.declared.tables.Tables.{Tables}
use Rattle.sig_tables.specs.Tables.{ring_of, is_enabled, has_dual_entry, red_revert_time}
use Rattle.sig_tables.specs.Sides.{ring_phases, sides}
use Rattle.sig_tables.specs.Slots.{cycle_time, window, force_point, is_coordinated, is_omitted, coordinated_phase}
use Rattle.sig_tables.specs.Past.{Moment}
use Rattle.sig_tables.specs.Looking.{last_frame, lasts, shows, runs_on}
use Rattle.sig_tables.specs.Modes.{bound}
use Rattle.sig_tables.specs.Splits.{omits}
use Rattle.sig_tables.specs.View.{View, is_open, other_ring, later, earlier, present_side, has_room_in, is_wanted, is_startable, can_begin, elsewhere, greatest_clearance}
use Rattle.sig_tables.specs.Moves.{beginning_in, from_side, can_enter, can_join, entering, stays_in_side, beginning_of, ring_moves}
use Rattle.sig_tables.specs.Decide.{colour_after}
use Rattle.sig_tables.proofs.Below.{coordinated-enabled}
use Rattle.tick_laws.specs.Steps.{Steps, Stands, Plain, Skips, Zero}
use Rattle.tick_laws.proofs.Cycle.{held-not_zero}
use Rattle.tick_laws.specs.Phases.{Next, Other, Held, OtherStands, HeldStands, OtherYellow, OtherClear}
use Rattle.tick_laws.proofs.Others.{other-step}
use Rattle.tick_laws.proofs.Held.{held-step, held-green, held-at_zero}
use Rattle.tick_laws.specs.Zero.{HoldsPair, PlanServes, Sees, AtZero, InTime, TimesServe, Gives, ZeroHolds, Kept}
use Rattle.tick_laws.proofs.Beginning.{held-begin}
use Rattle.tick_laws.proofs.Moving.{other-moves, held-moves, wanted-demanded}

-- what begins is not omitted
beginner-served : (v : View) (n q : ℕ) → Sees v n → can_begin v q ≡ true → is_omitted v.tables n q ≡ false
beginner-served v n q sees h = (sees.demanded q (wanted-demanded v 0 q (and_parts (is_wanted v 0 q) (is_startable v q) h).0)).2

joiner-served : (v : View) (n q : ℕ) → Sees v n → can_join v q ≡ true → is_omitted v.tables n q ≡ false
joiner-served v n q sees h =
    let a = and_parts (has_dual_entry v.tables q && not (omits (bound v.mode) v.tables q) && has_room_in v 0 q) (is_startable v q) h in
    let b = and_parts (has_dual_entry v.tables q && not (omits (bound v.mode) v.tables q)) (has_room_in v 0 q) a.0 in
    let c = (and_parts (has_dual_entry v.tables q) (not (omits (bound v.mode) v.tables q)) b.0).1 in
    served (is_omitted v.tables n q) (subst (λ x. not (omits x v.tables q) ≡ true) sees.bound c)
  where
    served : (b : Bool) → not b ≡ true → b ≡ false
    served true e = absurd (false≢true e)
    served false e = refl

beginning-served : (v : View) (n k r q : ℕ) → Sees v n → is_in (beginning_in v k r) q ≡ true → is_omitted v.tables n q ≡ false
beginning-served v n k r q sees h = elim (in-or_else (first (can_begin v) (later v r)) (if elsewhere v k then [] else first (can_begin v) (earlier v r)) q h) [
  | inl a ↦ beginner-served v n q sees (in-first (can_begin v) (later v r) q a).0
  | inr b ↦ rest (elsewhere v k) b
]
  where
    rest : (b : Bool) → is_in (if b then [] else first (can_begin v) (earlier v r)) q ≡ true → is_omitted v.tables n q ≡ false
    rest true e = absurd (false≢true e)
    rest false e = beginner-served v n q sees (in-first (can_begin v) (earlier v r) q e).0

entering-served : (v : View) (n : ℕ) (heads : List ℕ) (r q : ℕ) → Sees v n → is_in (entering v heads r) q ≡ true → is_omitted v.tables n q ≡ false
entering-served v n [] r q sees h = absurd (false≢true h)
entering-served v n (s ∷ rest) r q sees h =
    elim (in-or_else (first (can_begin v) (ring_phases v.tables v.sequence s r)) (first (can_join v) (ring_phases v.tables v.sequence s r)) q h) [
      | inl a ↦ beginner-served v n q sees (in-first (can_begin v) (ring_phases v.tables v.sequence s r) q a).0
      | inr b ↦ joiner-served v n q sees (in-first (can_join v) (ring_phases v.tables v.sequence s r) q b).0
    ]

ring-served : (v : View) (n r q : ℕ) → Sees v n → is_in (beginning_of v r) q ≡ true → is_omitted v.tables n q ≡ false
ring-served v n r q sees h = by (is_open v r) (is_open v (other_ring r)) (stays_in_side v) h
  where
    by : (a b c : Bool)
        → is_in (if a then (if b then (if c then beginning_in v 0 r else entering v
        (first (can_enter v) (from_side v.tables (present_side v) (sides v.tables v.sequence) [])) r) else beginning_in v
        (greatest_clearance v) r) else []) q ≡ true
        → is_omitted v.tables n q ≡ false
    by true true true e = beginning-served v n 0 r q sees e
    by true true false e = entering-served v n _ r q sees e
    by true false c e = beginning-served v n (greatest_clearance v) r q sees e
    by false b c e = absurd (false≢true e)

begins-served : (v : View) (n q : ℕ) → Sees v n → is_in (ring_moves v).begins q ≡ true → is_omitted v.tables n q ≡ false
begins-served v n q sees h = elim (in-append (beginning_of v 1) (beginning_of v 2) q h) [
  | inl a ↦ ring-served v n 1 q sees a
  | inr b ↦ ring-served v n 2 q sees b
]

-- the step for one phase
next-of : (v : View) (n p c : ℕ) (m : Moment) → Gives v n c m → is_enabled v.tables p ≡ true → Next v.tables n p c v.counter (ring_moves v) v.past m
next-of v n p c m g e = record { counter = g.counter; tables = g.tables; colour = g.colours p e }

red-stays : (v : View) (n p c : ℕ) (m : Moment) → Sees v n → Gives v n c m → is_enabled v.tables p ≡ true → is_omitted v.tables n p ≡ true
    → colour_of (last_frame v.past) p ≡ Red → colour_of m.frame p ≡ Red
red-stays v n p c m sees g e omitted red =
    g.colours p e ∙ ap (colour_after (ring_moves v) p v.tables v.past) red ∙ stays (is_in (ring_moves v).begins p) refl
  where
    stays : (b : Bool) → is_in (ring_moves v).begins p ≡ b → (if b then Green else Red) ≡ Red
    stays true f = absurd (both_ways (is_omitted v.tables n p) (begins-served v n p sees f) omitted)
    stays false f = refl

-- all that is known of the tick
record Tick (v : View) (n c : ℕ) (l : Moment) (past : List Moment) (m : Moment) : Type 0 where
  pair : HoldsPair v.tables n
  plan : PlanServes v.tables n
  times : TimesServe v.tables n
  sees : Sees v n
  gives : Gives v n c m
  lasting : v.past ≡ l ∷ past
  before : InTime v.tables n c v.past

-- how the counter totals 0: from the end of the cycle, or by a wait at 0
to-zero : (cycle window c d : ℕ) → Steps cycle window c d → d ≡ 0 → (c ≡ 0) ⊎ (c + 1 ≡ cycle)
to-zero cycle window c d (Stands same inside) z = inl (sym same ∙ z)
to-zero cycle window c d (Plain next within) z = absurd (omega arith)
to-zero cycle window c d (Skips over inside) z = absurd (omega arith)
to-zero cycle window c d (Zero zero last) z = inr last

other-kept : (v : View) (n c : ℕ) (l : Moment) (past : List Moment) (m : Moment) → Tick v n c l past m → (p : ℕ) → is_enabled v.tables p ≡ true
    → is_coordinated v.tables n p ≡ false → is_omitted v.tables n p ≡ false → OtherStands v.tables n p v.counter (m ∷ v.past) (colour_of m.frame p)
other-kept v n c l past m x p e other served =
    let moves = other-moves v n p x.pair x.sees x.gives.frame e other in
    let next : Next v.tables n p c v.counter (ring_moves v) v.past m = next-of v n p c m x.gives e in
    let stands = x.before.others p e other served in
    by v.past (sym x.lasting) moves next stands
  where
    by : (ms : List Moment) → l ∷ past ≡ ms → Rattle.tick_laws.specs.Phases.OtherMoves v.tables n p v.counter (ring_moves v) ms
        → Next v.tables n p c v.counter (ring_moves v) ms m → OtherStands v.tables n p c ms (colour_of (last_frame ms) p)
        → OtherStands v.tables n p v.counter (m ∷ ms) (colour_of m.frame p)
    by ms is moves next stands =
        subst (λ (ys : List Moment). OtherStands v.tables n p v.counter (m ∷ ys) (colour_of m.frame p)) is
        (other-step v.tables n p c v.counter (ring_moves v) l past m (x.plan.other p e other served) (x.times.yellow p e)
        (subst (λ (ys : List Moment). Rattle.tick_laws.specs.Phases.OtherMoves v.tables n p v.counter (ring_moves v) ys) (sym is) moves)
        (subst (λ (ys : List Moment). Next v.tables n p c v.counter (ring_moves v) ys m) (sym is) next)
        (subst (λ (ys : List Moment). OtherStands v.tables n p c ys (colour_of (last_frame ys) p)) (sym is) stands))

-- a phase that is not held is Red at counter 0
other-red : (t : Tables) (n p d : ℕ) (past : List Moment) (x : Colour) → 1 ≤ window t n → d ≡ 0 → OtherStands t n p d past x → x ≡ Red
other-red t n p d past Green some z s = absurd (omega (arith, s.in_time.after))
other-red t n p d past Yellow some z s = absurd (omega (arith, s.in_time.after))
other-red t n p d past Clear some z s = absurd (omega (arith, s.in_time.after))
other-red t n p d past Red some z s = refl

-- where it is Red after the tick that ends the cycle, it was Red or its clearance ended
was-red : (v : View) (n p c : ℕ) (m : Moment) → Sees v n → Gives v n c m → is_enabled v.tables p ≡ true → colour_of m.frame p ≡ Red
    → (colour_of v.frame p ≡ Red) ⊎ (is_in v.ended p ≡ true)
was-red v n p c m sees g e red = by (colour_of v.frame p) refl
    (ap (λ (f : Frame). colour_after (ring_moves v) p v.tables v.past (colour_of f p)) g.frame ∙ sym (g.colours p e) ∙ red)
  where
    differs : (x : Colour) → x ≡ Red → same_colour x Red ≡ false → ⊥
    differs x f h = false≢true (sym h ∙ ap (λ (y : Colour). same_colour y Red) f)

    green-goes : (b : Bool) → (if b then Yellow else Green) ≡ Red → ⊥
    green-goes true f = differs Yellow f refl
    green-goes false f = differs Green f refl

    by : (x : Colour) → colour_of v.frame p ≡ x → colour_after (ring_moves v) p v.tables v.past x ≡ Red → (colour_of v.frame p ≡ Red) ⊎ (is_in v.ended p ≡ true)
    by Green f h = absurd (green-goes (is_in (ring_moves v).ends p) h)
    by Yellow f h = inr (sees.ended p e (λ z. differs Yellow (sym f ∙ z) refl) (ap (runs_on p v.tables v.past) f ∙ h))
    by Clear f h = inr (sees.ended p e (λ z. differs Clear (sym f ∙ z) refl) (ap (runs_on p v.tables v.past) f ∙ h))
    by Red f h = inl f

-- the tick that ends the cycle
at-zero : (v : View) (n c : ℕ) (l : Moment) (past : List Moment) (m : Moment) → Tick v n c l past m → v.counter ≡ 0 → c + 1 ≡ cycle_time v.tables n → AtZero v n
at-zero v n c l past m x z last = record {
  zero = z;
  others = λ p e other. was-red v n p c m x.sees x.gives e (elim (cases_Bool (is_omitted v.tables n p)) [
    | inl o ↦ red-stays v n p c m x.sees x.gives e o (x.before.omitted p e other o)
    | inr s ↦ other-red v.tables n p v.counter (m ∷ v.past) (colour_of m.frame p) x.pair.window z (other-kept v n c l past m x p e other s)
  ]);
  held = λ r which. held-stand r which;
}
  where
    startable : (q : ℕ) → is_coordinated v.tables n q ≡ true → colour_of v.frame q ≡ Red
        → lasts (red_revert_time v.tables q) (shows q Red) v.past ≡ true → is_startable v q ≡ true
    startable q held red lasting =
        and_from (is_enabled v.tables q && same_colour (colour_of v.frame q) Red) (lasts (red_revert_time v.tables q) (shows q Red) v.past)
        (and_from (is_enabled v.tables q) (same_colour (colour_of v.frame q) Red) (coordinated-enabled v.tables n q held)
        (ap (λ (y : Colour). same_colour y Red) red)) lasting

    held-stand : (r : ℕ) → (r ≡ 1) ⊎ (r ≡ 2) → (colour_of v.frame (coordinated_phase v.tables n r) ≡ Green)
        ⊎ ((colour_of v.frame (coordinated_phase v.tables n r) ≡ Red) × (is_startable v (coordinated_phase v.tables n r) ≡ true))
    held-stand r which =
        let q : ℕ = coordinated_phase v.tables n r in
        let held : is_coordinated v.tables n (coordinated_phase v.tables n r) ≡ true = x.pair.held r which in
        let frame : colour_of v.frame (coordinated_phase v.tables n r) ≡ colour_of (last_frame v.past) (coordinated_phase v.tables n r)
        = ap (λ (f : Frame). colour_of f (coordinated_phase v.tables n r)) x.gives.frame in
        elim (held-at_zero v.tables n (coordinated_phase v.tables n r) c v.past (colour_of (last_frame v.past) (coordinated_phase v.tables n r)) last
        (x.before.held (coordinated_phase v.tables n r) held)) [
          | inl green ↦ inl (frame ∙ green)
          | inr red ↦ inr (frame ∙ red.0, startable (coordinated_phase v.tables n r) held (frame ∙ red.0) red.1)
        ]

-- a held phase that is Green before its force point stays
stays-green : (v : View) (n q c : ℕ) (m : Moment) → HoldsPair v.tables n → PlanServes v.tables n → TimesServe v.tables n → Sees v n → Gives v n c m
    → is_coordinated v.tables n q ≡ true → v.counter ≡ 0 → colour_of (last_frame v.past) q ≡ Green → colour_of m.frame q ≡ Green
stays-green v n q c m pair plan times sees g held z green =
    g.colours q (coordinated-enabled v.tables n q held) ∙ ap (colour_after (ring_moves v) q v.tables v.past) green ∙ stays (is_in (ring_moves v).ends q) refl
  where
    stays : (b : Bool) → is_in (ring_moves v).ends q ≡ b → (if b then Yellow else Green) ≡ Green
    stays true f = absurd (let late : force_point v.tables n q ≤ v.counter = (held-moves v n q pair plan sees held).past f in
        held-not_zero (window v.tables n) (force_point v.tables n q) (times.held q held) pair.window (omega arith))
    stays false f = refl

-- at counter 0 a held phase is Green
zero-green : (v : View) (n c : ℕ) (l : Moment) (past : List Moment) (m : Moment) → Tick v n c l past m → v.counter ≡ 0 → (q : ℕ)
    → is_coordinated v.tables n q ≡ true
    → colour_of m.frame q ≡ Green
zero-green v n c l past m x z q held = elim (to-zero (cycle_time v.tables n) (window v.tables n) c v.counter x.gives.counter z) [
  | inl none ↦
      let early : c < force_point v.tables n q = omega (arith, (x.times.held q held).after, x.pair.window) in
      stays-green v n q c m x.pair x.plan x.times x.sees x.gives held z
      (held-green v.tables n q c v.past (colour_of (last_frame v.past) q) early (x.before.held q held))
  | inr last ↦ elim (held-at_zero v.tables n q c v.past (colour_of (last_frame v.past) q) last (x.before.held q held)) [
    | inl green ↦ stays-green v n q c m x.pair x.plan x.times x.sees x.gives held z green
    | inr red ↦
        let which : (ring_of v.tables q ≡ 1) ⊎ (ring_of v.tables q ≡ 2) = x.pair.rings q (coordinated-enabled v.tables n q held) in
        let same : q ≡ coordinated_phase v.tables n (ring_of v.tables q) = x.pair.alone q held in
        let frame : colour_of v.frame q ≡ Red = ap (λ (f : Frame). colour_of f q) x.gives.frame ∙ red.0 in
        let begins : is_in (ring_moves v).begins (coordinated_phase v.tables n (ring_of v.tables q)) ≡ true
        = held-begin v n (ring_of v.tables q) x.pair x.sees (at-zero v n c l past m x z last) which
        (subst (λ (y : ℕ). colour_of v.frame y ≡ Red) same frame) in
        x.gives.colours q (coordinated-enabled v.tables n q held) ∙ ap (colour_after (ring_moves v) q v.tables v.past) red.0
        ∙ ap (λ (b : Bool). if b then Green else Red) (subst (λ (y : ℕ). is_in (ring_moves v).begins y ≡ true) (sym same) begins)
  ]
]

held-kept : (v : View) (n c : ℕ) (l : Moment) (past : List Moment) (m : Moment) → Tick v n c l past m → (q : ℕ) → is_coordinated v.tables n q ≡ true
    → HeldStands v.tables n q v.counter (m ∷ v.past) (colour_of m.frame q)
held-kept v n c l past m x q held = elim (cases_lt v.counter 1) [
  | inl low ↦ subst (λ (y : Colour). HeldStands v.tables n q v.counter (m ∷ v.past) y) (sym (zero-green v n c l past m x (omega arith) q held)) tt
  | inr high ↦ by v.past (sym x.lasting) high (next-of v n q c m x.gives (coordinated-enabled v.tables n q held)) (x.before.held q held)
]
  where
    by : (ms : List Moment) → l ∷ past ≡ ms → 1 ≤ v.counter → Next v.tables n q c v.counter (ring_moves v) ms m
        → HeldStands v.tables n q c ms (colour_of (last_frame ms) q)
        → HeldStands v.tables n q v.counter (m ∷ ms) (colour_of m.frame q)
    by ms is high next stands =
        subst (λ (ys : List Moment). HeldStands v.tables n q v.counter (m ∷ ys) (colour_of m.frame q)) is
        (held-step v.tables n q c v.counter (ring_moves v) l past m (x.times.held q held) (x.times.yellow q (coordinated-enabled v.tables n q held)) high
        (held-moves v n q x.pair x.plan x.sees held)
        (subst (λ (ys : List Moment). Next v.tables n q c v.counter (ring_moves v) ys m) (sym is) next)
        (subst (λ (ys : List Moment). HeldStands v.tables n q c ys (colour_of (last_frame ys) q)) (sym is) stands))

-- one tick of a pattern keeps all of it
pub tick-keeps : (v : View) (n c : ℕ) (l : Moment) (past : List Moment) (m : Moment) → HoldsPair v.tables n → PlanServes v.tables n → TimesServe v.tables n
    → Sees v n → Gives v n c m → v.past ≡ l ∷ past → InTime v.tables n c v.past → Kept v n m
tick-keeps v n c l past m pair plan times sees gives lasting before =
    let x : Tick v n c l past m = record { pair = pair; plan = plan; times = times; sees = sees; gives = gives; lasting = lasting; before = before } in
    record {
      in_time = record {
        others = λ p e other s. other-kept v n c l past m x p e other s;
        held = λ q held. held-kept v n c l past m x q held;
        omitted = λ p e other o. red-stays v n p c m sees gives e o (before.omitted p e other o);
      };
      zero = λ z. record {
        held = λ q held. zero-green v n c l past m x z q held;
        others = λ p e other. elim (cases_Bool (is_omitted v.tables n p)) [
          | inl o ↦ red-stays v n p c m sees gives e o (before.omitted p e other o)
          | inr s ↦ other-red v.tables n p v.counter (m ∷ v.past) (colour_of m.frame p) pair.window z (other-kept v n c l past m x p e other s)
        ];
      };
    }

-- at a pickup, with both held phases Green and every other Red, all of it holds at counter 0
pub picked-up : (t : Tables) (n : ℕ) (l : Moment) (past : List Moment) → ZeroHolds t n l → InTime t n 0 (l ∷ past)
picked-up t n l past z = record {
  others = λ p e other s. subst (λ (y : Colour). OtherStands t n p 0 (l ∷ past) y) (sym (z.others p e other)) tt;
  held = λ q held. subst (λ (y : Colour). HeldStands t n q 0 (l ∷ past) y) (sym (z.held q held)) tt;
  omitted = λ p e other o. z.others p e other;
}
