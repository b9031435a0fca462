-- The moves of a tick in the pattern are those that the phases between two local zeros ask for.
use Rattle.std.proofs.Common.{◌≡◌, ◌≢◌, ◌⊎◌, inl, inr, ℕ, ◌+◌, ◌≤◌, ◌<◌, nat_le, Bool, true, false, not, ◌&&◌, ◌||◌, ◌==◌, if◌then◌else◌, List, [], ◌∷◌, max, Option, Some, refl, sym, ◌∙◌, ap, subst, arith}
use Rattle.std.proofs.lemmas.Bool.{cases_Bool, both_ways, false≢true, and_parts, and_from, leb-true}
use Rattle.std.proofs.lemmas.Bool.Decides.{Decides-eqb}
use Rattle.sig_types.specs.declared.frame.Colour.{Colour}
use Rattle.sig_types.specs.declared.frame.Colour.TheVariants.{Green, Yellow, Clear, Red}
use Rattle.sig_types.specs.Phases.{is_in, some, first}
use Rattle.sig_types.specs.Colour.{same_colour, colour_of}
use Rattle.sig_types.proofs.Lists.{in-append, in-first, in-or_else, in-head, in-cons}
use Rattle.sig_tables.specs.declared.tables.Tables.{Tables}
use Rattle.sig_tables.specs.Tables.{ring_of, is_enabled, clearance, has_dual_entry}
use Rattle.sig_tables.specs.Sides.{are_of_one_side, ring_phases, sides}
use Rattle.sig_tables.specs.Looking.{last_frame, latest_on}
use Rattle.sig_tables.specs.Slots.{is_coordinated, coordinated_phase, window, force_point, least_service}
use Rattle.sig_tables.specs.Modes.{bound}
use Rattle.sig_tables.specs.Splits.{omits}
use Rattle.sig_tables.specs.Coordinating.{has_room, fits, is_forced_off, is_released, extension_of}
use Rattle.sig_tables.specs.View.{View, on_phase, is_open, other_ring, later, earlier, present_side, present_side_of, has_room_in, is_wanted, is_startable, is_served, can_begin, elsewhere, is_reasoned, has_reason, is_forced, clearance_of, greatest_clearance}
use Rattle.sig_tables.specs.Moves.{beginning_in, from_side, can_enter, can_join, entering, stays_in_side, beginning_of, is_free_to_leave, is_to_end, is_ended, ending_in, ring_moves}
use Rattle.sig_tables.proofs.Below.{coordinated-enabled}
use Rattle.std.proofs.lemmas.Bool.{le-leb}
use Rattle.tick_laws.specs.Cycle.{Fits}
use Rattle.tick_laws.specs.Phases.{OtherMoves, HeldMoves, FitsAfter}
use Rattle.tick_laws.specs.Zero.{HoldsPair, PlanServes, Sees}
use Rattle.tick_laws.proofs.Finding.{in-left, in-right, passes-some}
use Rattle.tick_laws.proofs.Entering.{lies, later-present, earlier-present}
use Rattle.tick_laws.proofs.Beginning.{some-phase}
use Rattle.std.proofs.Math.Nat.{le_refl}

-- what begins has room
room-of-wanted : (v : View) (k q : ℕ) → is_wanted v k q ≡ true → has_room_in v k q ≡ true
room-of-wanted v k q h = by (is_in v.demand q) h
  where
    by : (b : Bool) → (if b then has_room_in v k q else false) ≡ true → has_room_in v k q ≡ true
    by true e = e
    by false e = absurd (false≢true e)

room-of-beginner : (v : View) (q : ℕ) → can_begin v q ≡ true → has_room_in v 0 q ≡ true
room-of-beginner v q h = room-of-wanted v 0 q (and_parts (is_wanted v 0 q) (is_startable v q) h).0

room-of-joiner : (v : View) (q : ℕ) → can_join v q ≡ true → has_room_in v 0 q ≡ true
room-of-joiner v q h =
    let a = and_parts (has_dual_entry v.tables q && not (omits (bound v.mode) v.tables q) && has_room_in v 0 q) (is_startable v q) h in
    (and_parts (has_dual_entry v.tables q && not (omits (bound v.mode) v.tables q)) (has_room_in v 0 q) a.0).1

in-beginning_in : (v : View) (k r q : ℕ) → is_in (beginning_in v k r) q ≡ true → has_room_in v 0 q ≡ true
in-beginning_in v k r q h = elim (in-or_else (first (can_begin v) (later v r)) (if elsewhere v k then [] else first (can_begin v) (earlier v r)) q h) [
  | inl a ↦ room-of-beginner v q (in-first (can_begin v) (later v r) q a).0
  | inr b ↦ rest (elsewhere v k) b
]
  where
    rest : (b : Bool) → is_in (if b then [] else first (can_begin v) (earlier v r)) q ≡ true → has_room_in v 0 q ≡ true
    rest true e = absurd (false≢true e)
    rest false e = room-of-beginner v q (in-first (can_begin v) (earlier v r) q e).0

in-entering : (v : View) (heads : List ℕ) (r q : ℕ) → is_in (entering v heads r) q ≡ true → has_room_in v 0 q ≡ true
in-entering v [] r q h = absurd (false≢true h)
in-entering v (s ∷ rest) r q h =
    elim (in-or_else (first (can_begin v) (ring_phases v.tables v.sequence s r)) (first (can_join v) (ring_phases v.tables v.sequence s r)) q h) [
      | inl a ↦ room-of-beginner v q (in-first (can_begin v) (ring_phases v.tables v.sequence s r) q a).0
      | inr b ↦ room-of-joiner v q (in-first (can_join v) (ring_phases v.tables v.sequence s r) q b).0
    ]

in-beginning_of : (v : View) (r q : ℕ) → is_in (beginning_of v r) q ≡ true → has_room_in v 0 q ≡ true
in-beginning_of v r q h = by (is_open v r) (is_open v (other_ring r)) (stays_in_side v) h
  where
    by : (a b c : Bool)
        → is_in (if a then (if b then (if c then beginning_in v 0 r else entering v
        (first (can_enter v) (from_side v.tables (present_side v) (sides v.tables v.sequence) [])) r) else beginning_in v
        (greatest_clearance v) r) else []) q ≡ true
        → has_room_in v 0 q ≡ true
    by true true true e = in-beginning_in v 0 r q e
    by true true false e = in-entering v _ r q e
    by true false c e = in-beginning_in v (greatest_clearance v) r q e
    by false b c e = absurd (false≢true e)

pub begins-room : (v : View) (q : ℕ) → is_in (ring_moves v).begins q ≡ true → has_room_in v 0 q ≡ true
begins-room v q h = elim (in-append (beginning_of v 1) (beginning_of v 2) q h) [
  | inl a ↦ in-beginning_of v 1 q a
  | inr b ↦ in-beginning_of v 2 q b
]

-- room for a phase that is not held is that it fits
pub room-fits : (b : Option ℕ) (t : Tables) (n d k q : ℕ) → b ≡ Some n → is_coordinated t n q ≡ false → has_room b t d k q ≡ true
    → Fits (window t n) (force_point t n q) (least_service t q) d k
room-fits b t n d k q e other h =
    let room : has_room (Some n) t d k q ≡ true = subst (λ (x : Option ℕ). has_room x t d k q ≡ true) e h in
    let fit : fits t n d k q ≡ true = rw other at room in
    let parts = and_parts (nat_le (d + k + least_service t q) (force_point t n q)) (nat_le (window t n) d) fit in
    record { after = leb-true (window t n) d parts.1; room = leb-true (d + k + least_service t q) (force_point t n q) parts.0 }

-- a Green phase that is not held is forced off at its force point
forced-ends : (v : View) (n r p : ℕ) → Sees v n → on_phase v r ≡ p → is_enabled v.tables p ≡ true → is_coordinated v.tables n p ≡ false
    → colour_of v.frame p ≡ Green → force_point v.tables n p ≤ v.counter → is_in (ending_in v r) p ≡ true
forced-ends v n r p sees on e other green late =
    let off : is_forced_off (bound v.mode) v.tables v.counter p ≡ true = past (bound v.mode) sees.bound in
    let forced : is_forced v p ≡ true
    = and_from (is_enabled v.tables p && same_colour (colour_of v.frame p) Green) (is_forced_off (bound v.mode) v.tables v.counter p)
    (and_from (is_enabled v.tables p) (same_colour (colour_of v.frame p) Green) e (ap (λ (x : Colour). same_colour x Green) green)) off in
    subst (λ (x : ℕ). is_in (if is_forced v x || is_ended v r x then x ∷ [] else []) p ≡ true) (sym on) (taken (is_forced v p) (is_ended v r p) forced)
  where
    past : (b : Option ℕ) → b ≡ Some n → is_forced_off b v.tables v.counter p ≡ true
    past b f = rw (f, other) (le-leb (force_point v.tables n p) v.counter late)

    taken : (a b : Bool) → a ≡ true → is_in (if a || b then p ∷ [] else []) p ≡ true
    taken a b f = rw f (in-head p [])

-- so the moves are those that a phase asks for that the pattern does not hold
pub other-moves : (v : View) (n p : ℕ) → HoldsPair v.tables n → Sees v n → v.frame ≡ last_frame v.past → is_enabled v.tables p ≡ true
    → is_coordinated v.tables n p ≡ false → OtherMoves v.tables n p v.counter (ring_moves v) v.past
other-moves v n p pair sees frame e other = record {
  forced = λ green late.
      let here : colour_of v.frame p ≡ Green = ap (λ f. colour_of f p) frame ∙ green in
      let on : on_phase v (ring_of v.tables p) ≡ p = sees.placed p e (λ red. false≢true (ap (λ (x : Colour). same_colour x Green) (sym red ∙ here))) in
      elim (pair.rings p e) [
        | inl one ↦ in-left (ending_in v 1) (ending_in v 2) p (forced-ends v n 1 p sees (subst (λ (x : ℕ). on_phase v x ≡ p) one on) e other here late)
        | inr two ↦ in-right (ending_in v 1) (ending_in v 2) p (forced-ends v n 2 p sees (subst (λ (x : ℕ). on_phase v x ≡ p) two on) e other here late)
      ];
  fits = λ begins. room-fits (bound v.mode) v.tables n v.counter 0 p sees.bound other (begins-room v p begins);
}

-- what is held and ends: the ring ends it, for a phase that is wanted after its clearance or after the greatest
record Ended (v : View) (r q : ℕ) : Type 0 where
  on : on_phase v r ≡ q
  ends : is_ended v r q ≡ true

held-unforced : (v : View) (n q : ℕ) → Sees v n → is_coordinated v.tables n q ≡ true → is_forced v q ≡ false
held-unforced v n q sees held = none (is_enabled v.tables q && same_colour (colour_of v.frame q) Green)
    (is_forced_off (bound v.mode) v.tables v.counter q) (off (bound v.mode) sees.bound)
  where
    off : (b : Option ℕ) → b ≡ Some n → is_forced_off b v.tables v.counter q ≡ false
    off b e = rw (e, held) refl

    none : (a b : Bool) → b ≡ false → (a && b) ≡ false
    none true b e = e
    none false b e = refl

in-ending : (v : View) (n r q : ℕ) → Sees v n → is_coordinated v.tables n q ≡ true → is_in (ending_in v r) q ≡ true → Ended v r q
in-ending v n r q sees held h = by (is_forced v (on_phase v r)) (is_ended v r (on_phase v r)) refl refl h
  where
    by : (a b : Bool) → is_forced v (on_phase v r) ≡ a → is_ended v r (on_phase v r) ≡ b → is_in (if a || b then on_phase v r ∷ [] else []) q ≡ true
        → Ended v r q
    by true b e f k = elim (in-cons (on_phase v r) [] q k) [
      | inl same ↦ absurd (both_ways (is_forced v q) (held-unforced v n q sees held) (subst (λ (x : ℕ). is_forced v x ≡ true) (sym same) e))
      | inr none ↦ absurd (false≢true none)
    ]
    by false true e f k = elim (in-cons (on_phase v r) [] q k) [
      | inl same ↦ record { on = sym same; ends = subst (λ (x : ℕ). is_ended v r x ≡ true) (sym same) f }
      | inr none ↦ absurd (false≢true none)
    ]
    by false false e f k = absurd (false≢true k)

-- it is Green, and its force point is reached
record Reasoned (v : View) (n q : ℕ) : Type 0 where
  green : colour_of v.frame q ≡ Green
  past : force_point v.tables n q ≤ v.counter

reasoned : (v : View) (n q : ℕ) → Sees v n → is_coordinated v.tables n q ≡ true → has_reason v q ≡ true → Reasoned v n q
reasoned v n q sees held h =
    let a = and_parts (is_enabled v.tables q && same_colour (colour_of v.frame q) Green) (is_reasoned (bound v.mode) v q) h in
    let b = and_parts (is_enabled v.tables q) (same_colour (colour_of v.frame q) Green) a.0 in
    let released : is_reasoned (Some n) v q ≡ true = subst (λ (x : Option ℕ). is_reasoned x v q ≡ true) sees.bound a.1 in
    let late : is_released v.tables n v.counter v.active q ≡ true = rw held at released in
    let le : force_point v.tables n q + extension_of v.tables v.active ≤ v.counter = leb-true _ _ late in
    record { green = is-green _ b.1; past = through _ _ _ le }
  where
    is-green : (c : Colour) → same_colour c Green ≡ true → c ≡ Green
    is-green Green e = refl
    is-green Yellow e = absurd (false≢true e)
    is-green Clear e = absurd (false≢true e)
    is-green Red e = absurd (false≢true e)

    through : (a b c : ℕ) → a + b ≤ c → a ≤ c
    through a b c h = omega arith

-- the phase that it ends for: another one, not held
record EndsFor (v : View) (n q : ℕ) : Type 0 where
  phase : ℕ
  wait : ℕ
  wanted : is_wanted v wait phase ≡ true
  clears : clearance v.tables q ≤ wait
  other : is_coordinated v.tables n phase ≡ false

pub wanted-demanded : (v : View) (k x : ℕ) → is_wanted v k x ≡ true → is_in v.demand x ≡ true
wanted-demanded v k x h = by (is_in v.demand x) h
  where
    by : (b : Bool) → (if b then has_room_in v k x else false) ≡ true → b ≡ true
    by true e = refl
    by false e = e

-- one of its own ring
same-ring : (v : View) (n r q x k : ℕ) → HoldsPair v.tables n → Sees v n → is_coordinated v.tables n q ≡ true → colour_of v.frame q ≡ Green
    → ring_of v.tables q ≡ r → ring_of v.tables x ≡ r → is_wanted v k x ≡ true → is_coordinated v.tables n x ≡ false
same-ring v n r q x k pair sees held green rq rx wanted = elim (cases_Bool (is_coordinated v.tables n x)) [
  | inr c ↦ c
  | inl c ↦
      let same : x ≡ q = pair.alone x c ∙ ap (coordinated_phase v.tables n) (rx ∙ sym rq) ∙ sym (pair.alone q held) in
      let red : colour_of v.frame x ≡ Red = (sees.demanded x (wanted-demanded v k x wanted)).1 in
      absurd (false≢true (ap (λ (y : Colour). same_colour y Green) (sym red ∙ ap (colour_of v.frame) same ∙ green)))
]

-- a ring with a Green phase is not open, and the present side is that of the held phase
closed-ring : (v : View) (n r q : ℕ) → Sees v n → on_phase v r ≡ q → 0 < q → colour_of v.frame q ≡ Green → is_open v r ≡ false
closed-ring v n r q sees on some green = subst (λ (x : ℕ). (x == 0 || is_in v.ended x) ≡ false) (sym on) (shut (q == 0) refl)
  where
    shut : (b : Bool) → (q == 0) ≡ b → (b || is_in v.ended q) ≡ false
    shut true e = absurd (let z : q ≡ 0 = (Decides-eqb q 0).0 e in omega arith)
    shut false e = sees.runs q green

present-held : (v : View) (n r q : ℕ) → HoldsPair v.tables n → Sees v n → is_coordinated v.tables n q ≡ true → on_phase v r ≡ q → 0 < q
    → colour_of v.frame q ≡ Green
    → (r ≡ 1) ⊎ (r ≡ 2) → are_of_one_side v.tables (present_side v) q ≡ true
present-held v n r q pair sees held on some green (inl one) =
    let on1 : on_phase v 1 ≡ q = subst (λ (x : ℕ). on_phase v x ≡ q) one on in
    let closed : is_open v 1 ≡ false = closed-ring v n 1 q sees on1 some green in
    let is : present_side v ≡ on_phase v 1 = first-ring (is_open v 1) closed in
    subst (λ (x : ℕ). are_of_one_side v.tables x q ≡ true) (sym (is ∙ on1)) (pair.side q q held held)
  where
    first-ring : (a : Bool) → a ≡ false
        → (if a then (if is_open v 2 then present_side_of v (latest_on v.past) else on_phase v 2) else on_phase v 1) ≡ on_phase v 1
    first-ring a e = rw e refl
present-held v n r q pair sees held on some green (inr two) =
    let on2 : on_phase v 2 ≡ q = subst (λ (x : ℕ). on_phase v x ≡ q) two on in
    by (is_open v 1) refl (closed-ring v n 2 q sees on2 some green) on2
  where
    by : (a : Bool) → is_open v 1 ≡ a → is_open v 2 ≡ false → on_phase v 2 ≡ q
        → are_of_one_side v.tables (if a then (if is_open v 2 then present_side_of v (latest_on v.past) else on_phase v 2) else on_phase v 1) q ≡ true
    by true e closed on2 = subst (λ (b : Bool). are_of_one_side v.tables (if b then present_side_of v (latest_on v.past) else on_phase v 2) q ≡ true)
        (sym closed)
        (subst (λ (x : ℕ). are_of_one_side v.tables x q ≡ true) (sym on2) (pair.side q q held held))
    by false e closed on2 = subst (λ (x : ℕ). are_of_one_side v.tables (on_phase v 1) x ≡ true) on2
        (sees.beside (shown (on_phase v 1) (is_in v.ended (on_phase v 1)) e) (λ z. (let zero : q ≡ 0 = sym on2 ∙ z in omega arith)))
      where
        shown : (x : ℕ) (b : Bool) → (x == 0 || b) ≡ false → x ≢ 0
        shown x b f z = false≢true (sym f ∙ ap (λ (y : ℕ). y == 0 || b) z)

greatest-holds : (v : View) (r q : ℕ) → (r ≡ 1) ⊎ (r ≡ 2) → on_phase v r ≡ q → 0 < q → clearance v.tables q ≤ greatest_clearance v
greatest-holds v r q which on some = by which
  where
    own : clearance_of v.tables q ≡ clearance v.tables q
    own = pick (q == 0) refl
      where
        pick : (b : Bool) → (q == 0) ≡ b → (if b then 0 else clearance v.tables q) ≡ clearance v.tables q
        pick true e = absurd (let z : q ≡ 0 = (Decides-eqb q 0).0 e in omega arith)
        pick false e = refl

    first : (a b c : ℕ) → a ≡ c → c ≤ max a b
    first a b c e = omega arith

    second : (a b c : ℕ) → b ≡ c → c ≤ max a b
    second a b c e = omega arith

    by : (r ≡ 1) ⊎ (r ≡ 2) → clearance v.tables q ≤ max (clearance_of v.tables (on_phase v 1)) (clearance_of v.tables (on_phase v 2))
    by (inl one) = first _ _ _ (ap (clearance_of v.tables) (subst (λ (x : ℕ). on_phase v x ≡ q) one on) ∙ own)
    by (inr two) = second _ _ _ (ap (clearance_of v.tables) (subst (λ (x : ℕ). on_phase v x ≡ q) two on) ∙ own)

ends-for : (v : View) (n r q : ℕ) → HoldsPair v.tables n → Sees v n → is_coordinated v.tables n q ≡ true → on_phase v r ≡ q → 0 < q
    → colour_of v.frame q ≡ Green
    → ring_of v.tables q ≡ r → (r ≡ 1) ⊎ (r ≡ 2) → is_to_end v r q ≡ true → EndsFor v n q
ends-for v n r q pair sees held on above green ring which h = by (some (is_wanted v (clearance v.tables q)) (later v r)) refl
    (elsewhere v (greatest_clearance v)) refl h
  where
    by : (a : Bool) → some (is_wanted v (clearance v.tables q)) (later v r) ≡ a → (b : Bool) → elsewhere v (greatest_clearance v) ≡ b
        → (if not a then (if b then is_free_to_leave v (other_ring r) else some (λ x. not (x == q) && is_wanted v (clearance v.tables q) x)
        (earlier v r)) else true) ≡ true
        → EndsFor v n q
    by true e b f k =
        let x = passes-some (is_wanted v (clearance v.tables q)) (later v r) e in
        record {
          phase = x.0;
          wait = clearance v.tables q;
          wanted = x.2;
          clears = le_refl (clearance v.tables q);
          other = same-ring v n r q x.0 (clearance v.tables q) pair sees held green ring (lies v (present_side v) r x.0 (later-present v r x.0 x.1)).ring x.2;
        }
    by false e false f k =
        let x = passes-some (λ x. not (x == q) && is_wanted v (clearance v.tables q) x) (earlier v r) k in
        let wanted : is_wanted v (clearance v.tables q) x.0 ≡ true = (and_parts (not (x.0 == q)) (is_wanted v (clearance v.tables q) x.0) x.2).1 in
        record {
          phase = x.0;
          wait = clearance v.tables q;
          wanted = wanted;
          clears = le_refl (clearance v.tables q);
          other = same-ring v n r q x.0 (clearance v.tables q) pair sees held green ring
              (lies v (present_side v) r x.0 (earlier-present v r x.0 x.1)).ring wanted;
        }
    by false e true f k =
        let x = passes-some (λ x. not (are_of_one_side v.tables (present_side v) x) && is_wanted v (greatest_clearance v) x) v.demand f in
        let parts = and_parts (not (are_of_one_side v.tables (present_side v) x.0)) (is_wanted v (greatest_clearance v) x.0) x.2 in
        record {
          phase = x.0;
          wait = greatest_clearance v;
          wanted = parts.1;
          clears = greatest-holds v r q which on above;
          other = elim (cases_Bool (is_coordinated v.tables n x.0)) [
            | inr c ↦ c
            | inl c ↦
                let one : are_of_one_side v.tables (present_side v) x.0 ≡ true
                = pair.joined (present_side v) q x.0 (present-held v n r q pair sees held on above green which) (pair.side q x.0 held c) in
                absurd (false≢true (subst (λ (b : Bool). not b ≡ true) one parts.0))
          ];
        }

-- so the moves are those that a held phase asks for
pub held-moves : (v : View) (n q : ℕ) → HoldsPair v.tables n → PlanServes v.tables n → Sees v n → is_coordinated v.tables n q ≡ true
    → HeldMoves v.tables n q v.counter (ring_moves v)
held-moves v n q pair plan sees held = record {
  past = λ ends. (reason ends).past;
  other = λ ends. elim (which ends) [
    | inl x ↦ fits-after 1 (inl refl) x
    | inr x ↦ fits-after 2 (inr refl) x
  ];
}
  where
    which : is_in (ring_moves v).ends q ≡ true → Ended v 1 q ⊎ Ended v 2 q
    which ends = elim (in-append (ending_in v 1) (ending_in v 2) q ends) [
      | inl a ↦ inl (in-ending v n 1 q sees held a)
      | inr b ↦ inr
          (in-ending v n 2 q sees held b)
    ]

    reason-of : (r : ℕ) → Ended v r q → Reasoned v n q
    reason-of r x = reasoned v n q sees held (and_parts (has_reason v q) (is_to_end v r q)
        (and_parts (has_reason v q && is_to_end v r q) (is_served v.tables v.past q) x.ends).0).0

    reason : is_in (ring_moves v).ends q ≡ true → Reasoned v n q
    reason ends = elim (which ends) [ inl x ↦ reason-of 1 x | inr x ↦ reason-of 2 x ]

    fits-after : (r : ℕ) → (r ≡ 1) ⊎ (r ≡ 2) → Ended v r q → FitsAfter v.tables n q v.counter
    fits-after r w x =
        let e : is_enabled v.tables q ≡ true = coordinated-enabled v.tables n q held in
        let green : colour_of v.frame q ≡ Green = (reason-of r x).green in
        let to_end : is_to_end v r q ≡ true = (and_parts (has_reason v q) (is_to_end v r q)
        (and_parts (has_reason v q && is_to_end v r q) (is_served v.tables v.past q) x.ends).0).1 in
        let some : 0 < q = some-phase v.tables q e in
        let ring : ring_of v.tables q ≡ r = elim (sees.named r w) [
          | inl none ↦ absurd (let z : q ≡ 0 = sym x.on ∙ none in omega arith)
          | inr h ↦ subst (λ (y : ℕ). ring_of v.tables y ≡ r) x.on h.2
        ] in
        let y : EndsFor v n q = ends-for v n r q pair sees held x.on some green ring w to_end in
        let d = sees.demanded y.phase (wanted-demanded v y.wait y.phase y.wanted) in
        record {
          phase = y.phase;
          other = plan.other y.phase d.0 y.other d.2;
          wait = y.wait;
          clears = y.clears;
          fits = room-fits (bound v.mode) v.tables n v.counter y.wait y.phase sees.bound y.other (room-of-wanted v y.wait y.phase y.wanted);
          revert = plan.revert q y.phase e d.0 (λ same. both_ways (is_coordinated v.tables n y.phase) y.other
              (subst (λ (z : ℕ). is_coordinated v.tables n z ≡ true) same held));
        }
