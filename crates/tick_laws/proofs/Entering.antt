-- At local zero both held phases are Green: those that are not begin.
use Rattle.std.proofs.Common.{◌≡◌, ◌⊎◌, inl, inr, ℕ, ◌+◌, ◌≤◌, nat_le, Bool, true, false, not, ◌&&◌, ◌||◌, ◌==◌, if◌then◌else◌, List, [], Option, Some, refl, sym, ◌∙◌, ap, subst, arith}
use Rattle.std.proofs.lemmas.Bool.{cases_Bool, both_ways, false≢true, and_parts, and_from, leb-true}
use Rattle.std.proofs.lemmas.Bool.Decides.{Decides-eqb}
use Rattle.sig_types.specs.declared.frame.Colour.TheVariants.{Red}
use Rattle.sig_types.specs.Phases.{is_in, some, first, or_else}
use Rattle.sig_types.specs.Colour.{colour_of}
use Rattle.sig_types.proofs.Lists.{in-those}
use Rattle.sig_tables.specs.declared.tables.Tables.{Tables}
use Rattle.sig_tables.specs.Tables.{ring_of, is_enabled, order_of}
use Rattle.sig_tables.specs.Sides.{are_of_one_side, ring_phases, sides}
use Rattle.sig_tables.specs.Slots.{is_coordinated, coordinated_phase, window, force_point, least_service}
use Rattle.sig_tables.specs.Looking.{last_on}
use Rattle.sig_tables.specs.Modes.{bound}
use Rattle.sig_tables.specs.Coordinating.{has_room, fits}
use Rattle.sig_tables.specs.View.{View, present_side, present, later, earlier, is_wanted, is_startable, can_begin, elsewhere}
use Rattle.sig_tables.specs.Moves.{beginning_in, from_side, can_enter, entering_in, entering, stays_in_side, beginning_both}
use Rattle.sig_tables.proofs.Below.{coordinated-enabled}
use Rattle.tick_laws.specs.Zero.{HoldsPair, Sees}
use Rattle.tick_laws.proofs.Finding.{finds-only, finds-none, some-passes, none-passes, passes-some, finds-some, in-those-of, or_else-left, later-or-earlier, heads-of, in-from_side}

-- at counter 0 there is room only for a held phase
room-held : (b : Option ℕ) (t : Tables) (n k q : ℕ) → b ≡ Some n → is_coordinated t n q ≡ true → has_room b t 0 k q ≡ true
room-held b t n k q e h = rw (e, h) refl

pub held-room : (b : Option ℕ) (t : Tables) (n k q : ℕ) → b ≡ Some n → 1 ≤ window t n → has_room b t 0 k q ≡ true → is_coordinated t n q ≡ true
held-room b t n k q e some h = elim (cases_Bool (is_coordinated t n q)) [
  | inl c ↦ c
  | inr c ↦
      let room : has_room (Some n) t 0 k q ≡ true = subst (λ (x : Option ℕ). has_room x t 0 k q ≡ true) e h in
      let fit : fits t n 0 k q ≡ true = rw c at room in
      let late : window t n ≤ 0 = leb-true (window t n) 0 (and_parts (nat_le (0 + k + least_service t q) (force_point t n q)) (nat_le (window t n) 0) fit).1 in
      absurd (omega arith)
]

-- what is wanted or begins at local zero is held
wanted-held : (v : View) (n k q : ℕ) → HoldsPair v.tables n → Sees v n → v.counter ≡ 0 → is_wanted v k q ≡ true → is_coordinated v.tables n q ≡ true
wanted-held v n k q pair sees zero h = by (is_in v.demand q) h
  where
    by : (b : Bool) → (if b then has_room (bound v.mode) v.tables v.counter k q else false) ≡ true → is_coordinated v.tables n q ≡ true
    by true e = held-room (bound v.mode) v.tables n k q sees.bound pair.window (subst (λ (c : ℕ). has_room (bound v.mode) v.tables c k q ≡ true) zero e)
    by false e = absurd (false≢true e)

begins-held : (v : View) (n q : ℕ) → HoldsPair v.tables n → Sees v n → v.counter ≡ 0 → can_begin v q ≡ true → is_coordinated v.tables n q ≡ true
begins-held v n q pair sees zero h = wanted-held v n 0 q pair sees zero (and_parts (is_wanted v 0 q) (is_startable v q) h).0

-- a held phase that is Red is wanted, and begins where it may
held-wanted : (v : View) (n k q : ℕ) → Sees v n → v.counter ≡ 0 → is_coordinated v.tables n q ≡ true → colour_of v.frame q ≡ Red → is_wanted v k q ≡ true
held-wanted v n k q sees zero held red =
    rw (sees.called q held red) (subst (λ (c : ℕ). has_room (bound v.mode) v.tables c k q ≡ true) (sym zero)
    (room-held (bound v.mode) v.tables n k q sees.bound held))

held-begins : (v : View) (n q : ℕ) → Sees v n → v.counter ≡ 0 → is_coordinated v.tables n q ≡ true → colour_of v.frame q ≡ Red
    → is_startable v q ≡ true → can_begin v q ≡ true
held-begins v n q sees zero held red may = and_from (is_wanted v 0 q) (is_startable v q) (held-wanted v n 0 q sees zero held red) may

-- the phases of a ring and a side
in-ring_phases : (v : View) (n s r q : ℕ) → HoldsPair v.tables n → Sees v n → is_enabled v.tables q ≡ true → ring_of v.tables q ≡ r
    → are_of_one_side v.tables s q ≡ true
    → is_in (ring_phases v.tables v.sequence s r) q ≡ true
in-ring_phases v n s r q pair sees e ring side =
    in-those-of (λ x. ring_of v.tables x == r && are_of_one_side v.tables s x) (order_of v.tables v.sequence r) q
    (subst (λ (x : ℕ). is_in (order_of v.tables x r) q ≡ true) (sym sees.sequence) (pair.listed q r e ring))
    (and_from (ring_of v.tables q == r) (are_of_one_side v.tables s q) ((Decides-eqb _ _).1 ring) side)

pub record Lies (v : View) (s r q : ℕ) : Type 0 where
  pub ring : ring_of v.tables q ≡ r
  pub side : are_of_one_side v.tables s q ≡ true

pub lies : (v : View) (s r q : ℕ) → is_in (ring_phases v.tables v.sequence s r) q ≡ true → Lies v s r q
lies v s r q h =
    let k = and_parts (ring_of v.tables q == r) (are_of_one_side v.tables s q)
    (in-those (λ x. ring_of v.tables x == r && are_of_one_side v.tables s x) (order_of v.tables v.sequence r) q h).0 in
    record { ring = (Decides-eqb _ _).0 k.0; side = k.1 }

-- the later and the earlier phases are of the present side
pub later-present : (v : View) (r q : ℕ) → is_in (later v r) q ≡ true → is_in (present v r) q ≡ true
later-present v r q h = by (is_in (present v r) (last_on r v.past)) h
  where
    by : (b : Bool) → is_in (if b then Rattle.sig_types.specs.Phases.after (last_on r v.past) (present v r) else present v r) q ≡ true
        → is_in (present v r) q ≡ true
    by true k = Rattle.sig_types.proofs.Lists.in-after (last_on r v.past) (present v r) q k
    by false k = k

pub earlier-present : (v : View) (r q : ℕ) → is_in (earlier v r) q ≡ true → is_in (present v r) q ≡ true
earlier-present v r q h = by (is_in (present v r) (last_on r v.past)) h
  where
    by : (b : Bool) → is_in (if b then Rattle.sig_types.specs.Phases.up_to (last_on r v.past) (present v r) else []) q ≡ true → is_in (present v r) q ≡ true
    by true k = Rattle.sig_types.proofs.Lists.in-up_to (last_on r v.past) (present v r) q k
    by false k = absurd (false≢true k)

-- the held phase of ring r, Red at local zero, which may begin
pub record Comes (v : View) (n r q : ℕ) : Type 0 where
  pub pair : HoldsPair v.tables n
  pub sees : Sees v n
  pub zero : v.counter ≡ 0
  pub ring : ring_of v.tables q ≡ r
  pub held : is_coordinated v.tables n q ≡ true
  pub red : colour_of v.frame q ≡ Red
  pub may : is_startable v q ≡ true

comes-begins : (v : View) (n r q : ℕ) → Comes v n r q → can_begin v q ≡ true
comes-begins v n r q c = held-begins v n q c.sees c.zero c.held c.red c.may

-- what else of its ring begins is itself
comes-alone : (v : View) (n r q x : ℕ) → Comes v n r q → ring_of v.tables x ≡ r → can_begin v x ≡ true → x ≡ q
comes-alone v n r q x c ring b =
    let held : is_coordinated v.tables n x ≡ true = begins-held v n x c.pair c.sees c.zero b in
    c.pair.alone x held ∙ ap (λ (y : ℕ). coordinated_phase v.tables n y) (ring ∙ sym c.ring) ∙ sym (c.pair.alone q c.held)

-- no phase of a different side from that of a held one is wanted
none-elsewhere : (v : View) (n k r q : ℕ) → Comes v n r q → are_of_one_side v.tables (present_side v) q ≡ true → elsewhere v k ≡ false
none-elsewhere v n k r q c side =
    none-passes (λ x. not (are_of_one_side v.tables (present_side v) x) && is_wanted v k x) v.demand (λ x _ p.
    let parts = and_parts (not (are_of_one_side v.tables (present_side v) x)) (is_wanted v k x) p in
    let held : is_coordinated v.tables n x ≡ true = wanted-held v n k x c.pair c.sees c.zero parts.1 in
    let one : are_of_one_side v.tables (present_side v) x ≡ true = c.pair.joined (present_side v) q x side (c.pair.side q x c.held held) in
    false≢true (subst (λ (b : Bool). not b ≡ true) one parts.0))

-- in the present side the open ring begins it, as a later phase or as an earlier one
pub begins-present : (v : View) (n k r q : ℕ) → Comes v n r q → are_of_one_side v.tables (present_side v) q ≡ true → is_in (beginning_in v k r) q ≡ true
begins-present v n k r q c side =
    elim (later-or-earlier (present v r) (last_on r v.past) q
    (in-ring_phases v n (present_side v) r q c.pair c.sees (coordinated-enabled v.tables n q c.held) c.ring side)) [
      | inl h ↦ or_else-left _ _ q (finds-only (can_begin v) (later v r) q h (comes-begins v n r q c)
          (λ x i b. comes-alone v n r q x c (lies v (present_side v) r x (later-present v r x i)).ring b))
      | inr h ↦ elim (cases_Bool (is_in (later v r) q)) [
        | inl l ↦ or_else-left _ _ q (finds-only (can_begin v) (later v r) q l (comes-begins v n r q c)
            (λ x i b. comes-alone v n r q x c (lies v (present_side v) r x (later-present v r x i)).ring b))
        | inr l ↦
            let none : first (can_begin v) (later v r) ≡ [] = finds-none (can_begin v) (later v r) (λ x i b.
            let same : x ≡ q = comes-alone v n r q x c (lies v (present_side v) r x (later-present v r x i)).ring b in
            both_ways (is_in (later v r) q) l (subst (λ (y : ℕ). is_in (later v r) y ≡ true) same i)) in
            let here : is_in (first (can_begin v) (earlier v r)) q ≡ true
            = finds-only (can_begin v) (earlier v r) q h (comes-begins v n r q c)
            (λ x i b. comes-alone v n r q x c (lies v (present_side v) r x (earlier-present v r x i)).ring b) in
            subst (λ (xs : List ℕ). is_in (or_else xs (if elsewhere v k then [] else first (can_begin v) (earlier v r))) q ≡ true) (sym none)
            (subst (λ (b : Bool). is_in (if b then [] else first (can_begin v) (earlier v r)) q ≡ true) (sym (none-elsewhere v n k r q c side)) here)
      ]
    ]

-- a side that is entered is that of the held phases, and the ring begins its own
begins-entered : (v : View) (n r q s : ℕ) → Comes v n r q → are_of_one_side v.tables s q ≡ true → is_in (entering_in v s r) q ≡ true
begins-entered v n r q s c side =
    or_else-left _ _ q (finds-only (can_begin v) (ring_phases v.tables v.sequence s r) q
    (in-ring_phases v n s r q c.pair c.sees (coordinated-enabled v.tables n q c.held) c.ring side) (comes-begins v n r q c)
    (λ x i b. comes-alone v n r q x c (lies v s r x i).ring b))

-- some phase of the side of s can begin, so s is of the side of the held phases
enters-held : (v : View) (n r q s : ℕ) → Comes v n r q → can_enter v s ≡ true → are_of_one_side v.tables s q ≡ true
enters-held v n r q s c h = by (some (can_begin v) (ring_phases v.tables v.sequence s 1)) refl h
  where
    from : (r' : ℕ) → some (can_begin v) (ring_phases v.tables v.sequence s r') ≡ true → are_of_one_side v.tables s q ≡ true
    from r' e =
        let x = passes-some (can_begin v) (ring_phases v.tables v.sequence s r') e in
        let held : is_coordinated v.tables n x.0 ≡ true = begins-held v n x.0 c.pair c.sees c.zero x.2 in
        c.pair.joined s x.0 q (lies v s r' x.0 x.1).side (c.pair.side x.0 q held c.held)

    by : (b : Bool) → some (can_begin v) (ring_phases v.tables v.sequence s 1) ≡ b
        → (b || some (can_begin v) (ring_phases v.tables v.sequence s 2)) ≡ true → are_of_one_side v.tables s q ≡ true
    by true e k = from 1 e
    by false e k = from 2 k

held-enters : (v : View) (n r q s : ℕ) → Comes v n r q → (r ≡ 1) ⊎ (r ≡ 2) → are_of_one_side v.tables s q ≡ true → can_enter v s ≡ true
held-enters v n r q s c which side = by which (some-passes (can_begin v) (ring_phases v.tables v.sequence s r) q
    (in-ring_phases v n s r q c.pair c.sees (coordinated-enabled v.tables n q c.held) c.ring side) (comes-begins v n r q c))
  where
    left : (a b : Bool) → a ≡ true → (a || b) ≡ true
    left a b e = rw e refl

    right : (a b : Bool) → b ≡ true → (a || b) ≡ true
    right true b e = refl
    right false b e = e

    by : (r ≡ 1) ⊎ (r ≡ 2) → some (can_begin v) (ring_phases v.tables v.sequence s r) ≡ true → can_enter v s ≡ true
    by (inl one) e = left _ _ (subst (λ (x : ℕ). some (can_begin v) (ring_phases v.tables v.sequence s x) ≡ true) one e)
    by (inr two) e = right (some (can_begin v) (ring_phases v.tables v.sequence s 1)) _
        (subst (λ (x : ℕ). some (can_begin v) (ring_phases v.tables v.sequence s x) ≡ true) two e)

-- with both rings open, where the present side is that of the held phases, they stay in it
stays-there : (v : View) (n r q : ℕ) → Comes v n r q → are_of_one_side v.tables (present_side v) q ≡ true → stays_in_side v ≡ true
stays-there v n r q c side = rw (none-elsewhere v n 0 r q c side) (by (some (can_begin v) (later v 1)) (some (can_begin v) (later v 2)))
  where
    by : (a b : Bool) → (a || b || true) ≡ true
    by true b = refl
    by false true = refl
    by false false = refl

-- and where it is another, that side is left
leaves-side : (v : View) (n r q : ℕ) → Comes v n r q → are_of_one_side v.tables (present_side v) q ≡ false → stays_in_side v ≡ false
leaves-side v n r q c other =
    let one : some (can_begin v) (later v 1) ≡ false = none 1 in
    let two : some (can_begin v) (later v 2) ≡ false = none 2 in
    let there : elsewhere v 0 ≡ true = some-passes (λ x. not (are_of_one_side v.tables (present_side v) x) && is_wanted v 0 x) v.demand q
    (c.sees.called q c.held c.red)
    (and_from (not (are_of_one_side v.tables (present_side v) q)) (is_wanted v 0 q) (rw other refl) (held-wanted v n 0 q c.sees c.zero c.held c.red)) in
    ap (λ (x : Bool). x || some (can_begin v) (later v 2) || not (elsewhere v 0)) one
    ∙ ap (λ (x : Bool). x || not (elsewhere v 0)) two
    ∙ ap not there
  where
    none : (s : ℕ) → some (can_begin v) (later v s) ≡ false
    none s = none-passes (can_begin v) (later v s) (λ x i b.
        let held : is_coordinated v.tables n x ≡ true = begins-held v n x c.pair c.sees c.zero b in
        let one : are_of_one_side v.tables (present_side v) q ≡ true
        = c.pair.joined (present_side v) x q (lies v (present_side v) s x (later-present v s x i)).side (c.pair.side x q held c.held) in
        both_ways _ other one)

pub begins-both : (v : View) (n r q : ℕ) → Comes v n r q → (r ≡ 1) ⊎ (r ≡ 2) → is_in (beginning_both v r) q ≡ true
begins-both v n r q c which = elim (cases_Bool (are_of_one_side v.tables (present_side v) q)) [
  | inl side ↦
      subst (λ (b : Bool). is_in (if b then beginning_in v 0 r else entering v
      (first (can_enter v) (from_side v.tables (present_side v) (sides v.tables v.sequence) [])) r) q ≡ true)
      (sym (stays-there v n r q c side)) (begins-present v n 0 r q c side)
  | inr other ↦
      let one : ℕ = coordinated_phase v.tables n 1 in
      let held : is_coordinated v.tables n one ≡ true = c.pair.held 1 (inl refl) in
      let listed : is_in (order_of v.tables v.sequence 1) one ≡ true
      = subst (λ (x : ℕ). is_in (order_of v.tables x 1) one ≡ true) (sym c.sees.sequence)
      (c.pair.listed one 1 (coordinated-enabled v.tables n one held) (c.pair.ring 1 (inl refl))) in
      let head = heads-of v.tables (order_of v.tables v.sequence 1) one listed (c.pair.side one one held held) c.pair.joined in
      let side : are_of_one_side v.tables head.0 q ≡ true = c.pair.joined head.0 one q head.2 (c.pair.side one q held c.held) in
      let tried : is_in (from_side v.tables (present_side v) (sides v.tables v.sequence) []) head.0 ≡ true
      = in-from_side v.tables (present_side v) (sides v.tables v.sequence) [] head.0 (inl head.1) in
      let found = finds-some (can_enter v) (from_side v.tables (present_side v) (sides v.tables v.sequence) []) head.0 tried
      (held-enters v n r q head.0 c which side) in
      subst (λ (b : Bool). is_in (if b then beginning_in v 0 r else entering v
      (first (can_enter v) (from_side v.tables (present_side v) (sides v.tables v.sequence) [])) r) q ≡ true)
      (sym (leaves-side v n r q c other))
      (subst (λ (xs : List ℕ). is_in (entering v xs r) q ≡ true) (sym found.1)
      (begins-entered v n r q found.0 c (enters-held v n r q found.0 c found.3)))
]
