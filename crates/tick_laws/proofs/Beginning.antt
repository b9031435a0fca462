-- At local zero each held phase that is Red begins, and nothing else does.
use Rattle.std.proofs.Common.{◌≡◌, ◌≢◌, ◌⊎◌, inl, inr, ℕ, ◌<◌, nat_lt, nat_le, Bool, true, false, ◌||◌, ◌==◌, if◌then◌else◌, [], refl, sym, ◌∙◌, ap, subst, arith}
use Rattle.std.proofs.lemmas.Bool.{cases_Bool, false≢true, and_parts, ltb-true}
use Rattle.std.proofs.lemmas.Bool.Decides.{Decides-eqb}
use Rattle.sig_types.specs.declared.frame.Colour.{Colour}
use Rattle.sig_types.specs.declared.frame.Colour.TheVariants.{Green, Red}
use Rattle.sig_types.specs.Phases.{is_in, is_phase}
use Rattle.sig_types.specs.Colour.{same_colour, colour_of}
use Rattle.sig_tables.specs.declared.tables.Tables.{Tables}
use Rattle.sig_tables.specs.Tables.{ring_of, is_enabled}
use Rattle.sig_tables.specs.Sides.{are_of_one_side}
use Rattle.sig_tables.specs.Slots.{is_coordinated, coordinated_phase}
use Rattle.sig_tables.specs.View.{View, on_phase, is_open, present_side, present_side_of, greatest_clearance}
use Rattle.sig_tables.specs.Looking.{latest_on}
use Rattle.sig_tables.specs.Moves.{beginning_in, beginning_both, beginning_of, ring_moves}
use Rattle.sig_tables.proofs.Below.{coordinated-enabled}
use Rattle.tick_laws.specs.Zero.{HoldsPair, Sees, AtZero}
use Rattle.tick_laws.proofs.Finding.{in-left, in-right}
use Rattle.tick_laws.proofs.Entering.{Comes, begins-present, begins-both}

green-not_red : (c : Colour) → c ≡ Green → c ≢ Red
green-not_red c e f = false≢true (ap (λ (x : Colour). same_colour x Green) (sym f ∙ e))

-- a ring whose held phase is Red is open
opens : (v : View) (n r : ℕ) → HoldsPair v.tables n → Sees v n → AtZero v n → (r ≡ 1) ⊎ (r ≡ 2)
    → colour_of v.frame (coordinated_phase v.tables n r) ≡ Red → is_open v r ≡ true
opens v n r pair sees at which red = elim (sees.named r which) [
  | inl none ↦ rw none refl
  | inr on ↦ elim (cases_Bool (is_coordinated v.tables n (on_phase v r))) [
    | inl held ↦
        let same : on_phase v r ≡ coordinated_phase v.tables n r = pair.alone (on_phase v r) held ∙ ap (coordinated_phase v.tables n) on.2 in
        absurd (on.1 (ap (colour_of v.frame) same ∙ red))
    | inr other ↦ elim (at.others (on_phase v r) on.0 other) [
      | inl off ↦ absurd (on.1 off)
      | inr ended ↦ right (on_phase v r == 0) _ ended
    ]
  ]
]
  where
    right : (a b : Bool) → b ≡ true → (a || b) ≡ true
    right true b e = refl
    right false b e = e

-- a ring whose held phase is Green is not, and names it
record Closed (v : View) (n r : ℕ) : Type 0 where
  names : on_phase v r ≡ coordinated_phase v.tables n r
  closed : is_open v r ≡ false

pub some-phase : (t : Tables) (q : ℕ) → is_enabled t q ≡ true → 0 < q
some-phase t q e =
    let phase : is_phase q ≡ true = (and_parts (is_phase q) _ e).0 in
    ltb-true 0 q (and_parts (nat_lt 0 q) (nat_le q 16) phase).0

closes : (v : View) (n r : ℕ) → HoldsPair v.tables n → Sees v n → (r ≡ 1) ⊎ (r ≡ 2) → colour_of v.frame (coordinated_phase v.tables n r) ≡ Green → Closed v n r
closes v n r pair sees which green =
    let q : ℕ = coordinated_phase v.tables n r in
    let e : is_enabled v.tables (coordinated_phase v.tables n r) ≡ true = coordinated-enabled v.tables n (coordinated_phase v.tables n r) (pair.held r which) in
    let named : on_phase v (ring_of v.tables (coordinated_phase v.tables n r)) ≡ coordinated_phase v.tables n r = sees.placed
    (coordinated_phase v.tables n r) e (green-not_red _ green) in
    let names : on_phase v r ≡ coordinated_phase v.tables n r = subst (λ (x : ℕ). on_phase v x ≡ coordinated_phase v.tables n r) (pair.ring r which) named in
    record {
      names = names;
      closed = subst (λ (x : ℕ). (x == 0 || is_in v.ended x) ≡ false) (sym names)
          (shut (coordinated_phase v.tables n r) (some-phase v.tables _ e) (sees.runs _ green));
    }
  where
    unequal : (x : ℕ) (b : Bool) → 0 < x → (x == 0) ≡ b → b ≡ false
    unequal x true h e = absurd (let z : x ≡ 0 = (Decides-eqb x 0).0 e in omega arith)
    unequal x false h e = refl

    shut : (x : ℕ) → 0 < x → is_in v.ended x ≡ false → (x == 0 || is_in v.ended x) ≡ false
    shut x h e = rw (unequal x (x == 0) h refl, e) refl

-- what comes at local zero
comes : (v : View) (n r : ℕ) → HoldsPair v.tables n → Sees v n → AtZero v n → (r ≡ 1) ⊎ (r ≡ 2)
    → colour_of v.frame (coordinated_phase v.tables n r) ≡ Red → Comes v n r (coordinated_phase v.tables n r)
comes v n r pair sees at which red = elim (at.held r which) [
  | inl green ↦ absurd (green-not_red _ green red)
  | inr h ↦ record { pair = pair; sees = sees; zero = at.zero; ring = pair.ring r which; held = pair.held r which; red = red; may = h.1 }
]

-- both rings open: it begins; the other ring held: it begins in its side
begins-one : (v : View) (n : ℕ) → HoldsPair v.tables n → Sees v n → AtZero v n → colour_of v.frame (coordinated_phase v.tables n 1) ≡ Red
    → is_in (beginning_of v 1) (coordinated_phase v.tables n 1) ≡ true
begins-one v n pair sees at red =
    let c : Comes v n 1 (coordinated_phase v.tables n 1) = comes v n 1 pair sees at (inl refl) red in
    let open_one : is_open v 1 ≡ true = opens v n 1 pair sees at (inl refl) red in
    elim (at.held 2 (inr refl)) [
      | inr h ↦
          let open_two : is_open v 2 ≡ true = opens v n 2 pair sees at (inr refl) h.0 in
          chosen (is_open v 1) (is_open v 2) open_one open_two (begins-both v n 1 (coordinated_phase v.tables n 1) c (inl refl))
      | inl green ↦
          let x : Closed v n 2 = closes v n 2 pair sees (inr refl) green in
          let side : present_side v ≡ coordinated_phase v.tables n 2 = beside (is_open v 1) (is_open v 2) open_one x.closed ∙ x.names in
          alone (is_open v 1) (is_open v 2) open_one x.closed
          (begins-present v n (greatest_clearance v) 1 (coordinated_phase v.tables n 1) c
          (subst (λ (y : ℕ). are_of_one_side v.tables y (coordinated_phase v.tables n 1) ≡ true) (sym side)
          (pair.side (coordinated_phase v.tables n 2) (coordinated_phase v.tables n 1) (pair.held 2 (inr refl)) (pair.held 1 (inl refl)))))
    ]
  where
    chosen : (a b : Bool) → a ≡ true → b ≡ true → is_in (beginning_both v 1) (coordinated_phase v.tables n 1) ≡ true
        → is_in (if a then (if b then beginning_both v 1 else beginning_in v (greatest_clearance v) 1) else []) (coordinated_phase v.tables n 1) ≡ true
    chosen a b e f h = rw (e, f) h

    alone : (a b : Bool) → a ≡ true → b ≡ false → is_in (beginning_in v (greatest_clearance v) 1) (coordinated_phase v.tables n 1) ≡ true
        → is_in (if a then (if b then beginning_both v 1 else beginning_in v (greatest_clearance v) 1) else []) (coordinated_phase v.tables n 1) ≡ true
    alone a b e f h = rw (e, f) h

    beside : (a b : Bool) → a ≡ true → b ≡ false
        → (if a then (if b then present_side_of v (latest_on v.past) else on_phase v 2) else on_phase v 1) ≡ on_phase v 2
    beside a b e f = rw (e, f) refl

begins-two : (v : View) (n : ℕ) → HoldsPair v.tables n → Sees v n → AtZero v n → colour_of v.frame (coordinated_phase v.tables n 2) ≡ Red
    → is_in (beginning_of v 2) (coordinated_phase v.tables n 2) ≡ true
begins-two v n pair sees at red =
    let c : Comes v n 2 (coordinated_phase v.tables n 2) = comes v n 2 pair sees at (inr refl) red in
    let open_two : is_open v 2 ≡ true = opens v n 2 pair sees at (inr refl) red in
    elim (at.held 1 (inl refl)) [
      | inr h ↦
          let open_one : is_open v 1 ≡ true = opens v n 1 pair sees at (inl refl) h.0 in
          chosen (is_open v 2) (is_open v 1) open_two open_one (begins-both v n 2 (coordinated_phase v.tables n 2) c (inr refl))
      | inl green ↦
          let x : Closed v n 1 = closes v n 1 pair sees (inl refl) green in
          let side : present_side v ≡ coordinated_phase v.tables n 1 = beside (is_open v 1) (is_open v 2) x.closed ∙ x.names in
          alone (is_open v 2) (is_open v 1) open_two x.closed
          (begins-present v n (greatest_clearance v) 2 (coordinated_phase v.tables n 2) c
          (subst (λ (y : ℕ). are_of_one_side v.tables y (coordinated_phase v.tables n 2) ≡ true) (sym side)
          (pair.side (coordinated_phase v.tables n 1) (coordinated_phase v.tables n 2) (pair.held 1 (inl refl)) (pair.held 2 (inr refl)))))
    ]
  where
    chosen : (a b : Bool) → a ≡ true → b ≡ true → is_in (beginning_both v 2) (coordinated_phase v.tables n 2) ≡ true
        → is_in (if a then (if b then beginning_both v 2 else beginning_in v (greatest_clearance v) 2) else []) (coordinated_phase v.tables n 2) ≡ true
    chosen a b e f h = rw (e, f) h

    alone : (a b : Bool) → a ≡ true → b ≡ false → is_in (beginning_in v (greatest_clearance v) 2) (coordinated_phase v.tables n 2) ≡ true
        → is_in (if a then (if b then beginning_both v 2 else beginning_in v (greatest_clearance v) 2) else []) (coordinated_phase v.tables n 2) ≡ true
    alone a b e f h = rw (e, f) h

    beside : (a b : Bool) → a ≡ false → (if a then (if b then present_side_of v (latest_on v.past) else on_phase v 2) else on_phase v 1) ≡ on_phase v 1
    beside a b e = rw e refl

-- both
pub held-begin : (v : View) (n r : ℕ) → HoldsPair v.tables n → Sees v n → AtZero v n → (r ≡ 1) ⊎ (r ≡ 2)
    → colour_of v.frame (coordinated_phase v.tables n r) ≡ Red
    → is_in (ring_moves v).begins (coordinated_phase v.tables n r) ≡ true
held-begin v n r pair sees at (inl one) red =
    subst (λ (x : ℕ). is_in (ring_moves v).begins (coordinated_phase v.tables n x) ≡ true) (sym one)
    (in-left (beginning_of v 1) (beginning_of v 2) _
    (begins-one v n pair sees at (subst (λ (x : ℕ). colour_of v.frame (coordinated_phase v.tables n x) ≡ Red) one red)))
held-begin v n r pair sees at (inr two) red =
    subst (λ (x : ℕ). is_in (ring_moves v).begins (coordinated_phase v.tables n x) ≡ true) (sym two)
    (in-right (beginning_of v 1) (beginning_of v 2) _
    (begins-two v n pair sees at (subst (λ (x : ℕ). colour_of v.frame (coordinated_phase v.tables n x) ≡ Red) two red)))
