-- The plan of a defined pattern, from the rules on patterns.
use Rattle.std.proofs.Common.{◌≡◌, ◌≢◌, ◌⊎◌, inl, inr, ℕ, ◌+◌, ◌-◌, ◌*◌, ◌%◌, ◌<◌, ◌≤◌, nat_le, nat_lt, Bool, true, false, not, ◌&&◌, ◌||◌, ◌==◌, List, [], ◌∷◌, length, refl, sym, ◌∙◌, ap, subst, arith}
use Rattle.std.proofs.lemmas.Bool.{and_parts, and_from, or_right, false≢true, both_ways, not-true, leb-true, ltb-true, lt-ltb}
use Rattle.std.proofs.lemmas.Bool.Decides.{Decides-eqb}
use Rattle.std.proofs.Math.Nat.{le-max_left, le-max_right, min-le_left, min-le_right, le-min, le_trans, le_of_lt, lt_of_lt_of_le}
use Rattle.sig_types.specs.Phases.{all_phases, is_in, only}
use Rattle.sig_types.proofs.Lists.{eq-true, in-cons, in-head, in-those}
use Rattle.sig_types.proofs.Sets.{every-phase, in-phases}
use Rattle.sig_tables.specs.declared.tables.Tables.{Tables}
use Rattle.sig_tables.specs.Tables.{ring_of, is_enabled, clearance}
use Rattle.sig_tables.specs.Sides.{are_concurrent}
use Rattle.sig_tables.specs.Sums.{every, sum_of, before}
use Rattle.sig_tables.specs.Cells.{pattern_of}
use Rattle.sig_tables.specs.Slots.{is_defined, cycle_time, pattern_order, split_time, is_omitted, is_coordinated, coordinated_in, coordinated_phase, slot_start, slot_end, side_end, side_clearance, least_service, leaves_room, zero_point, force_point, window}
use Rattle.sig_tables.proofs.Below.{enabled-phase, coordinated-enabled}
use Rattle.rule_book.specs.RingLayout.{is_listed}
use Rattle.rule_book.specs.Patterns.{has_coordinated_pair, holds_for, has_window, side_time}
use Rattle.rule_facts.specs.Rules.{SequenceRules, KeepsRules}
use Rattle.plan_facts.specs.Plan.{NamesThere, Coordinates, SlotsLie, SidesLie, WindowHolds, HeldForce, OtherForce, PlanHolds}
use Rattle.rule_facts.proofs.Members.{counted-member}
use Rattle.rule_facts.proofs.RingLayout.{in-ring}
use Rattle.rule_facts.proofs.Sequences.{listed-once}
use Rattle.rule_facts.proofs.Barriers.{Laid, sides-apart, same-end}
use Rattle.rule_facts.proofs.Times.{long-clearance, corrected}
use Rattle.rule_facts.proofs.Orders.{sum-within, sum-apart}
use Rattle.rule_facts.proofs.Residues.{layout_force, force-laid, permissive-is, untimed}
use Rattle.rule_facts.proofs.Forces.{force-before, force-after, force-held, least-fits, room-of, back-from}

-- what a defined pattern names is there
names-of : (t : Tables) (n : ℕ) → KeepsRules t → is_defined t n ≡ true → NamesThere t n
names-of t n k d =
    let s : ℕ = (pattern_of t n).sequence in
    let split : ℕ = (pattern_of t n).split in
    let a = and_parts (nat_le 1 split && nat_le split 32 && nat_le 1 s && nat_le s 16) (is_listed t s) (k.patterns n d).split in
    let b = and_parts (nat_le 1 split && nat_le split 32 && nat_le 1 s) (nat_le s 16) a.0 in
    let c = and_parts (nat_le 1 split && nat_le split 32) (nat_le 1 s) b.0 in
    let e = and_parts (nat_le 1 split) (nat_le split 32) c.0 in
    record {
      least_split = leb-true 1 split e.0;
      greatest_split = leb-true split 32 e.1;
      sequence = and_from (nat_lt 0 s) (nat_le s 16) (lt-ltb 0 s (leb-true 1 s c.1)) b.1;
      used = or_right (s == 1) (is_listed t s) a.1;
      offset = ltb-true (pattern_of t n).offset (pattern_of t n).cycle (k.patterns n d).offset;
    }

-- its sequence keeps the rules
sequence-used : (t : Tables) (n : ℕ) → KeepsRules t → is_defined t n ≡ true → SequenceRules t (pattern_of t n).sequence
sequence-used t n k d =
    let names : NamesThere t n = names-of t n k d in
    k.sequences (pattern_of t n).sequence names.sequence names.used

-- an enabled phase is in the order of its ring
in-order : (t : Tables) (n p : ℕ) → KeepsRules t → is_defined t n ≡ true → is_enabled t p ≡ true → is_in (pattern_order t n (ring_of t p)) p ≡ true
in-order t n p k d e =
    counted-member (pattern_order t n (ring_of t p)) p
    (listed-once t (pattern_of t n).sequence (ring_of t p) p (sequence-used t n k d) (in-ring t p k e) e refl)

-- the slots of each ring fill the cycle
fills-ring : (t : Tables) (n r : ℕ) → KeepsRules t → is_defined t n ≡ true → (r ≡ 1) ⊎ (r ≡ 2) → sum_of (split_time t n) (pattern_order t n r) ≡ cycle_time t n
fills-ring t n r k d which =
    let a = and_parts (sum_of (split_time t n) (pattern_order t n 1) == cycle_time t n && sum_of (split_time t n) (pattern_order t n 2) == cycle_time t n)
    (every (λ p. not (is_enabled t p) || side_time t n p 1 == side_time t n p 2) all_phases) (k.patterns n d).cycle in
    let b = and_parts (sum_of (split_time t n) (pattern_order t n 1) == cycle_time t n)
    (sum_of (split_time t n) (pattern_order t n 2) == cycle_time t n) a.0 in
    elim which [
      | inl e ↦ subst (λ (x : ℕ). sum_of (split_time t n) (pattern_order t n x) ≡ cycle_time t n) (sym e) (eq-true _ _ b.0)
      | inr e ↦ subst (λ (x : ℕ). sum_of (split_time t n) (pattern_order t n x) ≡ cycle_time t n) (sym e) (eq-true _ _ b.1)
    ]

in-cycle : (t : Tables) (n p : ℕ) → KeepsRules t → is_defined t n ≡ true → is_enabled t p ≡ true → slot_end t n p ≤ cycle_time t n
in-cycle t n p k d e =
    subst (λ (x : ℕ). slot_end t n p ≤ x) (fills-ring t n (ring_of t p) k d (in-ring t p k e))
    (sum-within (split_time t n) (pattern_order t n (ring_of t p)) p (in-order t n p k d e))

slots-apart : (t : Tables) (n p q : ℕ) → KeepsRules t → is_defined t n ≡ true → is_enabled t p ≡ true → is_enabled t q ≡ true
    → ring_of t p ≡ ring_of t q → p ≢ q → (slot_end t n p ≤ slot_start t n q) ⊎ (slot_end t n q ≤ slot_start t n p)
slots-apart t n p q k d e f same ne =
    elim (sum-apart (split_time t n) (pattern_order t n (ring_of t p)) p q (in-order t n p k d e)
    (subst (λ (x : ℕ). is_in (pattern_order t n x) q ≡ true) (sym same) (in-order t n q k d f)) ne) [
      | inl h ↦ inl (subst (λ (x : ℕ). slot_end t n p ≤ sum_of (split_time t n) (before q (pattern_order t n x))) same h)
      | inr h ↦ inr (subst (λ (x : ℕ). sum_of (split_time t n) (before q (pattern_order t n x)) + split_time t n q ≤ slot_start t n p) same h)
    ]

-- the only member of a list of one
only-member : (xs : List ℕ) → length xs ≡ 1 → is_in xs (only xs) ≡ true
only-member [] e = absurd (omega (arith, e))
only-member (x ∷ xs) e = in-head x xs

only-one : (xs : List ℕ) (x : ℕ) → length xs ≡ 1 → is_in xs x ≡ true → x ≡ only xs
only-one [] x e i = absurd (false≢true i)
only-one (y ∷ []) x e i = elim (in-cons y [] x i) [ inl s ↦ s | inr r ↦ absurd (false≢true r) ]
only-one (y ∷ z ∷ zs) x e i = absurd (omega (arith, e))

-- the parts of the rule on the coordinated pair
record Pair (t : Tables) (n : ℕ) : Type 0 where
  one : (r : ℕ) → (r ≡ 1) ⊎ (r ≡ 2) → length (coordinated_in t n r) ≡ 1
  together : are_concurrent t (coordinated_phase t n 1) (coordinated_phase t n 2) ≡ true
  served : (r : ℕ) → (r ≡ 1) ⊎ (r ≡ 2) → is_omitted t n (coordinated_phase t n r) ≡ false

pair-of : (t : Tables) (n : ℕ) → has_coordinated_pair t n ≡ true → Pair t n
pair-of t n h =
    let a = and_parts _ (not (is_omitted t n (coordinated_phase t n 2))) h in
    let b = and_parts
    (length (coordinated_in t n 1) == 1 && length (coordinated_in t n 2) == 1
    && are_concurrent t (coordinated_phase t n 1) (coordinated_phase t n 2))
    (not (is_omitted t n (coordinated_phase t n 1))) a.0 in
    let c = and_parts (length (coordinated_in t n 1) == 1 && length (coordinated_in t n 2) == 1)
    (are_concurrent t (coordinated_phase t n 1) (coordinated_phase t n 2)) b.0 in
    let d = and_parts (length (coordinated_in t n 1) == 1) (length (coordinated_in t n 2) == 1) c.0 in
    record {
      one = λ r which. elim which [
        | inl e ↦ subst (λ (x : ℕ). length (coordinated_in t n x) ≡ 1) (sym e) (eq-true _ _ d.0)
        | inr e ↦ subst (λ (x : ℕ). length (coordinated_in t n x) ≡ 1) (sym e) (eq-true _ _ d.1)
      ];
      together = c.1;
      served = λ r which. elim which [
        | inl e ↦ subst (λ (x : ℕ). is_omitted t n (coordinated_phase t n x) ≡ false) (sym e) (not-true _ b.1)
        | inr e ↦ subst (λ (x : ℕ). is_omitted t n (coordinated_phase t n x) ≡ false) (sym e) (not-true _ a.1)
      ];
    }

coordinates-in : (t : Tables) (n : ℕ) → KeepsRules t → Pair t n → Coordinates t n
coordinates-in t n k pair = record {
  coordinated = λ r which. (both r which).1;
  ring = λ r which. eq-true _ _ (both r which).0;
  served = pair.served;
  alone = λ q c.
      let e : is_enabled t q ≡ true = (and_parts (is_enabled t q) _ c).0 in
      only-one (coordinated_in t n (ring_of t q)) q (pair.one (ring_of t q) (in-ring t q k e))
      (in-phases (λ x. ring_of t x == ring_of t q && is_coordinated t n x) q (enabled-phase t q e)
      ∙ and_from (ring_of t q == ring_of t q) (is_coordinated t n q) ((Decides-eqb _ _).1 refl) c);
}
  where
    both : (r : ℕ) → (r ≡ 1) ⊎ (r ≡ 2)
        → ((ring_of t (coordinated_phase t n r) == r) ≡ true) × (is_coordinated t n (coordinated_phase t n r) ≡ true)
    both r which =
        and_parts (ring_of t (coordinated_phase t n r) == r) (is_coordinated t n (coordinated_phase t n r))
        (in-those (λ x. ring_of t x == r && is_coordinated t n x) all_phases (coordinated_phase t n r)
        (only-member (coordinated_in t n r) (pair.one r which))).0

-- what a moment that leaves room gives
record Room (t : Tables) (n p moment : ℕ) : Type 0 where
  fits : moment + clearance t p ≤ slot_end t n p
  force : moment ≤ layout_force t n p
  clears : layout_force t n p + clearance t p ≤ slot_end t n p
  slot : clearance t p ≤ slot_end t n p
  side : side_clearance t p ≤ side_end t n p

room : (t : Tables) (n p moment : ℕ) → leaves_room t n p moment ≡ true → Room t n p moment
room t n p moment h =
    let a = and_parts (nat_le (moment + clearance t p) (slot_end t n p)) (nat_le (moment + side_clearance t p) (side_end t n p)) h in
    let own : moment + clearance t p ≤ slot_end t n p = leb-true _ _ a.0 in
    let side : moment + side_clearance t p ≤ side_end t n p = leb-true _ _ a.1 in
    let b = room-of moment (slot_end t n p) (clearance t p) own in
    let c = room-of moment (side_end t n p) (side_clearance t p) side in
    record {
      fits = own;
      force = le-min b.0 c.0;
      clears = least-fits (layout_force t n p) (slot_end t n p) (clearance t p) (min-le_left _ _) b.1;
      slot = b.1;
      side = c.1;
    }

-- a defined pattern of tables that keep the rules
record Defined (t : Tables) (n : ℕ) : Type 0 where
  rules : KeepsRules t
  here : is_defined t n ≡ true
  pair : Coordinates t n

-- where both coordinated phases hold for that many ticks, each does
room-held : (t : Tables) (n q ticks : ℕ) → Defined t n → is_coordinated t n q ≡ true → holds_for t n ticks ≡ true → Room t n q (zero_point t n + ticks)
room-held t n q ticks k c h =
    let both = and_parts (leaves_room t n (coordinated_phase t n 1) (zero_point t n + ticks))
    (leaves_room t n (coordinated_phase t n 2) (zero_point t n + ticks)) h in
    room t n q (zero_point t n + ticks)
    (elim (in-ring t q k.rules (coordinated-enabled t n q c)) [
      | inl e ↦ subst (λ (x : ℕ). leaves_room t n x (zero_point t n + ticks) ≡ true) (sym (k.pair.alone q c ∙ ap (coordinated_phase t n) e)) both.0
      | inr e ↦ subst (λ (x : ℕ). leaves_room t n x (zero_point t n + ticks) ≡ true) (sym (k.pair.alone q c ∙ ap (coordinated_phase t n) e)) both.1
    ])

held-for : (t : Tables) (n q ticks : ℕ) → Defined t n → is_coordinated t n q ≡ true → holds_for t n ticks ≡ true
    → (ticks ≤ force_point t n q) × (force_point t n q + clearance t q ≤ cycle_time t n)
held-for t n q ticks k c h =
    let e : is_enabled t q ≡ true = coordinated-enabled t n q c in
    let r : Room t n q (zero_point t n + ticks) = room-held t n q ticks k c h in
    let fits : slot_end t n q ≤ cycle_time t n = in-cycle t n q k.rules k.here e in
    let zero_fits : zero_point t n ≤ cycle_time t n = early (zero_point t n) ticks (clearance t q) (slot_end t n q) (cycle_time t n) r.fits fits in
    subst (λ (x : ℕ). (ticks ≤ x) × (x + clearance t q ≤ cycle_time t n)) (sym (force-laid t n q k.here e r.slot r.side zero_fits))
    (force-held (slot_end t n q) (layout_force t n q) ticks (clearance t q) (cycle_time t n) (zero_point t n)
    r.force r.clears (long-clearance t q k.rules e) fits)
  where
    early : (a b c d e : ℕ) → a + b + c ≤ d → d ≤ e → a ≤ e
    early a b c d e h g = omega arith

in-window : (t : Tables) (n ticks : ℕ) → Defined t n → holds_for t n ticks ≡ true → ticks ≤ window t n
in-window t n ticks k h =
    le-min (held-for t n (coordinated_phase t n 1) ticks k (k.pair.coordinated 1 (inl refl)) h).0
    (held-for t n (coordinated_phase t n 2) ticks k (k.pair.coordinated 2 (inr refl)) h).0

-- the parts of the rule on the window
record Windows (t : Tables) (n : ℕ) : Type 0 where
  add : holds_for t n t.unit.add ≡ true
  skips : holds_for t n (2 * t.unit.subtract) ≡ true
  first : holds_for t n (t.unit.subtract + least_service t (coordinated_phase t n 1)) ≡ true
  second : holds_for t n (t.unit.subtract + least_service t (coordinated_phase t n 2)) ≡ true

windows : (t : Tables) (n : ℕ) → has_window t n ≡ true → Windows t n
windows t n h =
    let a = and_parts _ (holds_for t n (t.unit.subtract + least_service t (coordinated_phase t n 2))) h in
    let b = and_parts (holds_for t n t.unit.add && holds_for t n (2 * t.unit.subtract))
    (holds_for t n (t.unit.subtract + least_service t (coordinated_phase t n 1))) a.0 in
    let c = and_parts (holds_for t n t.unit.add) (holds_for t n (2 * t.unit.subtract)) b.0 in
    record { add = c.0; skips = c.1; first = b.1; second = a.1 }

window-holds : (t : Tables) (n : ℕ) → Defined t n → WindowHolds t n
window-holds t n k =
    let w : Windows t n = windows t n (k.rules.patterns n k.here).window in
    let stands : t.unit.add ≤ window t n = in-window t n t.unit.add k w.add in
    record {
      some = le_trans (corrected t k.rules.correction).add stands;
      stands = stands;
      skips = in-window t n (2 * t.unit.subtract) k w.skips;
      service = λ q c. elim (in-ring t q k.rules (coordinated-enabled t n q c)) [
        | inl e ↦ subst (λ (x : ℕ). t.unit.subtract + least_service t x ≤ window t n) (sym (k.pair.alone q c ∙ ap (coordinated_phase t n) e))
            (in-window t n _ k w.first)
        | inr e ↦ subst (λ (x : ℕ). t.unit.subtract + least_service t x ≤ window t n) (sym (k.pair.alone q c ∙ ap (coordinated_phase t n) e))
            (in-window t n _ k w.second)
      ];
    }

window-below : (t : Tables) (n q : ℕ) → Defined t n → is_coordinated t n q ≡ true → window t n ≤ force_point t n q
window-below t n q k c = elim (in-ring t q k.rules (coordinated-enabled t n q c)) [
  | inl e ↦ subst (λ (x : ℕ). window t n ≤ force_point t n x) (sym (k.pair.alone q c ∙ ap (coordinated_phase t n) e)) (min-le_left _ _)
  | inr e ↦ subst (λ (x : ℕ). window t n ≤ force_point t n x) (sym (k.pair.alone q c ∙ ap (coordinated_phase t n) e)) (min-le_right _ _)
]

held-force : (t : Tables) (n q : ℕ) → Defined t n → is_coordinated t n q ≡ true → HeldForce t n q
held-force t n q k c =
    let clears = (held-for t n q t.unit.add k c (windows t n (k.rules.patterns n k.here).window).add).1 in
    record {
      window = window-below t n q k c;
      clears = clears;
      last = early (force_point t n q) (clearance t q) (cycle_time t n) clears (long-clearance t q k.rules (coordinated-enabled t n q c));
    }
  where
    early : (a b c : ℕ) → a + b ≤ c → 30 ≤ b → a + 30 ≤ c
    early a b c h g = omega arith

-- local zero lies in the coordinated slots
at-zero : (t : Tables) (n q : ℕ) → Defined t n → is_coordinated t n q ≡ true → (slot_start t n q ≤ zero_point t n) × (zero_point t n < slot_end t n q)
at-zero t n q k c =
    let w : Windows t n = windows t n (k.rules.patterns n k.here).window in (
      elim (in-ring t q k.rules (coordinated-enabled t n q c)) [
        | inl e ↦ subst (λ (x : ℕ). slot_start t n x ≤ zero_point t n) (sym (k.pair.alone q c ∙ ap (coordinated_phase t n) e)) (le-max_left _ _)
        | inr e ↦ subst (λ (x : ℕ). slot_start t n x ≤ zero_point t n) (sym (k.pair.alone q c ∙ ap (coordinated_phase t n) e)) (le-max_right _ _)
      ],
      inside (zero_point t n) t.unit.add (clearance t q) (slot_end t n q) (corrected t k.rules.correction).add (room-held t n q t.unit.add k c w.add).fits,
    )
  where
    inside : (z a c e : ℕ) → 1 ≤ a → z + a + c ≤ e → z < e
    inside z a c e h g = omega arith

slots-lie : (t : Tables) (n : ℕ) → Defined t n → SlotsLie t n
slots-lie t n k = record {
  in_cycle = λ p e. in-cycle t n p k.rules k.here e;
  zero_in_cycle =
      let q : ℕ = coordinated_phase t n 1 in
      let c : is_coordinated t n q ≡ true = k.pair.coordinated 1 (inl refl) in
      lt_of_lt_of_le (at-zero t n q k c).1 (in-cycle t n q k.rules k.here (coordinated-enabled t n q c));
  at_zero = λ q c. at-zero t n q k c;
  apart = λ p q e f same ne. slots-apart t n p q k.rules k.here e f same ne;
  clear_of_zero = λ p q e c same ne. clear p q c (slots-apart t n p q k.rules k.here e (coordinated-enabled t n q c) same ne);
}
  where
    clear : (p q : ℕ) → is_coordinated t n q ≡ true → (slot_end t n p ≤ slot_start t n q) ⊎ (slot_end t n q ≤ slot_start t n p)
        → (slot_end t n p ≤ zero_point t n) ⊎ ((slot_end t n q ≤ slot_start t n p) × (zero_point t n < slot_start t n p))
    clear p q c (inl h) = inl (le_trans h (at-zero t n q k c).0)
    clear p q c (inr h) = inr (h, lt_of_lt_of_le (at-zero t n q k c).1 h)

-- rule 18 at a phase that is forced off at its force point
served-room : (t : Tables) (n p : ℕ) → Defined t n → is_enabled t p ≡ true → is_coordinated t n p ≡ false → is_omitted t n p ≡ false
    → leaves_room t n p (slot_start t n p + least_service t p) ≡ true
served-room t n p k e c o =
    last (is_enabled t p) (is_coordinated t n p) (is_omitted t n p) (leaves_room t n p (slot_start t n p + least_service t p)) e c o
    (every-phase (λ x. not (is_enabled t x) || is_coordinated t n x || is_omitted t n x || leaves_room t n x (slot_start t n x + least_service t x))
    (k.rules.patterns n k.here).service p (enabled-phase t p e))
  where
    last : (a b c d : Bool) → a ≡ true → b ≡ false → c ≡ false → (not a || b || c || d) ≡ true → d ≡ true
    last true false false d e f g h = h
    last false b c d e f g h = absurd (false≢true e)
    last true true c d e f g h = absurd (false≢true (sym f))
    last true false true d e f g h = absurd (false≢true (sym g))

other-force : (t : Tables) (n p : ℕ) → Defined t n → is_enabled t p ≡ true → is_coordinated t n p ≡ false → is_omitted t n p ≡ false → OtherForce t n p
other-force t n p k e c o =
    let both : (least_service t p ≤ force_point t n p) × (force_point t n p + clearance t p ≤ cycle_time t n) =
    subst (λ (x : ℕ). (least_service t p ≤ x) × (x + clearance t p ≤ cycle_time t n))
    (sym (force-laid t n p k.here e mine.slot mine.side (le_of_lt lie.zero_in_cycle)))
    (forces (lie.clear_of_zero p q e held (sym (k.pair.ring (ring_of t p) which))
    (λ same. both_ways _ c (subst (λ (x : ℕ). is_coordinated t n x ≡ true) (sym same) held)))) in
    record {
      served = both.0;
      clears = both.1;
      permissive = ap (λ (x : ℕ). x + least_service t p) (permissive-is t n p e c o) ∙ back-from (force_point t n p) (least_service t p) both.0;
    }
  where
    which : (ring_of t p ≡ 1) ⊎ (ring_of t p ≡ 2)
    which = in-ring t p k.rules e

    q : ℕ
    q = coordinated_phase t n (ring_of t p)

    held : is_coordinated t n q ≡ true
    held = k.pair.coordinated (ring_of t p) which

    lie : SlotsLie t n
    lie = slots-lie t n k

    mine : Room t n p (slot_start t n p + least_service t p)
    mine = room t n p (slot_start t n p + least_service t p) (served-room t n p k e c o)

    laid : ℕ
    laid = (layout_force t n p + cycle_time t n - zero_point t n) % cycle_time t n

    forces : (slot_end t n p ≤ zero_point t n) ⊎ ((slot_end t n q ≤ slot_start t n p) × (zero_point t n < slot_start t n p))
        → (least_service t p ≤ laid) × (laid + clearance t p ≤ cycle_time t n)
    forces (inl early) =
        force-before (slot_start t n p) (slot_end t n p) (layout_force t n p) (least_service t p) (clearance t p) (cycle_time t n) (zero_point t n)
        mine.force mine.clears (long-clearance t p k.rules e) early lie.zero_in_cycle
    forces (inr after) =
        force-after (slot_start t n p) (slot_end t n p) (layout_force t n p) (least_service t p) (clearance t p) (cycle_time t n) (zero_point t n)
        mine.force mine.clears (long-clearance t p k.rules e) (le_of_lt after.1) (lie.in_cycle p e)

-- the sides of the pattern
sides-lie : (t : Tables) (n : ℕ) → KeepsRules t → is_defined t n ≡ true → SidesLie t n
sides-lie t n k d =
    let laid : Laid t n = record { use_of = record { rules = k; kept = sequence-used t n k d }; times = (k.patterns n d).cycle } in
    record { apart = λ p q e f other. sides-apart t n p q laid e f other; one_end = λ p q h. same-end t n p q k h }

pub coordinates : (t : Tables) (n : ℕ) → KeepsRules t → is_defined t n ≡ true → Coordinates t n
coordinates t n k d = coordinates-in t n k (pair-of t n (k.patterns n d).pair)

pub plan-holds : (t : Tables) → KeepsRules t → (n : ℕ) → is_defined t n ≡ true → PlanHolds t n
plan-holds t rules n d =
    let k : Defined t n = record { rules = rules; here = d; pair = coordinates t n rules d } in
    record {
      names = names-of t n rules d;
      coordinates = k.pair;
      slots = slots-lie t n k;
      sides = sides-lie t n rules d;
      window = window-holds t n k;
      held = λ q c. held-force t n q k c;
      other = λ p e c o. other-force t n p k e c o;
      untimed = untimed t n d;
    }

pub pair-together : (t : Tables) (n : ℕ) → KeepsRules t → is_defined t n ≡ true → are_concurrent t (coordinated_phase t n 1) (coordinated_phase t n 2) ≡ true
pair-together t n k d = (pair-of t n (k.patterns n d).pair).together
