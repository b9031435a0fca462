-- A phase of the goal stays Green, and is startable once the greatest clearance and red revert are over; then it begins.
use Rattle.std.proofs.Common.{◌≡◌, ◌≢◌, ◌⊎◌, inl, inr, ℕ, ◌+◌, ◌-◌, ◌≤◌, ◌==◌, ◌&&◌, ◌||◌, Bool}
use Rattle.std.proofs.Common.{true, false, not, if◌then◌else◌, List, [], ◌∷◌, refl, sym, ◌∙◌, ap, subst, arith}
use Rattle.std.proofs.lemmas.Bool.{cases_Bool, eqb-false, false≢true, and_from, and_parts}
use Rattle.std.proofs.lemmas.Bool.Decides.{Decides-eqb}
use Rattle.sig_types.specs.declared.frame.Colour.{Colour}
use Rattle.sig_types.specs.declared.frame.Colour.TheVariants.{Green, Yellow, Clear, Red}
use Rattle.sig_types.specs.Phases.{is_in, first}
use Rattle.sig_types.specs.Colour.{colour_of}
use Rattle.sig_types.proofs.Lists.{in-append, in-cons}
use Rattle.sig_tables.specs.declared.tables.Tables.{Tables}
use Rattle.sig_tables.specs.Tables.{ring_of, is_enabled, yellow_time, red_clear_time, red_revert_time}
use Rattle.sig_tables.specs.Sides.{are_of_one_side}
use Rattle.sig_tables.specs.Past.{Moment}
use Rattle.sig_tables.specs.Looking.{run, latched, lasts, shows}
use Rattle.sig_tables.specs.View.{View, on_phase, is_open, other_ring, is_startable}
use Rattle.sig_tables.specs.Moves.{goal_moves, goal_ending_in, goal_beginning_in}
use Rattle.sig_tables.proofs.Lasting.{lasts-counted}
use Rattle.coordination_laws.proofs.Looks.{fits}
use Rattle.tick_laws.proofs.Runs.{run-on, run-first}
use Rattle.tick_laws.proofs.Others.{end-choice}
use Rattle.tick_laws.proofs.Finding.{in-left, in-right, finds-only}
use Rattle.coordination_laws.specs.Search.{Greatest, Sums, GreatestKeeps, GoalStands, Sought, Found}
use Rattle.coordination_laws.proofs.Clearing.{latched-goes, yellow-goes, clear-goes}
use Rattle.coordination_laws.proofs.Outside.{found-from}

-- a Green phase of the goal does not end
stays : (v : View) (goal : List ℕ) (r q : ℕ) → is_in goal q ≡ true → is_in (goal_ending_in v goal r) q ≡ true → ⊥
stays v goal r q goes h = by _ _ _ refl h
  where
    by : (a b c : Bool) → not (is_in goal (on_phase v r)) ≡ b → is_in (if a && b && c then on_phase v r ∷ [] else []) q ≡ true → ⊥
    by a false c e k = none a c k
      where
        none : (a c : Bool) → is_in (if a && false && c then on_phase v r ∷ [] else []) q ≡ true → ⊥
        none true c k = false≢true k
        none false c k = false≢true k
    by false true c e k = false≢true k
    by true true false e k = false≢true k
    by true true true e k = elim (in-cons (on_phase v r) [] q k) [
      | inl same ↦ false≢true (ap not (sym (subst (λ (x : ℕ). is_in goal x ≡ true) same goes)) ∙ e)
      | inr none ↦ false≢true none
    ]

pub goal-stays : (v : View) (goal : List ℕ) (q : ℕ) → is_in goal q ≡ true → is_in (goal_moves v goal).ends q ≡ true → ⊥
goal-stays v goal q goes h = elim (in-append (goal_ending_in v goal 1) (goal_ending_in v goal 2) q h) [
  | inl a ↦ stays v goal 1 q goes a
  | inr b ↦ stays v goal 2 q goes b
]

-- what was true of a phase of the goal is true a tick later
pub goal-step : (g : Greatest) (v : View) (n q ticks : ℕ) (goal : List ℕ) (l : Moment) (past : List Moment) (m : Moment) → Sums g → GreatestKeeps g v.tables q
    → Sought v n goal
    → is_in goal q ≡ true → v.past ≡ l ∷ past → Found v goal q m → GoalStands g v.tables q ticks (l ∷ past) (colour_of l.frame q)
    → GoalStands g v.tables q (ticks + 1) (m ∷ l ∷ past) (colour_of m.frame q)
goal-step g v n q ticks goal l past m sums keeps sought goes lasting found = by (colour_of l.frame q) refl
  where
    shown : (x : Colour) → colour_of m.frame q ≡ x → GoalStands g v.tables q (ticks + 1) (m ∷ l ∷ past) x → GoalStands g v.tables q (ticks + 1) (m ∷ l ∷ past)
        (colour_of m.frame q)
    shown x e s = subst (λ (y : Colour). GoalStands g v.tables q (ticks + 1) (m ∷ l ∷ past) y) (sym e) s

    by : (x : Colour) → colour_of l.frame q ≡ x → GoalStands g v.tables q ticks (l ∷ past) x → GoalStands g v.tables q (ticks + 1) (m ∷ l ∷ past)
        (colour_of m.frame q)
    by Green e s = elim (end-choice (is_in (goal_moves v goal).ends q) Yellow Green) [
      | inl h ↦ absurd (goal-stays v goal q goes h.0)
      | inr h ↦ shown Green (found-from v goal q l past m Green lasting found e ∙ h.1) tt
    ]
    by Yellow e s =
        let rest : ticks + (yellow_time (latched q Yellow v.tables (l ∷ past)) q + 1 - run q Yellow (l ∷ past)) + g.red ≤ g.clear = s.rest in
        let within : run q Yellow (l ∷ past) ≤ yellow_time (latched q Yellow v.tables (l ∷ past)) q = s.within in
        elim (yellow-goes q v.tables (l ∷ past)) [
          | inl h ↦ elim (end-choice (red_clear_time v.tables q == 0) Red Clear) [
            | inl k ↦
                let is : colour_of m.frame q ≡ Red = found-from v goal q l past m Yellow lasting found e ∙ h.1 ∙ k.1 in
                let once : run q Red (m ∷ l ∷ past) ≡ 1 = run-first q Red Yellow m l past is e refl in
                let revert : red_revert_time v.tables q ≤ g.revert = keeps.revert in
                shown Red is (short-revert (red_revert_time v.tables q) ticks (run q Red (m ∷ l ∷ past)) g.clear g.revert once revert (omega arith))
            | inr k ↦
                let is : colour_of m.frame q ≡ Clear = found-from v goal q l past m Yellow lasting found e ∙ h.1 ∙ k.1 in
                let some : red_clear_time v.tables q ≢ 0 = eqb-false _ _ k.0 in
                let once : run q Clear (m ∷ l ∷ past) ≡ 1 = run-first q Clear Yellow m l past is e refl in
                let time : red_clear_time (latched q Clear v.tables (m ∷ l ∷ past)) q ≡ red_clear_time v.tables q
                = ap (λ (u : Tables). red_clear_time u q)
                (latched-goes q Clear v.tables m (l ∷ past) is found.tables
                ∙ Rattle.tick_laws.proofs.Runs.latched-none q Clear Yellow v.tables l past e refl) in
                shown Clear is (record { rest = omega (arith, keeps.red); within = omega arith })
          ]
          | inr h ↦
              let is : colour_of m.frame q ≡ Yellow = found-from v goal q l past m Yellow lasting found e ∙ h.1 in
              let short : run q Yellow (l ∷ past) ≢ yellow_time (latched q Yellow v.tables (l ∷ past)) q = eqb-false _ _ h.0 in
              let more : run q Yellow (m ∷ l ∷ past) ≡ run q Yellow (l ∷ past) + 1 = run-on q Yellow m (l ∷ past) is in
              let time : yellow_time (latched q Yellow v.tables (m ∷ l ∷ past)) q ≡ yellow_time (latched q Yellow v.tables (l ∷ past)) q
              = ap (λ (u : Tables). yellow_time u q) (latched-goes q Yellow v.tables m (l ∷ past) is found.tables) in
              shown Yellow is (record { rest = omega arith; within = omega arith })
        ]
      where
        short-revert : (rr ticks run clear revert : ℕ) → run ≡ 1 → rr ≤ revert → ticks + 1 ≤ clear → rr + (ticks + 1) + 1 ≤ run + clear + revert
        short-revert rr ticks run clear revert e h k = omega arith
    by Clear e s =
        let rest : ticks + (red_clear_time (latched q Clear v.tables (l ∷ past)) q + 1 - run q Clear (l ∷ past)) ≤ g.clear = s.rest in
        let within : run q Clear (l ∷ past) ≤ red_clear_time (latched q Clear v.tables (l ∷ past)) q = s.within in
        elim (clear-goes q v.tables (l ∷ past)) [
          | inl h ↦
              let is : colour_of m.frame q ≡ Red = found-from v goal q l past m Clear lasting found e ∙ h.1 in
              let once : run q Red (m ∷ l ∷ past) ≡ 1 = run-first q Red Clear m l past is e refl in
              let revert : red_revert_time v.tables q ≤ g.revert = keeps.revert in
              shown Red is (short-revert (red_revert_time v.tables q) ticks (run q Red (m ∷ l ∷ past)) g.clear g.revert once revert (omega arith))
          | inr h ↦
              let is : colour_of m.frame q ≡ Clear = found-from v goal q l past m Clear lasting found e ∙ h.1 in
              let short : run q Clear (l ∷ past) ≢ red_clear_time (latched q Clear v.tables (l ∷ past)) q = eqb-false _ _ h.0 in
              let more : run q Clear (m ∷ l ∷ past) ≡ run q Clear (l ∷ past) + 1 = run-on q Clear m (l ∷ past) is in
              let time : red_clear_time (latched q Clear v.tables (m ∷ l ∷ past)) q ≡ red_clear_time (latched q Clear v.tables (l ∷ past)) q
              = ap (λ (u : Tables). red_clear_time u q) (latched-goes q Clear v.tables m (l ∷ past) is found.tables) in
              shown Clear is (record { rest = omega arith; within = omega arith })
        ]
      where
        short-revert : (rr ticks run clear revert : ℕ) → run ≡ 1 → rr ≤ revert → ticks + 1 ≤ clear → rr + (ticks + 1) + 1 ≤ run + clear + revert
        short-revert rr ticks run clear revert e h k = omega arith
    by Red e s = elim (end-choice (is_in (goal_moves v goal).begins q) Green Red) [
      | inl h ↦ shown Green (found-from v goal q l past m Red lasting found e ∙ h.1) tt
      | inr h ↦
          let is : colour_of m.frame q ≡ Red = found-from v goal q l past m Red lasting found e ∙ h.1 in
          shown Red is (longer (red_revert_time v.tables q) ticks (run q Red (l ∷ past)) (run q Red (m ∷ l ∷ past)) g.clear g.revert
          (run-on q Red m (l ∷ past) is) s)
    ]
      where
        longer : (rr ticks run more clear revert : ℕ) → more ≡ run + 1 → rr + ticks + 1 ≤ run + clear + revert → rr + (ticks + 1) + 1 ≤ more + clear + revert
        longer rr ticks run more clear revert e h = omega arith

-- after the greatest clearance and red revert it is Green, or may begin
pub goal-ready : (g : Greatest) (t : Tables) (q ticks : ℕ) (past : List Moment) (x : Colour) → g.clear + g.revert ≤ ticks + 1 → g.clear + 1 ≤ ticks
    → GoalStands g t q ticks past x
    → (x ≡ Green) ⊎ ((x ≡ Red) × (lasts (red_revert_time t q) (shows q Red) past ≡ true))
goal-ready g t q ticks past Green late cleared s = inl refl
goal-ready g t q ticks past Yellow late cleared s = absurd (omega (arith, s.rest, s.within))
goal-ready g t q ticks past Clear late cleared s = absurd (omega (arith, s.rest, s.within))
goal-ready g t q ticks past Red late cleared s =
    inr (
      refl,
      lasts-counted (red_revert_time t q) (shows q Red) past
          ∙ fits (red_revert_time t q) (run q Red past) (enough (red_revert_time t q) ticks (run q Red past) g.clear g.revert s late),
    )
  where
    enough : (rr ticks run clear revert : ℕ) → rr + ticks + 1 ≤ run + clear + revert → clear + revert ≤ ticks + 1 → rr ≤ run
    enough rr ticks run clear revert h k = omega arith

-- with everything else off, a Red phase of the goal that may begin does
pub goal-begins : (v : View) (n q : ℕ) (goal : List ℕ) → Sought v n goal → is_in goal q ≡ true
    → ((p : ℕ) → is_enabled v.tables p ≡ true → is_in goal p ≡ false → colour_of v.frame p ≡ Red) → colour_of v.frame q ≡ Red → is_startable v q ≡ true
    → is_in (goal_moves v goal).begins q ≡ true
goal-begins v n q goal sought goes off red may = elim (sought.rings q (sought.enabled q goes)) [
  | inl one ↦ in-left (goal_beginning_in v goal 1) (goal_beginning_in v goal 2) q (begins 1 (inl refl) (inr refl) one)
  | inr two ↦ in-right (goal_beginning_in v goal 1) (goal_beginning_in v goal 2) q (begins 2 (inr refl) (inl refl) two)
]
  where
    -- what is on in a ring is of the goal
    on-goal : (r : ℕ) → (r ≡ 1) ⊎ (r ≡ 2) → (on_phase v r ≡ 0) ⊎ (is_in goal (on_phase v r) ≡ true)
    on-goal r which = elim (sought.named r which) [
      | inl z ↦ inl z
      | inr h ↦ elim (cases_Bool (is_in goal (on_phase v r))) [
        | inl i ↦ inr i
        | inr o ↦ absurd (h.1 (off (on_phase v r) h.0 o))
      ]
    ]

    right : (a b : Bool) → b ≡ true → (a || b) ≡ true
    right true b e = refl
    right false b e = e

    opened : (r : ℕ) → on_phase v r ≡ 0 → is_open v r ≡ true
    opened r z = rw z refl

    own-open : (r : ℕ) → (r ≡ 1) ⊎ (r ≡ 2) → ring_of v.tables q ≡ r → is_open v r ≡ true
    own-open r which ring = elim (sought.named r which) [
      | inl z ↦ opened r z
      | inr h ↦ elim (on-goal r which) [
        | inl z ↦ opened r z
        | inr i ↦ absurd (h.1 (ap (colour_of v.frame) (sought.single (on_phase v r) q i goes (h.2 ∙ sym ring)) ∙ red))
      ]
    ]

    beside : (r : ℕ) → (r ≡ 1) ⊎ (r ≡ 2) → (is_open v r || are_of_one_side v.tables (on_phase v r) q) ≡ true
    beside r which = elim (on-goal r which) [
      | inl z ↦ ap (λ (b : Bool). b || are_of_one_side v.tables (on_phase v r) q) (opened r z)
      | inr i ↦ right (is_open v r) _ (sought.side (on_phase v r) q i goes)
    ]

    begins : (r : ℕ) → (r ≡ 1) ⊎ (r ≡ 2) → (other_ring r ≡ 1) ⊎ (other_ring r ≡ 2) → ring_of v.tables q ≡ r → is_in (goal_beginning_in v goal r) q ≡ true
    begins r which beyond ring =
        subst (λ (b : Bool). is_in (if b then first
        (λ x. ring_of v.tables x == r && is_startable v x &&
        (is_open v (other_ring r) || are_of_one_side v.tables (on_phase v (other_ring r)) x)) goal else []) q ≡ true)
        (sym (own-open r which ring))
        (finds-only (λ x. ring_of v.tables x == r && is_startable v x &&
        (is_open v (other_ring r) || are_of_one_side v.tables (on_phase v (other_ring r)) x)) goal q goes
        (and_from (ring_of v.tables q == r && is_startable v q) _ (and_from (ring_of v.tables q == r) (is_startable v q) ((Decides-eqb _ _).1 ring) may)
        (beside (other_ring r) beyond))
        (λ x i p.
        let a = and_parts (ring_of v.tables x == r && is_startable v x) _ p in
        let b = and_parts (ring_of v.tables x == r) (is_startable v x) a.0 in
        sought.single x q i goes ((Decides-eqb _ _).0 b.0 ∙ sym ring)))
