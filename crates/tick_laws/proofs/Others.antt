-- A tick, for a phase that the pattern does not hold.
use Rattle.std.proofs.Common.{◌≡◌, ◌≢◌, ◌⊎◌, inl, inr, ℕ, ◌+◌, ◌-◌, ◌<◌, ◌≤◌, ◌==◌, Bool, true, false, if◌then◌else◌, List, ◌∷◌, refl, sym, ◌∙◌, ap, subst, arith}
use Rattle.std.proofs.lemmas.Bool.{cases_Bool, cases_lt, both_ways, eqb-true, eqb-false}
use Rattle.sig_types.specs.declared.frame.Colour.{Colour}
use Rattle.sig_types.specs.declared.frame.Colour.TheVariants.{Green, Yellow, Clear, Red}
use Rattle.sig_types.specs.Phases.{is_in}
use Rattle.sig_types.specs.Colour.{colour_of}
use Rattle.sig_tables.specs.declared.tables.Tables.{Tables}
use Rattle.sig_tables.specs.Tables.{clearance, yellow_time, red_clear_time}
use Rattle.sig_tables.specs.Slots.{cycle_time, window, force_point, least_service}
use Rattle.sig_tables.specs.Past.{Moment}
use Rattle.sig_tables.specs.Looking.{run, latched, runs_on}
use Rattle.sig_tables.specs.Moves.{Moves}
use Rattle.sig_tables.specs.Decide.{colour_after}
use Rattle.tick_laws.specs.Cycle.{GreenInTime, ClearsInTime}
use Rattle.tick_laws.proofs.Cycle.{other-begins, other-fits, other-stays, other-ends, other-clears, other-not_green, other-off}
use Rattle.tick_laws.specs.Phases.{Next, Other, OtherMoves, OtherGreen, OtherYellow, OtherClear, OtherStands}
use Rattle.tick_laws.proofs.Runs.{run-on, run-first, latched-on, latched-first}

-- what a yellow that has run its latched time gives way to
pub yellow-next : (p : ℕ) (t : Tables) (past : List Moment) → latched p Yellow t past ≡ t
    → (((run p Yellow past == yellow_time t p) ≡ true) × (runs_on p t past Yellow ≡ (if red_clear_time t p == 0 then Red else Clear)))
    ⊎ (((run p Yellow past == yellow_time t p) ≡ false) × (runs_on p t past Yellow ≡ Yellow))
yellow-next p t past l = elim (cases_Bool (run p Yellow past == yellow_time t p)) [
  | inl e ↦ inl (e, rw (l, e) refl)
  | inr e ↦ inr (e, rw (l, e) refl)
]

pub clear-next : (p : ℕ) (t : Tables) (past : List Moment) → latched p Clear t past ≡ t
    → (((run p Clear past == red_clear_time t p) ≡ true) × (runs_on p t past Clear ≡ Red))
    ⊎ (((run p Clear past == red_clear_time t p) ≡ false) × (runs_on p t past Clear ≡ Clear))
clear-next p t past l = elim (cases_Bool (run p Clear past == red_clear_time t p)) [
  | inl e ↦ inl (e, rw (l, e) refl)
  | inr e ↦ inr (e, rw (l, e) refl)
]

pub end-choice : (b : Bool) (x y : Colour) → ((b ≡ true) × ((if b then x else y) ≡ x)) ⊎ ((b ≡ false) × ((if b then x else y) ≡ y))
end-choice true x y = inl (refl, refl)
end-choice false x y = inr (refl, refl)

-- the colour of the moment, from that before it
pub from-colour : (t : Tables) (n p c d : ℕ) (moves : Moves) (l : Moment) (past : List Moment) (m : Moment) (x : Colour) → Next t n p c d moves (l ∷ past) m
    → colour_of l.frame p ≡ x → colour_of m.frame p ≡ colour_after moves p t (l ∷ past) x
from-colour t n p c d moves l past m x next e = next.colour ∙ ap (λ (y : Colour). colour_after moves p t (l ∷ past) y) e

green-goes : (t : Tables) (n p c d : ℕ) (moves : Moves) (l : Moment) (past : List Moment) (m : Moment) → Other t n p → 1 ≤ yellow_time t p
    → OtherMoves t n p d moves (l ∷ past) → Next t n p c d moves (l ∷ past) m → colour_of l.frame p ≡ Green → OtherGreen t n p c (l ∷ past)
    → OtherStands t n p d (m ∷ l ∷ past) (colour_of m.frame p)
green-goes t n p c d moves l past m times some om next e g =
    elim (end-choice (is_in moves.ends p) Yellow Green) [
      | inl h ↦
          let is : colour_of m.frame p ≡ Yellow = from-colour t n p c d moves l past m Green next e ∙ h.1 in
          let first : run p Yellow (m ∷ l ∷ past) ≡ 1 = run-first p Yellow Green m l past is e refl in
          let in_time : ClearsInTime (cycle_time t n) (window t n) d (clearance t p)
          = other-ends (cycle_time t n) (window t n) (force_point t n p) (clearance t p) (least_service t p) c d
          (run p Green (l ∷ past)) times next.counter g.in_time in
          let left : clearance t p ≡ clearance t p + 1 - run p Yellow (m ∷ l ∷ past) = omega arith in
          subst (λ (x : Colour). OtherStands t n p d (m ∷ l ∷ past) x) (sym is) (record {
            in_time = subst (λ (x : ℕ). ClearsInTime (cycle_time t n) (window t n) d x) left in_time;
            within = omega arith;
            latched = latched-first p Yellow Green t m l past is e refl next.tables;
          })
      | inr h ↦
          let is : colour_of m.frame p ≡ Green = from-colour t n p c d moves l past m Green next e ∙ h.1 in
          let early : d < force_point t n p = elim (cases_lt d (force_point t n p)) [
            | inl k ↦ k
            | inr k ↦ absurd
                (both_ways (is_in moves.ends p) h.0 (om.forced e k))
          ] in
          let in_time : GreenInTime (window t n) (force_point t n p) (least_service t p) d (run p Green (l ∷ past) + 1)
          = other-stays (cycle_time t n) (window t n) (force_point t n p) (clearance t p) (least_service t p) c d
          (run p Green (l ∷ past)) times next.counter g.in_time early in
          subst (λ (x : Colour). OtherStands t n p d (m ∷ l ∷ past) x) (sym is) (record {
            in_time = subst (λ (x : ℕ). GreenInTime (window t n) (force_point t n p) (least_service t p) d x) (sym (run-on p Green m (l ∷ past) is)) in_time;
            latched = latched-on p Green t m (l ∷ past) is next.tables g.latched;
          })
    ]

yellow-goes : (t : Tables) (n p c d : ℕ) (moves : Moves) (l : Moment) (past : List Moment) (m : Moment)
    → Next t n p c d moves (l ∷ past) m → colour_of l.frame p ≡ Yellow → OtherYellow t n p c (l ∷ past)
    → OtherStands t n p d (m ∷ l ∷ past) (colour_of m.frame p)
yellow-goes t n p c d moves l past m next e g = elim (yellow-next p t (l ∷ past) g.latched) [
  | inl h ↦
      let ran : run p Yellow (l ∷ past) ≡ yellow_time t p = eqb-true _ _ h.0 in
      elim (end-choice (red_clear_time t p == 0) Red Clear) [
        | inl k ↦
            let is : colour_of m.frame p ≡ Red = from-colour t n p c d moves l past m Yellow next e ∙ h.1 ∙ k.1 in
            subst (λ (x : Colour). OtherStands t n p d (m ∷ l ∷ past) x) (sym is) tt
        | inr k ↦
            let is : colour_of m.frame p ≡ Clear = from-colour t n p c d moves l past m Yellow next e ∙ h.1 ∙ k.1 in
            let some : red_clear_time t p ≢ 0 = eqb-false _ _ k.0 in
            let first : run p Clear (m ∷ l ∷ past) ≡ 1 = run-first p Clear Yellow m l past is e refl in
            let before : clearance t p + 1 - run p Yellow (l ∷ past) ≡ red_clear_time t p + 1 = omega arith in
            let left : red_clear_time t p ≡ red_clear_time t p + 1 - run p Clear (m ∷ l ∷ past) = omega arith in
            let in_time : ClearsInTime (cycle_time t n) (window t n) d (red_clear_time t p)
            = other-clears (cycle_time t n) (window t n) c d (red_clear_time t p) next.counter
            (subst (λ (x : ℕ). ClearsInTime (cycle_time t n) (window t n) c x) before g.in_time) (omega arith) in
            subst (λ (x : Colour). OtherStands t n p d (m ∷ l ∷ past) x) (sym is) (record {
              in_time = subst (λ (x : ℕ). ClearsInTime (cycle_time t n) (window t n) d x) left in_time;
              within = omega arith;
              latched = latched-first p Clear Yellow t m l past is e refl next.tables;
            })
      ]
  | inr h ↦
      let short : run p Yellow (l ∷ past) ≢ yellow_time t p = eqb-false _ _ h.0 in
      let is : colour_of m.frame p ≡ Yellow = from-colour t n p c d moves l past m Yellow next e ∙ h.1 in
      let more : run p Yellow (m ∷ l ∷ past) ≡ run p Yellow (l ∷ past) + 1 = run-on p Yellow m (l ∷ past) is in
      let within : run p Yellow (l ∷ past) ≤ yellow_time t p = g.within in
      let before : clearance t p + 1 - run p Yellow (l ∷ past) ≡ clearance t p + 1 - run p Yellow (m ∷ l ∷ past) + 1 = omega arith in
      subst (λ (x : Colour). OtherStands t n p d (m ∷ l ∷ past) x) (sym is) (record {
        in_time = other-clears (cycle_time t n) (window t n) c d (clearance t p + 1 - run p Yellow (m ∷ l ∷ past)) next.counter
            (subst (λ (x : ℕ). ClearsInTime (cycle_time t n) (window t n) c x) before g.in_time) (omega arith);
        within = omega arith;
        latched = latched-on p Yellow t m (l ∷ past) is next.tables g.latched;
      })
]

clear-goes : (t : Tables) (n p c d : ℕ) (moves : Moves) (l : Moment) (past : List Moment) (m : Moment)
    → Next t n p c d moves (l ∷ past) m → colour_of l.frame p ≡ Clear → OtherClear t n p c (l ∷ past)
    → OtherStands t n p d (m ∷ l ∷ past) (colour_of m.frame p)
clear-goes t n p c d moves l past m next e g = elim (clear-next p t (l ∷ past) g.latched) [
  | inl h ↦
      let is : colour_of m.frame p ≡ Red = from-colour t n p c d moves l past m Clear next e ∙ h.1 in
      subst (λ (x : Colour). OtherStands t n p d (m ∷ l ∷ past) x) (sym is) tt
  | inr h ↦
      let short : run p Clear (l ∷ past) ≢ red_clear_time t p = eqb-false _ _ h.0 in
      let is : colour_of m.frame p ≡ Clear = from-colour t n p c d moves l past m Clear next e ∙ h.1 in
      let more : run p Clear (m ∷ l ∷ past) ≡ run p Clear (l ∷ past) + 1 = run-on p Clear m (l ∷ past) is in
      let within : run p Clear (l ∷ past) ≤ red_clear_time t p = g.within in
      let before : red_clear_time t p + 1 - run p Clear (l ∷ past) ≡ red_clear_time t p + 1 - run p Clear (m ∷ l ∷ past) + 1 = omega arith in
      subst (λ (x : Colour). OtherStands t n p d (m ∷ l ∷ past) x) (sym is) (record {
        in_time = other-clears (cycle_time t n) (window t n) c d (red_clear_time t p + 1 - run p Clear (m ∷ l ∷ past)) next.counter
            (subst (λ (x : ℕ). ClearsInTime (cycle_time t n) (window t n) c x) before g.in_time) (omega arith);
        within = omega arith;
        latched = latched-on p Clear t m (l ∷ past) is next.tables g.latched;
      })
]

red-goes : (t : Tables) (n p c d : ℕ) (moves : Moves) (l : Moment) (past : List Moment) (m : Moment) → Other t n p
    → OtherMoves t n p d moves (l ∷ past) → Next t n p c d moves (l ∷ past) m → colour_of l.frame p ≡ Red
    → OtherStands t n p d (m ∷ l ∷ past) (colour_of m.frame p)
red-goes t n p c d moves l past m times om next e = elim (end-choice (is_in moves.begins p) Green Red) [
  | inl h ↦
      let is : colour_of m.frame p ≡ Green = from-colour t n p c d moves l past m Red next e ∙ h.1 in
      subst (λ (x : Colour). OtherStands t n p d (m ∷ l ∷ past) x) (sym is) (record {
        in_time = subst (λ (x : ℕ). GreenInTime (window t n) (force_point t n p) (least_service t p) d x) (sym (run-first p Green Red m l past is e refl))
            (other-begins (window t n) (force_point t n p) (least_service t p) d times.some (om.fits h.0));
        latched = latched-first p Green Red t m l past is e refl next.tables;
      })
  | inr h ↦
      let is : colour_of m.frame p ≡ Red = from-colour t n p c d moves l past m Red next e ∙ h.1 in
      subst (λ (x : Colour). OtherStands t n p d (m ∷ l ∷ past) x) (sym is) tt
]

-- what was true at one counter is true at the next
pub other-step : (t : Tables) (n p c d : ℕ) (moves : Moves) (l : Moment) (past : List Moment) (m : Moment) → Other t n p → 1 ≤ yellow_time t p
    → OtherMoves t n p d moves (l ∷ past) → Next t n p c d moves (l ∷ past) m → OtherStands t n p c (l ∷ past) (colour_of l.frame p)
    → OtherStands t n p d (m ∷ l ∷ past) (colour_of m.frame p)
other-step t n p c d moves l past m times some om next = by (colour_of l.frame p) refl
  where
    by : (x : Colour) → colour_of l.frame p ≡ x → OtherStands t n p c (l ∷ past) x → OtherStands t n p d (m ∷ l ∷ past) (colour_of m.frame p)
    by Green e g = green-goes t n p c d moves l past m times some om next e g
    by Yellow e g = yellow-goes t n p c d moves l past m next e g
    by Clear e g = clear-goes t n p c d moves l past m next e g
    by Red e g = red-goes t n p c d moves l past m times om next e

-- at local zero it is off
pub other-at_zero : (t : Tables) (n p c d : ℕ) (moves : Moves) (l : Moment) (past : List Moment) (m : Moment) → Other t n p → 1 ≤ window t n
    → OtherMoves t n p d moves (l ∷ past) → Next t n p c d moves (l ∷ past) m → OtherStands t n p c (l ∷ past) (colour_of l.frame p)
    → d ≡ 0 → c + 1 ≡ cycle_time t n → colour_of m.frame p ≡ Red
other-at_zero t n p c d moves l past m times some om next stands z last = by (colour_of l.frame p) refl stands
  where
    by : (x : Colour) → colour_of l.frame p ≡ x → OtherStands t n p c (l ∷ past) x → colour_of m.frame p ≡ Red
    by Green e g = absurd (other-not_green (cycle_time t n) (window t n) (force_point t n p) (clearance t p) (least_service t p) c
        (run p Green (l ∷ past)) times last g.in_time)
    by Yellow e g =
        let le : clearance t p + 1 - run p Yellow (l ∷ past) ≤ 1 = other-off (cycle_time t n) (window t n) c _ last g.in_time in
        let within : run p Yellow (l ∷ past) ≤ yellow_time t p = g.within in
        elim (yellow-next p t (l ∷ past) g.latched) [
          | inl h ↦ elim (end-choice (red_clear_time t p == 0) Red Clear) [
            | inl k ↦ from-colour t n p c d moves l past m Yellow next e ∙ h.1 ∙ k.1
            | inr k ↦ let short : red_clear_time t p ≢ 0 = eqb-false _ _ k.0 in absurd (omega arith)
          ]
          | inr h ↦ let short : run p Yellow (l ∷ past) ≢ yellow_time t p = eqb-false _ _ h.0 in absurd (omega arith)
        ]
    by Clear e g =
        let le : red_clear_time t p + 1 - run p Clear (l ∷ past) ≤ 1 = other-off (cycle_time t n) (window t n) c _ last g.in_time in
        let within : run p Clear (l ∷ past) ≤ red_clear_time t p = g.within in
        elim (clear-next p t (l ∷ past) g.latched) [
          | inl h ↦ from-colour t n p c d moves l past m Clear next e ∙ h.1
          | inr h ↦ let short : run p Clear (l ∷ past) ≢ red_clear_time t p = eqb-false _ _ h.0 in absurd (omega arith)
        ]
    by Red e g = elim (end-choice (is_in moves.begins p) Green Red) [
      | inl h ↦ let f : 1 ≤ d = other-fits (window t n) (force_point t n p) (least_service t p) d 0 some (om.fits h.0) in absurd (omega arith)
      | inr h ↦ from-colour t n p c d moves l past m Red next e ∙ h.1
    ]
