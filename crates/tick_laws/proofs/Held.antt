-- A tick, for a phase that the pattern holds.
use Rattle.std.proofs.Common.{◌≡◌, ◌≢◌, ◌⊎◌, inl, inr, ℕ, ◌+◌, ◌-◌, ◌<◌, ◌≤◌, ◌==◌, true, false, List, ◌∷◌, refl, sym, ◌∙◌, subst, arith}
use Rattle.std.proofs.lemmas.Bool.{eqb-true, eqb-false}
use Rattle.sig_types.specs.declared.frame.Colour.{Colour}
use Rattle.sig_types.specs.declared.frame.Colour.TheVariants.{Green, Yellow, Clear, Red}
use Rattle.sig_types.specs.Phases.{is_in}
use Rattle.sig_types.specs.Colour.{same_colour, colour_of}
use Rattle.sig_tables.specs.declared.tables.Tables.{Tables}
use Rattle.sig_tables.specs.Tables.{clearance, yellow_time, red_clear_time, red_revert_time}
use Rattle.sig_tables.specs.Slots.{cycle_time, window, force_point, least_service}
use Rattle.sig_tables.specs.Past.{Moment}
use Rattle.sig_tables.specs.Looking.{run, lasts, shows}
use Rattle.sig_tables.specs.Moves.{Moves}
use Rattle.sig_tables.proofs.Lasting.{lasts-counted}
use Rattle.std.proofs.lemmas.Bool.{le-leb}
use Rattle.tick_laws.specs.Cycle.{ReturnsInTime, RestsInTime}
use Rattle.tick_laws.proofs.Cycle.{held-ends, held-clears, held-reds, held-rests, held-not_clearing, held-startable}
use Rattle.tick_laws.specs.Phases.{Next, Held, HeldMoves, FitsAfter, HeldYellow, HeldClear, HeldStands}
use Rattle.tick_laws.proofs.Runs.{run-on, run-first, latched-on, latched-first}
use Rattle.tick_laws.proofs.Others.{yellow-next, clear-next, end-choice, from-colour}

green-goes : (t : Tables) (n q c d : ℕ) (moves : Moves) (l : Moment) (past : List Moment) (m : Moment) → 1 ≤ yellow_time t q
    → HeldMoves t n q d moves → Next t n q c d moves (l ∷ past) m → colour_of l.frame q ≡ Green
    → HeldStands t n q d (m ∷ l ∷ past) (colour_of m.frame q)
green-goes t n q c d moves l past m some om next e =
    elim (end-choice (is_in moves.ends q) Yellow Green) [
      | inl h ↦
          let is : colour_of m.frame q ≡ Yellow = from-colour t n q c d moves l past m Green next e ∙ h.1 in
          let first : run q Yellow (m ∷ l ∷ past) ≡ 1 = run-first q Yellow Green m l past is e refl in
          let x : FitsAfter t n q d = om.other h.0 in
          let in_time : ReturnsInTime (cycle_time t n) (force_point t n q) (red_revert_time t q) d (clearance t q)
          = held-ends (cycle_time t n) (window t n) (force_point t n q) (clearance t q) (red_revert_time t q) d (force_point t n x.phase) (clearance t x.phase)
          (least_service t x.phase) x.wait x.other (om.past h.0) x.fits x.clears x.revert in
          let left : clearance t q ≡ clearance t q + 1 - run q Yellow (m ∷ l ∷ past) = omega arith in
          subst (λ (x : Colour). HeldStands t n q d (m ∷ l ∷ past) x) (sym is) (record {
            in_time = subst (λ (x : ℕ). ReturnsInTime (cycle_time t n) (force_point t n q) (red_revert_time t q) d x) left in_time;
            within = omega arith;
            latched = latched-first q Yellow Green t m l past is e refl next.tables;
          })
      | inr h ↦
          let is : colour_of m.frame q ≡ Green = from-colour t n q c d moves l past m Green next e ∙ h.1 in
          subst (λ (x : Colour). HeldStands t n q d (m ∷ l ∷ past) x) (sym is) tt
    ]

-- Red from now on, with at least this frame
reds : (t : Tables) (n q d : ℕ) (l : Moment) (past : List Moment) (m : Moment) (before : Colour) → colour_of l.frame q ≡ before → same_colour before Red ≡ false
    → colour_of m.frame q ≡ Red → RestsInTime (cycle_time t n) (force_point t n q) (red_revert_time t q) d 1
    → HeldStands t n q d (m ∷ l ∷ past) (colour_of m.frame q)
reds t n q d l past m before e differs is r =
    subst (λ (x : Colour). HeldStands t n q d (m ∷ l ∷ past) x) (sym is)
    (subst (λ (x : ℕ). RestsInTime (cycle_time t n) (force_point t n q) (red_revert_time t q) d x) (sym (run-first q Red before m l past is e differs)) r)

-- a red revert lasts at least one tick
revert-some : (t : Tables) (q : ℕ) → 1 ≤ red_revert_time t q
revert-some t q = omega arith

yellow-goes : (t : Tables) (n q c d : ℕ) (moves : Moves) (l : Moment) (past : List Moment) (m : Moment) → Held t n q
    → Next t n q c d moves (l ∷ past) m → colour_of l.frame q ≡ Yellow → HeldYellow t n q c (l ∷ past)
    → HeldStands t n q d (m ∷ l ∷ past) (colour_of m.frame q)
yellow-goes t n q c d moves l past m times next e g = elim (yellow-next q t (l ∷ past) g.latched) [
  | inl h ↦
      let ran : run q Yellow (l ∷ past) ≡ yellow_time t q = eqb-true _ _ h.0 in
      elim (end-choice (red_clear_time t q == 0) Red Clear) [
        | inl k ↦
            let none : red_clear_time t q ≡ 0 = eqb-true _ _ k.0 in
            let is : colour_of m.frame q ≡ Red = from-colour t n q c d moves l past m Yellow next e ∙ h.1 ∙ k.1 in
            let before : clearance t q + 1 - run q Yellow (l ∷ past) ≡ 1 = omega arith in
            reds t n q d l past m Yellow e refl is
            (held-reds (cycle_time t n) (window t n) (force_point t n q) (red_revert_time t q) c d times (revert-some t q) next.counter
            (subst (λ (x : ℕ). ReturnsInTime (cycle_time t n) (force_point t n q) (red_revert_time t q) c x) before g.in_time))
        | inr k ↦
            let is : colour_of m.frame q ≡ Clear = from-colour t n q c d moves l past m Yellow next e ∙ h.1 ∙ k.1 in
            let some : red_clear_time t q ≢ 0 = eqb-false _ _ k.0 in
            let first : run q Clear (m ∷ l ∷ past) ≡ 1 = run-first q Clear Yellow m l past is e refl in
            let before : clearance t q + 1 - run q Yellow (l ∷ past) ≡ red_clear_time t q + 1 = omega arith in
            let left : red_clear_time t q ≡ red_clear_time t q + 1 - run q Clear (m ∷ l ∷ past) = omega arith in
            let in_time : ReturnsInTime (cycle_time t n) (force_point t n q) (red_revert_time t q) d (red_clear_time t q)
            = held-clears (cycle_time t n) (window t n) (force_point t n q) (red_revert_time t q) c d (red_clear_time t q) times
            (revert-some t q) next.counter
            (subst (λ (x : ℕ). ReturnsInTime (cycle_time t n) (force_point t n q) (red_revert_time t q) c x) before g.in_time) (omega arith) in
            subst (λ (x : Colour). HeldStands t n q d (m ∷ l ∷ past) x) (sym is) (record {
              in_time = subst (λ (x : ℕ). ReturnsInTime (cycle_time t n) (force_point t n q) (red_revert_time t q) d x) left in_time;
              within = omega arith;
              latched = latched-first q Clear Yellow t m l past is e refl next.tables;
            })
      ]
  | inr h ↦
      let short : run q Yellow (l ∷ past) ≢ yellow_time t q = eqb-false _ _ h.0 in
      let is : colour_of m.frame q ≡ Yellow = from-colour t n q c d moves l past m Yellow next e ∙ h.1 in
      let more : run q Yellow (m ∷ l ∷ past) ≡ run q Yellow (l ∷ past) + 1 = run-on q Yellow m (l ∷ past) is in
      let within : run q Yellow (l ∷ past) ≤ yellow_time t q = g.within in
      let before : clearance t q + 1 - run q Yellow (l ∷ past) ≡ clearance t q + 1 - run q Yellow (m ∷ l ∷ past) + 1 = omega arith in
      subst (λ (x : Colour). HeldStands t n q d (m ∷ l ∷ past) x) (sym is) (record {
        in_time = held-clears (cycle_time t n) (window t n) (force_point t n q) (red_revert_time t q) c d
            (clearance t q + 1 - run q Yellow (m ∷ l ∷ past)) times (revert-some t q) next.counter
            (subst (λ (x : ℕ). ReturnsInTime (cycle_time t n) (force_point t n q) (red_revert_time t q) c x) before g.in_time) (omega arith);
        within = omega arith;
        latched = latched-on q Yellow t m (l ∷ past) is next.tables g.latched;
      })
]

clear-goes : (t : Tables) (n q c d : ℕ) (moves : Moves) (l : Moment) (past : List Moment) (m : Moment) → Held t n q
    → Next t n q c d moves (l ∷ past) m → colour_of l.frame q ≡ Clear → HeldClear t n q c (l ∷ past)
    → HeldStands t n q d (m ∷ l ∷ past) (colour_of m.frame q)
clear-goes t n q c d moves l past m times next e g = elim (clear-next q t (l ∷ past) g.latched) [
  | inl h ↦
      let ran : run q Clear (l ∷ past) ≡ red_clear_time t q = eqb-true _ _ h.0 in
      let is : colour_of m.frame q ≡ Red = from-colour t n q c d moves l past m Clear next e ∙ h.1 in
      let before : red_clear_time t q + 1 - run q Clear (l ∷ past) ≡ 1 = omega arith in
      reds t n q d l past m Clear e refl is
      (held-reds (cycle_time t n) (window t n) (force_point t n q) (red_revert_time t q) c d times (revert-some t q) next.counter
      (subst (λ (x : ℕ). ReturnsInTime (cycle_time t n) (force_point t n q) (red_revert_time t q) c x) before g.in_time))
  | inr h ↦
      let short : run q Clear (l ∷ past) ≢ red_clear_time t q = eqb-false _ _ h.0 in
      let is : colour_of m.frame q ≡ Clear = from-colour t n q c d moves l past m Clear next e ∙ h.1 in
      let more : run q Clear (m ∷ l ∷ past) ≡ run q Clear (l ∷ past) + 1 = run-on q Clear m (l ∷ past) is in
      let within : run q Clear (l ∷ past) ≤ red_clear_time t q = g.within in
      let before : red_clear_time t q + 1 - run q Clear (l ∷ past) ≡ red_clear_time t q + 1 - run q Clear (m ∷ l ∷ past) + 1 = omega arith in
      subst (λ (x : Colour). HeldStands t n q d (m ∷ l ∷ past) x) (sym is) (record {
        in_time = held-clears (cycle_time t n) (window t n) (force_point t n q) (red_revert_time t q) c d
            (red_clear_time t q + 1 - run q Clear (m ∷ l ∷ past)) times (revert-some t q) next.counter
            (subst (λ (x : ℕ). ReturnsInTime (cycle_time t n) (force_point t n q) (red_revert_time t q) c x) before g.in_time) (omega arith);
        within = omega arith;
        latched = latched-on q Clear t m (l ∷ past) is next.tables g.latched;
      })
]

red-goes : (t : Tables) (n q c d : ℕ) (moves : Moves) (l : Moment) (past : List Moment) (m : Moment) → Held t n q → 1 ≤ d
    → Next t n q c d moves (l ∷ past) m → colour_of l.frame q ≡ Red
    → RestsInTime (cycle_time t n) (force_point t n q) (red_revert_time t q) c (run q Red (l ∷ past))
    → HeldStands t n q d (m ∷ l ∷ past) (colour_of m.frame q)
red-goes t n q c d moves l past m times some next e g = elim (end-choice (is_in moves.begins q) Green Red) [
  | inl h ↦
      let is : colour_of m.frame q ≡ Green = from-colour t n q c d moves l past m Red next e ∙ h.1 in
      subst (λ (x : Colour). HeldStands t n q d (m ∷ l ∷ past) x) (sym is) tt
  | inr h ↦
      let is : colour_of m.frame q ≡ Red = from-colour t n q c d moves l past m Red next e ∙ h.1 in
      subst (λ (x : Colour). HeldStands t n q d (m ∷ l ∷ past) x) (sym is)
      (subst (λ (x : ℕ). RestsInTime (cycle_time t n) (force_point t n q) (red_revert_time t q) d x) (sym (run-on q Red m (l ∷ past) is))
      (held-rests (cycle_time t n) (window t n) (force_point t n q) (red_revert_time t q) c d (run q Red (l ∷ past)) times next.counter some g))
]

-- what was true at one counter is true at the next, where the cycle does not end
pub held-step : (t : Tables) (n q c d : ℕ) (moves : Moves) (l : Moment) (past : List Moment) (m : Moment) → Held t n q → 1 ≤ yellow_time t q → 1 ≤ d
    → HeldMoves t n q d moves → Next t n q c d moves (l ∷ past) m → HeldStands t n q c (l ∷ past) (colour_of l.frame q)
    → HeldStands t n q d (m ∷ l ∷ past) (colour_of m.frame q)
held-step t n q c d moves l past m times yellow some om next = by (colour_of l.frame q) refl
  where
    by : (x : Colour) → colour_of l.frame q ≡ x → HeldStands t n q c (l ∷ past) x → HeldStands t n q d (m ∷ l ∷ past) (colour_of m.frame q)
    by Green e g = green-goes t n q c d moves l past m yellow om next e
    by Yellow e g = yellow-goes t n q c d moves l past m times next e g
    by Clear e g = clear-goes t n q c d moves l past m times next e g
    by Red e g = red-goes t n q c d moves l past m times some next e g

-- before its force point, so at local zero and within the window too, it is Green
pub held-green : (t : Tables) (n q c : ℕ) (past : List Moment) (x : Colour) → c < force_point t n q → HeldStands t n q c past x → x ≡ Green
held-green t n q c past Green early s = refl
held-green t n q c past Yellow early s = absurd (omega (arith, s.in_time.after))
held-green t n q c past Clear early s = absurd (omega (arith, s.in_time.after))
held-green t n q c past Red early s = absurd (omega (arith, s.after))

-- a Green one does not end at local zero
pub held-stays : (t : Tables) (n q c d : ℕ) (moves : Moves) (l : Moment) (past : List Moment) (m : Moment) → d < force_point t n q
    → HeldMoves t n q d moves → Next t n q c d moves (l ∷ past) m → colour_of l.frame q ≡ Green → colour_of m.frame q ≡ Green
held-stays t n q c d moves l past m early om next e = elim (end-choice (is_in moves.ends q) Yellow Green) [
  | inl h ↦ absurd (let late : force_point t n q ≤ d = om.past h.0 in omega arith)
  | inr h ↦ from-colour t n q c d moves l past m Green next e ∙ h.1
]

-- at the end of the cycle it is Green, or Red and may begin
pub held-at_zero : (t : Tables) (n q c : ℕ) (past : List Moment) (x : Colour) → c + 1 ≡ cycle_time t n → HeldStands t n q c past x
    → (x ≡ Green) ⊎ ((x ≡ Red) × (lasts (red_revert_time t q) (shows q Red) past ≡ true))
held-at_zero t n q c past Green last s = inl refl
held-at_zero t n q c past Yellow last s =
    absurd (let within : run q Yellow past ≤ yellow_time t q = s.within in
    held-not_clearing (cycle_time t n) (force_point t n q) (red_revert_time t q) c (clearance t q + 1 - run q Yellow past) (revert-some t q)
    (omega arith) last s.in_time)
held-at_zero t n q c past Clear last s =
    absurd (let within : run q Clear past ≤ red_clear_time t q = s.within in
    held-not_clearing (cycle_time t n) (force_point t n q) (red_revert_time t q) c (red_clear_time t q + 1 - run q Clear past) (revert-some t q)
    (omega arith) last s.in_time)
held-at_zero t n q c past Red last s =
    inr (
      refl,
      lasts-counted (red_revert_time t q) (shows q Red) past
          ∙ le-leb (red_revert_time t q) (run q Red past) (held-startable (cycle_time t n) (force_point t n q) (red_revert_time t q) c (run q Red past) last s),
    )
