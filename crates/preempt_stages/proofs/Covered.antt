-- Whether a goal is reached, phase by phase.
use Rattle.std.proofs.Common.{◌≡◌, ◌≢◌, ◌<◌, ◌≤◌, ◌-◌, ◌⊎◌, inl, inr, ℕ, zero, suc, Bool, true, false, not, ◌&&◌, ◌||◌, ◌==◌, List, length, refl, sym, ◌∙◌, ap, arith}
use Rattle.std.proofs.lemmas.Bool.{false≢true}
use Rattle.std.proofs.lemmas.List.{get_or_past}
use Rattle.std.proofs.lemmas.Bool.Decides.{Decides-eqb, eqb_tells, leb_tells}
use Rattle.sig_types.specs.declared.frame.Colour.{Colour}
use Rattle.sig_types.specs.declared.frame.Colour.TheVariants.{Green}
use Rattle.sig_types.specs.declared.frame.Frame.{Frame}
use Rattle.sig_types.specs.Phases.{is_phase, all_phases, is_in, some}
use Rattle.sig_types.specs.Colour.{on_in, same_colour}
use Rattle.sig_types.proofs.Lists.{eq-true, phase-listed}
use Rattle.sig_types.proofs.Sets.{in-every, listed-phase, every-from}
use Rattle.sig_tables.specs.Sums.{every}
use Rattle.sig_tables.specs.Calls.{is_green}
use Rattle.sig_tables.proofs.Below.{phase-is, is-above}
use Rattle.preempt_stages.specs.Dwelling.{is_off, NamesPhases}
use Rattle.preempt_stages.proofs.Each.{same-answer, implies, implied, every-same, every-both, not-some}

-- phase p is asked for: it is listed, or is phase 1 and the octet 0 is
abbrev pub is_due : List ℕ → ℕ → Bool
is_due xs p = is_in xs p || (p == 1 && is_in xs 0)

due-listed : (xs : List ℕ) (p : ℕ) → is_due xs p ≡ true → (is_in xs p ≡ true) ⊎ ((p ≡ 1) × (is_in xs 0 ≡ true))
due-listed xs p h = split (is_in xs p) refl (p == 1) refl (is_in xs 0) refl h
  where
    split : (a : Bool) → is_in xs p ≡ a → (b : Bool) → (p == 1) ≡ b → (z : Bool) → is_in xs 0 ≡ z → (a || (b && z)) ≡ true
        → (is_in xs p ≡ true) ⊎ ((p ≡ 1) × (is_in xs 0 ≡ true))
    split true ea b eb z ez k = inl ea
    split false ea true eb true ez k = inr (eq-true p 1 eb, ez)
    split false ea true eb false ez k = absurd (false≢true k)
    split false ea false eb z ez k = absurd (false≢true k)

listed-due : (xs : List ℕ) (p : ℕ) → is_in xs p ≡ true → is_due xs p ≡ true
listed-due xs p h = rw h refl

-- a test that takes 0 for 1, and that each number past 16 passes, holds of all that are listed where it holds of each phase that is
-- asked for
pub covered : (test : ℕ → Bool) (xs : List ℕ) → test 0 ≡ test 1 → ((q : ℕ) → 16 < q → test q ≡ true)
    → every test xs ≡ not (some (λ p. is_due xs p && not (test p)) all_phases)
covered test xs zeroth beyond =
    same-answer (every test xs) (every (λ p. not (is_due xs p && not (test p))) all_phases) down up
    ∙ sym (not-some (λ p. is_due xs p && not (test p)) all_phases)
  where
    down : every test xs ≡ true → every (λ p. not (is_due xs p && not (test p))) all_phases ≡ true
    down h = every-from (λ p. not (is_due xs p && not (test p))) all_phases
        (λ p i. implies (is_due xs p) (test p) (λ d. elim (due-listed xs p d) [
          | inl l ↦ in-every test xs p h l
          | inr o ↦ ap test o.0 ∙ sym zeroth ∙ in-every test xs 0 h o.1
        ]))

    phase : every (λ p. not (is_due xs p && not (test p))) all_phases ≡ true → (p : ℕ) → is_phase p ≡ true → is_due xs p ≡ true → test p ≡ true
    phase h p is due =
        implied (is_due xs p) (test p) (in-every (λ p. not (is_due xs p && not (test p))) all_phases p h (phase-listed p is)) due

    each : every (λ p. not (is_due xs p && not (test p))) all_phases ≡ true → (q : ℕ) → is_in xs q ≡ true → test q ≡ true
    each h zero l =
        let due : is_due xs 1 ≡ true = split (is_in xs 1) l in
        zeroth ∙ phase h 1 refl due
      where
        split : (a : Bool) → is_in xs 0 ≡ true → (a || (true && is_in xs 0)) ≡ true
        split true k = refl
        split false k = k
    each h (suc q) l = elim (leb_tells (suc q) 16) [
      | inl (t, few) ↦ let is : is_phase (suc q) ≡ true = phase-is (suc q) (omega arith) few in phase h (suc q) is (listed-due xs (suc q) l)
      | inr (t, many) ↦ beyond (suc q) (omega arith)
    ]

    up : every (λ p. not (is_due xs p && not (test p))) all_phases ≡ true → every test xs ≡ true
    up h = every-from test xs (each h)

or-false : (b : Bool) → (b || false) ≡ b
or-false true = refl
or-false false = refl

or-true : (b : Bool) → (b || true) ≡ true
or-true true = refl
or-true false = refl

-- what a ring has on is nothing or listed where each other phase is not what it has on
one-ring : (xs : List ℕ) (x : ℕ) → x ≤ 16 → (x == 0 || is_in xs x) ≡ every (λ p. is_in xs p || not (x == p)) all_phases
one-ring xs x few = same-answer (x == 0 || is_in xs x) (every (λ p. is_in xs p || not (x == p)) all_phases) down up
  where
    down : (x == 0 || is_in xs x) ≡ true → every (λ p. is_in xs p || not (x == p)) all_phases ≡ true
    down h = every-from (λ p. is_in xs p || not (x == p)) all_phases (λ p i. elim (eqb_tells x p) [
      | inl (t, e) ↦
          let above : 0 < p = is-above p (listed-phase p i) in
          let some : x ≢ 0 = omega arith in
          let listed : is_in xs x ≡ true = elim (eqb_tells x 0) [ inl (u, z) ↦ absurd (some z) | inr (u, n) ↦ rw u at h ] in
          let same : is_in xs p ≡ true = ap (λ (k : ℕ). is_in xs k) (sym e) ∙ listed in
          rw same refl
      | inr (t, n) ↦ rw t (or-true (is_in xs p))
    ])

    up : every (λ p. is_in xs p || not (x == p)) all_phases ≡ true → (x == 0 || is_in xs x) ≡ true
    up h = elim (eqb_tells x 0) [
      | inl (t, z) ↦ rw t refl
      | inr (t, n) ↦
          let is : is_phase x ≡ true = phase-is x (omega arith) few in
          let own = in-every (λ p. is_in xs p || not (x == p)) all_phases x h (phase-listed x is) in
          let itself : (x == x) ≡ true = (Decides-eqb x x).1 refl in
          let listed : is_in xs x ≡ true = sym (or-false (is_in xs x)) ∙ (rw itself at own) in
          rw (t, listed) refl
    ]

-- what is on is nothing or of the goal where each phase is of the goal or on in no ring
pub on-listed : (f : Frame) (xs : List ℕ) → NamesPhases f
    → ((on_in f 1 == 0 || is_in xs (on_in f 1)) && (on_in f 2 == 0 || is_in xs (on_in f 2))) ≡ every (λ p. is_in xs p || is_off f p) all_phases
on-listed f xs names =
    rw (one-ring xs (on_in f 1) names.first, one-ring xs (on_in f 2) names.second)
    (sym (every-both (λ p. is_in xs p || not (on_in f 1 == p)) (λ p. is_in xs p || not (on_in f 2 == p)) all_phases)
    ∙ every-same (λ p. (is_in xs p || not (on_in f 1 == p)) && (is_in xs p || not (on_in f 2 == p))) (λ p. is_in xs p || is_off f p)
    all_phases (λ p i. split (is_in xs p) (not (on_in f 1 == p)) (not (on_in f 2 == p))))
  where
    split : (a b c : Bool) → ((a || b) && (a || c)) ≡ (a || (b && c))
    split true b c = refl
    split false b c = refl

-- a number past the last of sixteen phases counts as Green
pub past-green : (f : Frame) (q : ℕ) → 16 < q → length f.veh ≡ 16 → is_green f q ≡ true
past-green f q many wide =
    let past : length f.veh ≤ q - 1 = omega (arith, wide) in
    ap (λ (colour : Colour). same_colour colour Green) (get_or_past f.veh (q - 1) Green past)
