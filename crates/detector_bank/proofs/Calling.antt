-- The sets of called phases, and the changes from one round to the next.
use Rattle.std.proofs.Common.{◌≡◌, ℕ, zero, suc, ◌+◌, ◌-◌, ◌<◌, ◌≤◌, ◌||◌, ◌&&◌, ◌==◌, Bool, true, false, if◌then◌else◌, nat_le, nat_lt, List, [], ◌∷◌, ◌++◌, length, get_or, refl, sym, ap, ap₂, ◌∙◌, append_assoc, add-one, arith}
use Rattle.std.proofs.lemmas.Bool.{ltb-true, leb-true, lt-ltb}
use Rattle.sig_types.specs.PhaseSet.{has}
use Rattle.detector_bank.specs.declared.bank.Detector.{Detector}
use Rattle.detector_bank.specs.declared.bank.Pulse.{Pulse}
use Rattle.detector_bank.specs.declared.bank.Call.{Call}
use Rattle.detector_bank.specs.declared.detector_state.DetectorState.{DetectorState}
use Rattle.detector_bank.specs.declared.changes.Calling.{Calling}
use Rattle.detector_bank.specs.Watching.{tally, Tallies, AreCalled}
use Rattle.detector_bank.specs.Bank.{calls, called}
use Rattle.detector_bank.specs.Lists.{change, phase_changes, all_phases_changes, cabinet_changes, round_changes, calls_until}

-- a phase that is called as before changes nothing
same-change : (round cabinet phase : ℕ) (a b : Bool) → a ≡ b → change round cabinet phase a b ≡ []
same-change round cabinet phase true true e = refl
same-change round cabinet phase true false e = absurd (cc)
same-change round cabinet phase false true e = absurd (cc)
same-change round cabinet phase false false e = refl

none-more : (xs ys : List Call) → xs ≡ [] → ys ≡ [] → xs ++ ys ≡ []
none-more xs ys p q = rw (p, q) refl

pub no-changes : (ds : List Detector) (ps : List Pulse) (j cabinet n : ℕ) → ((p : ℕ) → 1 ≤ p → p ≤ n → called ds ps cabinet p (suc j) ≡ called ds ps cabinet p j)
    → phase_changes ds ps j cabinet n ≡ []
no-changes ds ps j cabinet zero same = refl
no-changes ds ps j cabinet (suc n) same =
    none-more (phase_changes ds ps j cabinet n) (change (suc j) cabinet (suc n) (called ds ps cabinet (suc n) (suc j)) (called ds ps cabinet (suc n) j))
    (no-changes ds ps j cabinet n (λ p some few. same p some (omega arith)))
    (same-change (suc j) cabinet (suc n) (called ds ps cabinet (suc n) (suc j)) (called ds ps cabinet (suc n) j) (same (suc n) (omega arith) (omega arith)))

pub phases-next : (ds : List Detector) (ps : List Pulse) (j cabinet n round phase : ℕ) (now before : Bool) (first old new : List Call) → round ≡ j + 1 → phase ≡ n + 1
    → now ≡ called ds ps cabinet phase (j + 1) → before ≡ called ds ps cabinet phase j → old ≡ first ++ phase_changes ds ps j cabinet n
    → new ≡ old ++ change round cabinet phase now before → new ≡ first ++ phase_changes ds ps j cabinet (n + 1)
phases-next ds ps j cabinet n round phase now before first old new r f a b h k =
    let own : change round cabinet phase now before ≡ change (suc j) cabinet (suc n) (called ds ps cabinet (suc n) (suc j)) (called ds ps cabinet (suc n) j) =
    same (a ∙ ap₂ (λ (m l : ℕ). called ds ps cabinet m l) (f ∙ add-one n) (add-one j)) (b ∙ ap (λ m. called ds ps cabinet m j) (f ∙ add-one n)) in
    k ∙ ap₂ (λ (xs ys : List Call). xs ++ ys) h own ∙ append_assoc first (phase_changes ds ps j cabinet n) (change (suc j) cabinet (suc n) (called ds ps cabinet (suc n) (suc j)) (called ds ps cabinet (suc n) j))
    ∙ ap (λ m. first ++ phase_changes ds ps j cabinet m) (sym (add-one n))
  where
    same : {x y : Bool} → now ≡ x → before ≡ y → change round cabinet phase now before ≡ change (suc j) cabinet (suc n) x y
    same {x} {y} p q = ap₂ (λ (m l : ℕ). change m cabinet l now before) (r ∙ add-one j) (f ∙ add-one n) ∙ ap₂ (λ (u v : Bool). change (suc j) cabinet (suc n) u v) p q

pub cabinets-next : (ds : List Detector) (ps : List Pulse) (j n : ℕ) (first old new : List Call) → old ≡ first ++ cabinet_changes ds ps j n
    → new ≡ old ++ all_phases_changes ds ps j (n + 1) → new ≡ first ++ cabinet_changes ds ps j (n + 1)
cabinets-next ds ps j n first old new h k = k ∙ ap (λ m. old ++ all_phases_changes ds ps j m) (add-one n) ∙ ap (λ xs. xs ++ all_phases_changes ds ps j (suc n)) h ∙ append_assoc first (cabinet_changes ds ps j n) (all_phases_changes ds ps j (suc n))
    ∙ ap (λ m. first ++ cabinet_changes ds ps j m) (sym (add-one n))

-- before the first round nothing calls
never : (n : ℕ) → (nat_lt 0 n && nat_le n 0) ≡ false
never n = at (nat_lt 0 n) refl (nat_le n 0) refl
  where
    at : (a : Bool) → nat_lt 0 n ≡ a → (b : Bool) → nat_le n 0 ≡ b → (a && b) ≡ false
    at false e b f = refl
    at true e false f = refl
    at true e true f = let x = ltb-true 0 n e in let y = leb-true n 0 f in absurd (omega (arith, x, y))

never-above : (n : ℕ) → (nat_lt 0 n && nat_lt n 0) ≡ false
never-above n = at (nat_lt 0 n) (nat_lt n 0) refl
  where
    at : (a b : Bool) → nat_lt n 0 ≡ b → (a && b) ≡ false
    at false b f = refl
    at true false f = refl
    at true true f = let y = ltb-true n 0 f in absurd (omega (arith, y))

none-of : (a b c : Bool) → a ≡ false → b ≡ false → c ≡ false → ((a || (b || c)) || false) ≡ false
none-of a b c p q r = rw (p, q, r) refl

pub none-calls : (d : Detector) (ps : List Pulse) → calls d ps 0 ≡ false
none-calls d ps =
    none-of (nat_lt 0 d.no_activity && nat_le d.no_activity 0) (nat_lt 0 d.max_presence && nat_le d.max_presence 0) (nat_lt 0 d.erratic && nat_lt d.erratic 0)
    (never d.no_activity) (never d.max_presence) (never-above d.erratic)

no-test : (a b c r : Bool) → c ≡ false → r ≡ false → ((a && (b && c)) || r) ≡ false
no-test true true c r p q = rw (p, q) refl
no-test true false c r p q = q
no-test false b c r p q = q

pub none-called : (ds : List Detector) (ps : List Pulse) (cabinet phase : ℕ) → called ds ps cabinet phase 0 ≡ false
none-called [] ps cabinet phase = refl
none-called (d ∷ ds) ps cabinet phase =
    no-test (d.cabinet == cabinet) (d.phase == phase) (calls d ps 0) (called ds ps cabinet phase 0) (none-calls d ps) (none-called ds ps cabinet phase)

pub calls-more : (ds : List Detector) (ps : List Pulse) (j : ℕ) → calls_until ds ps j ++ round_changes ds ps j ≡ calls_until ds ps (j + 1)
calls-more ds ps j = ap (λ n. calls_until ds ps n) (sym (add-one j))

-- where as many detectors as are kept call, a phase is called if and only if some of its detectors call
pub called-tally : (ds : List Detector) (detector_states : List DetectorState) (ps : List Pulse) (cabinet phase j : ℕ) → length detector_states ≡ length ds
    → ((k : ℕ) (p : DetectorState) (d : Detector) → k < length ds → (get_or detector_states k p).calls ≡ calls (get_or ds k d) ps j)
    → called ds ps cabinet phase j ≡ nat_lt 0 (tally ds detector_states cabinet phase)
called-tally [] detector_states ps cabinet phase j same h = refl
called-tally (d ∷ ds) [] ps cabinet phase j same h = absurd (omega (arith, same))
called-tally (d ∷ ds) (p ∷ detector_states) ps cabinet phase j same h =
    ap (λ b. ((d.cabinet == cabinet) && ((d.phase == phase) && b)) || called ds ps cabinet phase j) (sym (h 0 p d (omega arith)))
    ∙ ap (λ b. ((d.cabinet == cabinet) && ((d.phase == phase) && p.calls)) || b)
    (called-tally ds detector_states ps cabinet phase j (omega (arith, same)) (λ k q e low. h (suc k) q e (omega (arith, low))))
    ∙ some ((d.cabinet == cabinet) && ((d.phase == phase) && p.calls)) (tally ds detector_states cabinet phase)
  where
    some : (b : Bool) (n : ℕ) → (b || nat_lt 0 n) ≡ nat_lt 0 ((if b then 1 else 0) + n)
    some true n = sym (lt-ltb 0 (1 + n) (omega arith))
    some false n = ap (λ m. nat_lt 0 m) (zero-plus n)
      where
        zero-plus : (n : ℕ) → n ≡ 0 + n
        zero-plus n = omega arith

pub sets-called : (c : Calling) (ds : List Detector) (detector_states : List DetectorState) (ps : List Pulse) (j : ℕ) → length detector_states ≡ length ds
    → ((k : ℕ) (p : DetectorState) (d : Detector) → k < length ds → (get_or detector_states k p).calls ≡ calls (get_or ds k d) ps j) → Tallies c ds detector_states → AreCalled c.sets ds ps j
sets-called c ds detector_states ps j same h t = record {
  each = λ k p s low some most.
      let before : p - 1 + 1 ≡ p = omega (arith, some) in
      ap (λ n. has (get_or c.sets k s) n) (sym before) ∙ t.sets k (p - 1) s low (omega (arith, some, most)) ∙ sym (called-tally ds detector_states ps (k + 1) (p - 1 + 1) j same h)
      ∙ ap (λ n. called ds ps (k + 1) n j) before;
}
