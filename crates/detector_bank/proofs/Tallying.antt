-- How many detectors of each cabinet and phase call, as one of them begins or ends to.
use Rattle.std.proofs.Common.{◌≡◌, ◌≢◌, ℕ, zero, suc, ◌+◌, ◌-◌, ◌*◌, ◌^◌, ◌<◌, ◌≤◌, ◌&&◌, ◌==◌, Bool, true, false, if◌then◌else◌, min, nat_lt, List, [], ◌∷◌, length, get_or, get_or-set_same, get_or-set_other, refl, sym, ap, ap₂, ◌∙◌, arith}
use Rattle.std.specs.Prelude.{slice_set}
use Rattle.std.proofs.lemmas.Bool.Decides.{Decides-eqb}
use Rattle.sig_types.specs.declared.phase_set.PhaseSet.{PhaseSet}
use Rattle.sig_types.specs.PhaseSet.{has}
use Rattle.detector_bank.specs.declared.bank.Detector.{Detector}
use Rattle.detector_bank.specs.declared.detector_state.DetectorState.{DetectorState}
use Rattle.detector_bank.specs.declared.changes.Calling.{Calling}
use Rattle.detector_bank.specs.Watching.{tally, Tallies}
use Rattle.detector_bank.proofs.Reaching.{same-number, other-number, and-false}

-- the detector is counted at a cabinet and phase where it calls
abbrev pub one : Detector → Bool → ℕ → ℕ → ℕ
one d calls cabinet phase = if (d.cabinet == cabinet) && ((d.phase == phase) && calls) then 1 else 0

-- one where the test passes
abbrev pub ones : Bool → ℕ
ones b = if b then 1 else 0

pub tally-none : (ds : List Detector) (detector_states : List DetectorState) (cabinet phase : ℕ) → ((k : ℕ) (p : DetectorState) → k < length detector_states → (get_or detector_states k p).calls ≡ false)
    → tally ds detector_states cabinet phase ≡ 0
tally-none [] detector_states cabinet phase none = refl
tally-none (d ∷ ds) [] cabinet phase none = refl
tally-none (d ∷ ds) (p ∷ detector_states) cabinet phase none =
    ap₂ (λ (a b : ℕ). a + b) (ap (λ b. one d b cabinet phase) (none 0 p (omega arith)) ∙ off (d.cabinet == cabinet) (d.phase == phase))
    (tally-none ds detector_states cabinet phase (λ k q low. none (suc k) q (omega (arith, low))))
  where
    off : (a b : Bool) → ones (a && (b && false)) ≡ 0
    off true true = refl
    off true false = refl
    off false b = refl

pub tally-set : (ds : List Detector) (detector_states : List DetectorState) (k : ℕ) (p q : DetectorState) (d : Detector) (cabinet phase : ℕ) → k < length ds → length ds ≡ length detector_states
    → tally ds (slice_set detector_states k q) cabinet phase + one (get_or ds k d) (get_or detector_states k p).calls cabinet phase
    ≡ tally ds detector_states cabinet phase + one (get_or ds k d) q.calls cabinet phase
tally-set [] detector_states k p q d cabinet phase low same = absurd (omega (arith, low))
tally-set (e ∷ ds) [] k p q d cabinet phase low same = absurd (omega (arith, same))
tally-set (e ∷ ds) (o ∷ detector_states) zero p q d cabinet phase low same = sums (one e q.calls cabinet phase) (one e o.calls cabinet phase) (tally ds detector_states cabinet phase)
  where
    sums : (a b c : ℕ) → (a + c) + b ≡ (b + c) + a
    sums a b c = omega arith
tally-set (e ∷ ds) (o ∷ detector_states) (suc k) p q d cabinet phase low same =
    sums (one e o.calls cabinet phase) (tally ds (slice_set detector_states k q) cabinet phase) (tally ds detector_states cabinet phase) (one (get_or ds k d) (get_or detector_states k p).calls cabinet phase)
    (one (get_or ds k d) q.calls cabinet phase) (tally-set ds detector_states k p q d cabinet phase (omega (arith, low)) (omega (arith, same)))
  where
    sums : (a b c x y : ℕ) → b + x ≡ c + y → (a + b) + x ≡ (a + c) + y
    sums a b c x y h = omega (arith, h)

-- no more than there are detectors
pub tally-few : (ds : List Detector) (detector_states : List DetectorState) (cabinet phase : ℕ) → tally ds detector_states cabinet phase ≤ length ds
tally-few [] detector_states cabinet phase = omega arith
tally-few (d ∷ ds) [] cabinet phase = omega arith
tally-few (d ∷ ds) (p ∷ detector_states) cabinet phase =
    sums ((d.cabinet == cabinet) && ((d.phase == phase) && p.calls)) (tally ds detector_states cabinet phase) (length ds) (tally-few ds detector_states cabinet phase)
  where
    sums : (b : Bool) (n m : ℕ) → n ≤ m → (if b then 1 else 0) + n ≤ suc m
    sums true n m h = omega (arith, h)
    sums false n m h = omega (arith, h)

-- a detector that calls as before
pub tallies-same : (c : Calling) (ds : List Detector) (detector_states : List DetectorState) (k : ℕ) (p q : DetectorState) (d : Detector) → k < length ds → length ds ≡ length detector_states
    → (get_or detector_states k p).calls ≡ q.calls → Tallies c ds detector_states → Tallies c ds (slice_set detector_states k q)
tallies-same c ds detector_states k p q d low same calls t = record {
  counts = λ m n few small. t.counts m n few small ∙ sym (stays (m + 1) (n + 1));
  sets = λ m n s few small. t.sets m n s few small ∙ ap (λ x. nat_lt 0 x) (sym (stays (m + 1) (n + 1)));
}
  where
    stays : (cabinet phase : ℕ) → tally ds (slice_set detector_states k q) cabinet phase ≡ tally ds detector_states cabinet phase
    stays cabinet phase =
        sums (tally ds (slice_set detector_states k q) cabinet phase) (tally ds detector_states cabinet phase) (one (get_or ds k d) (get_or detector_states k p).calls cabinet phase)
        (one (get_or ds k d) q.calls cabinet phase) (ap (λ b. one (get_or ds k d) b cabinet phase) calls) (tally-set ds detector_states k p q d cabinet phase low same)
      where
        sums : (a b x y : ℕ) → x ≡ y → a + x ≡ b + y → a ≡ b
        sums a b x y e h = omega (arith, e, h)

-- a detector that begins or ends to call
pub tallies-turned : (old new : Calling) (ds : List Detector) (detector_states : List DetectorState) (k : ℕ) (p q : DetectorState) (d e : Detector) (before now : Bool) (cabinet place count : ℕ) (set : PhaseSet)
    → k < length ds → length ds ≡ length detector_states → length ds < 2 ^ 63 → e ≡ get_or ds k d → (get_or detector_states k p).calls ≡ before → q.calls ≡ now → before ≢ now
    → cabinet < 64 → 1 ≤ e.phase → e.phase ≤ 16 → cabinet + 1 ≡ e.cabinet → place ≡ cabinet * 16 + (e.phase - 1)
    → length old.counts ≡ 1024 → length old.sets ≡ 64
    → count ≡ (if now then min (get_or old.counts place 0 + 1) (2 ^ 64 - 1) else get_or old.counts place 0 - 1)
    → new.counts ≡ slice_set old.counts place count → new.sets ≡ slice_set old.sets cabinet set
    → ((s : PhaseSet) (n : ℕ) → n < 16 → has set (n + 1) ≡ (if n + 1 == e.phase then nat_lt 0 count else has (get_or old.sets cabinet s) (n + 1)))
    → Tallies old ds detector_states → Tallies new ds (slice_set detector_states k q)
tallies-turned old new ds detector_states k p q d e before now cabinet place count set low same few is was calls turned inside some most here at wide long counted counts sets members t = record {
  counts = λ m n small less. count-at m n small less (m == cabinet) (n + 1 == e.phase) refl refl;
  sets = λ m n s small less. set-at m n s small less (m == cabinet) (n + 1 == e.phase) refl refl;
}
  where
    new-tally : ℕ → ℕ → ℕ
    new-tally m n = tally ds (slice_set detector_states k q) (m + 1) (n + 1)

    moved : (m n : ℕ) → new-tally m n + one e before (m + 1) (n + 1) ≡ tally ds detector_states (m + 1) (n + 1) + one e now (m + 1) (n + 1)
    moved m n =
        ap₂ (λ (f : Detector) (b : Bool). new-tally m n + one f b (m + 1) (n + 1)) is (sym was) ∙ tally-set ds detector_states k p q d (m + 1) (n + 1) low same
        ∙ ap₂ (λ (f : Detector) (b : Bool). tally ds detector_states (m + 1) (n + 1) + one f b (m + 1) (n + 1)) (sym is) calls

    -- another cabinet or phase
    other-count : (m n : ℕ) → (e.cabinet == m + 1) && (e.phase == n + 1) ≡ false → new-tally m n ≡ tally ds detector_states (m + 1) (n + 1)
    other-count m n ne = none (e.cabinet == m + 1) (e.phase == n + 1) before now (new-tally m n) (tally ds detector_states (m + 1) (n + 1)) ne (moved m n)
      where
        none : (a b x y : Bool) (i j : ℕ) → (a && b) ≡ false → i + (if a && (b && x) then 1 else 0) ≡ j + (if a && (b && y) then 1 else 0) → i ≡ j
        none true true x y i j ne h = absurd (cc)
        none true false x y i j ne h = omega (arith, h)
        none false b x y i j ne h = omega (arith, h)

    -- this one
    own-count : (m n : ℕ) → m ≡ cabinet → n + 1 ≡ e.phase → m < 64 → n < 16 → count ≡ new-tally m n
    own-count m n a b small less =
        let there : m * 16 + n ≡ place = omega (arith, a, b, at) in
        one-more before now (new-tally m n) (tally ds detector_states (m + 1) (n + 1)) (get_or old.counts place 0) count turned
        (ap (λ i. get_or old.counts i 0) (sym there) ∙ t.counts m n small less) (tally-few ds detector_states (m + 1) (n + 1))
        (ap (λ b. new-tally m n + (if b then 1 else 0)) (sym (mine before)) ∙ moved m n ∙ ap (λ b. tally ds detector_states (m + 1) (n + 1) + (if b then 1 else 0)) (mine now)) counted
      where
        mine : (x : Bool) → ((e.cabinet == m + 1) && ((e.phase == n + 1) && x)) ≡ x
        mine x = ap₂ (λ (f g : Bool). f && (g && x)) (same-number e.cabinet (m + 1) (omega (arith, here, a))) (same-number e.phase (n + 1) (sym b))

        small-sum : (n : ℕ) → n ≤ 2 ^ 63 → min n (2 ^ 64 - 1) ≡ n
        small-sum n h = grind arith

        one-more : (x y : Bool) (i j old count : ℕ) → x ≢ y → old ≡ j → j ≤ length ds → i + (if x then 1 else 0) ≡ j + (if y then 1 else 0)
            → count ≡ (if y then min (old + 1) (2 ^ 64 - 1) else old - 1) → count ≡ i
        one-more true true i j old count ne g fits h is = absurd (ne refl)
        one-more false false i j old count ne g fits h is = absurd (ne refl)
        one-more true false i j old count ne g fits h is = omega (arith, g, h, is)
        one-more false true i j old count ne g fits h is = is ∙ small-sum (old + 1) (omega (arith, g, fits, few)) ∙ omega (arith, g, h)

    -- another
    other-place : (m n : ℕ) → n < 16 → ((m ≡ cabinet) × (n + 1 ≡ e.phase) → ⊥) → m * 16 + n ≢ place
    other-place m n less ne = λ is. ne (omega (arith, is, at, less, some, most), omega (arith, is, at, less, some, most))

    kept : (m n : ℕ) → m < 64 → n < 16 → ((m ≡ cabinet) × (n + 1 ≡ e.phase) → ⊥) → ((e.cabinet == m + 1) && (e.phase == n + 1)) ≡ false
        → get_or new.counts (m * 16 + n) 0 ≡ new-tally m n
    kept m n small less ne off =
        ap (λ xs. get_or xs (m * 16 + n) 0) counts ∙ get_or-set_other old.counts place (m * 16 + n) count 0 (other-place m n less ne) ∙ t.counts m n small less
        ∙ sym (other-count m n off)

    differs : (m : ℕ) → (m == cabinet) ≡ false → m ≡ cabinet → ⊥
    differs m x is = let y = same-number m cabinet is in absurd (never x y)
      where
        never : {b : Bool} → b ≡ false → b ≡ true → ⊥
        never e f = absurd (cc)

    off-cabinet : (m n : ℕ) → (m == cabinet) ≡ false → ((e.cabinet == m + 1) && (e.phase == n + 1)) ≡ false
    off-cabinet m n x = ap (λ b. b && (e.phase == n + 1)) (other-number e.cabinet (m + 1) (λ is. differs m x (omega (arith, is, here))))

    no-phase : (n : ℕ) → (n + 1 == e.phase) ≡ false → n + 1 ≡ e.phase → ⊥
    no-phase n x is = let y = same-number (n + 1) e.phase is in absurd (never x y)
      where
        never : {b : Bool} → b ≡ false → b ≡ true → ⊥
        never e f = absurd (cc)

    off-phase : (m n : ℕ) → (n + 1 == e.phase) ≡ false → ((e.cabinet == m + 1) && (e.phase == n + 1)) ≡ false
    off-phase m n y = and-false (e.cabinet == m + 1) (e.phase == n + 1) (other-number e.phase (n + 1) (λ is. no-phase n y (sym is)))

    slot : place < length old.counts
    slot = rw wide (omega (arith, at, inside, some, most))

    count-at : (m n : ℕ) → m < 64 → n < 16 → (a b : Bool) → (m == cabinet) ≡ a → (n + 1 == e.phase) ≡ b → get_or new.counts (m * 16 + n) 0 ≡ new-tally m n
    count-at m n small less true true x y =
        let same-cabinet = (Decides-eqb m cabinet).0 x in
        let same-phase = (Decides-eqb (n + 1) e.phase).0 y in
        let there : m * 16 + n ≡ place = omega (arith, same-cabinet, same-phase, at) in
        ap₂ (λ (xs : List ℕ) (i : ℕ). get_or xs i 0) counts there ∙ get_or-set_same old.counts place count 0 slot ∙ own-count m n same-cabinet same-phase small less
    count-at m n small less true false x y = kept m n small less (λ p. no-phase n y p.1) (off-phase m n y)
    count-at m n small less false b x y = kept m n small less (λ p. differs m x p.0) (off-cabinet m n x)

    own-set : (m n : ℕ) (s : PhaseSet) → m ≡ cabinet → n < 16 → has (get_or new.sets m s) (n + 1) ≡ (if n + 1 == e.phase then nat_lt 0 count else has (get_or old.sets m s) (n + 1))
    own-set m n s is less =
        ap₂ (λ (xs : List PhaseSet) (i : ℕ). has (get_or xs i s) (n + 1)) sets is
        ∙ ap (λ z. has z (n + 1)) (get_or-set_same old.sets cabinet set s (rw long inside)) ∙ members s n less
        ∙ ap (λ i. if n + 1 == e.phase then nat_lt 0 count else has (get_or old.sets i s) (n + 1)) (sym is)

    set-at : (m n : ℕ) (s : PhaseSet) → m < 64 → n < 16 → (a b : Bool) → (m == cabinet) ≡ a → (n + 1 == e.phase) ≡ b → has (get_or new.sets m s) (n + 1) ≡ nat_lt 0 (new-tally m n)
    set-at m n s small less true true x y =
        let same-cabinet = (Decides-eqb m cabinet).0 x in
        own-set m n s same-cabinet less ∙ ap (λ b. if b then nat_lt 0 count else has (get_or old.sets m s) (n + 1)) y
        ∙ ap (λ i. nat_lt 0 i) (own-count m n same-cabinet ((Decides-eqb (n + 1) e.phase).0 y) small less)
    set-at m n s small less true false x y =
        own-set m n s ((Decides-eqb m cabinet).0 x) less ∙ ap (λ b. if b then nat_lt 0 count else has (get_or old.sets m s) (n + 1)) y
        ∙ t.sets m n s small less ∙ ap (λ i. nat_lt 0 i) (sym (other-count m n (off-phase m n y)))
    set-at m n s small less false b x y =
        ap (λ xs. has (get_or xs m s) (n + 1)) sets ∙ ap (λ z. has z (n + 1)) (get_or-set_other old.sets cabinet m set s (λ is. differs m x is))
        ∙ t.sets m n s small less ∙ ap (λ i. nat_lt 0 i) (sym (other-count m n (off-cabinet m n x)))
