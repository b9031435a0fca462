-- The calls of a bank are of rounds, cabinets and phases that there are.
use Rattle.std.proofs.Common.{◌≡◌, ◌≤◌, ◌<◌, ◌==◌, ◌&&◌, ◌||◌, ℕ, zero, suc, Bool, true, false, nat_le, List, [], ◌∷◌, get_or, refl, arith}
use Rattle.std.proofs.lemmas.Bool.{leb-true, leb-false, eqb-true}
use Rattle.detector_bank.specs.declared.bank.Detector.{Detector}
use Rattle.detector_bank.specs.declared.bank.Pulse.{Pulse}
use Rattle.detector_bank.specs.Bank.{calls, called}
use Rattle.detector_bank.specs.Lists.{EachStands, change, phase_changes, all_phases_changes, cabinet_changes, round_changes, calls_until}
use Rattle.field_file.proofs.Every.{Every, every-append, every-at}
use Rattle.field_file.proofs.Listed.{IsCalled}

-- a detector of a cabinet and a phase that there are
pub record IsPlaced (cabinets : ℕ) (d : Detector) : Type 0 where
  pub some : 1 ≤ d.cabinet
  pub few : d.cabinet ≤ cabinets
  pub least : 1 ≤ d.phase
  pub most : d.phase ≤ 16

pub each-stands : (cabinets : ℕ) (ds : List Detector) → cabinets ≤ 64 → Every (IsPlaced cabinets) ds → EachStands ds
each-stands cabinets ds few placed k d low =
    let at = every-at (IsPlaced cabinets) ds placed k d low in
    let here : (get_or ds k d).cabinet ≤ 64 = omega (arith, at.few, few) in
    (at.some, here, at.least, at.most)

-- no phase is called at a cabinet that none of the detectors is at
elsewhere : (a b : ℕ) (other : Bool) → b < a → ((b == a) && other) ≡ false
elsewhere a b other less = from (b == a) refl
  where
    from : (t : Bool) → (b == a) ≡ t → (t && other) ≡ false
    from true e = let same : b ≡ a = eqb-true b a e in absurd (omega (arith, same, less))
    from false e = refl

neither : (a b : Bool) → a ≡ false → b ≡ false → (a || b) ≡ false
neither a b p q = rw (p, q) refl

uncalled : (most : ℕ) (ds : List Detector) (ps : List Pulse) (cabinet phase j : ℕ) → Every (IsPlaced most) ds → most < cabinet → called ds ps cabinet phase j ≡ false
uncalled most [] ps cabinet phase j placed beyond = refl
uncalled most (d ∷ ds) ps cabinet phase j placed beyond =
    let here : d.cabinet < cabinet = let few : d.cabinet ≤ most = placed.0.few in omega (arith, few, beyond) in
    neither _ _ (elsewhere cabinet d.cabinet ((d.phase == phase) && calls d ps j) here) (uncalled most ds ps cabinet phase j placed.1 beyond)

phases-none : (most : ℕ) (ds : List Detector) (ps : List Pulse) (j cabinet n : ℕ) → Every (IsPlaced most) ds → most < cabinet → phase_changes ds ps j cabinet n ≡ []
phases-none most ds ps j cabinet zero placed beyond = refl
phases-none most ds ps j cabinet (suc n) placed beyond =
    rw (
      phases-none most ds ps j cabinet n placed beyond,
      uncalled most ds ps cabinet (suc n) (suc j) placed beyond,
      uncalled most ds ps cabinet (suc n) j placed beyond,
    ) refl

change-in : (rounds most round cabinet phase : ℕ) → 1 ≤ round → round ≤ rounds → 1 ≤ cabinet → cabinet ≤ most → 1 ≤ phase → phase ≤ 16 → (now before : Bool)
    → Every (IsCalled rounds most) (change round cabinet phase now before)
change-in rounds most round cabinet phase a b c d e f true true = tt
change-in rounds most round cabinet phase a b c d e f true false = (record { late = a; early = b; some = c; few = d; least = e; most = f }, tt)
change-in rounds most round cabinet phase a b c d e f false true = (record { late = a; early = b; some = c; few = d; least = e; most = f }, tt)
change-in rounds most round cabinet phase a b c d e f false false = tt

phases-in : (rounds most : ℕ) (ds : List Detector) (ps : List Pulse) (j cabinet n : ℕ) → j < rounds → 1 ≤ cabinet → cabinet ≤ most → n ≤ 16
    → Every (IsCalled rounds most) (phase_changes ds ps j cabinet n)
phases-in rounds most ds ps j cabinet zero early some few low = tt
phases-in rounds most ds ps j cabinet (suc n) early some few low =
    every-append (IsCalled rounds most) (phase_changes ds ps j cabinet n) _ (phases-in rounds most ds ps j cabinet n early some few (omega (arith, low)))
    (change-in rounds most (suc j) cabinet (suc n) (omega arith) (omega (arith, early)) some few (omega arith) low (called ds ps cabinet (suc n) (suc j)) (called ds ps cabinet (suc n) j))

all-phases-in : (rounds most : ℕ) (ds : List Detector) (ps : List Pulse) (j cabinet : ℕ) → Every (IsPlaced most) ds → j < rounds → 1 ≤ cabinet
    → Every (IsCalled rounds most) (all_phases_changes ds ps j cabinet)
unfolding all_phases_changes
all-phases-in rounds most ds ps j cabinet placed early some = from (nat_le cabinet most) refl
  where
    from : (b : Bool) → nat_le cabinet most ≡ b → Every (IsCalled rounds most) (phase_changes ds ps j cabinet 16)
    from true e = phases-in rounds most ds ps j cabinet 16 early some (leb-true cabinet most e) (omega arith)
    from false e = rw (phases-none most ds ps j cabinet 16 placed (leb-false cabinet most e)) tt

cabinets-in : (rounds most : ℕ) (ds : List Detector) (ps : List Pulse) (j n : ℕ) → Every (IsPlaced most) ds → j < rounds → Every (IsCalled rounds most) (cabinet_changes ds ps j n)
cabinets-in rounds most ds ps j zero placed early = tt
cabinets-in rounds most ds ps j (suc n) placed early =
    every-append (IsCalled rounds most) (cabinet_changes ds ps j n) _ (cabinets-in rounds most ds ps j n placed early) (all-phases-in rounds most ds ps j (suc n) placed early (omega arith))

round-in : (rounds most : ℕ) (ds : List Detector) (ps : List Pulse) (j : ℕ) → Every (IsPlaced most) ds → j < rounds → Every (IsCalled rounds most) (round_changes ds ps j)
unfolding round_changes
round-in rounds most ds ps j placed early = cabinets-in rounds most ds ps j 64 placed early

pub calls-in : (rounds most : ℕ) (ds : List Detector) (ps : List Pulse) (j : ℕ) → Every (IsPlaced most) ds → j ≤ rounds → Every (IsCalled rounds most) (calls_until ds ps j)
calls-in rounds most ds ps zero placed early = tt
calls-in rounds most ds ps (suc j) placed early =
    every-append (IsCalled rounds most) (calls_until ds ps j) _ (calls-in rounds most ds ps j placed (omega (arith, early))) (round-in rounds most ds ps j placed (omega (arith, early)))
