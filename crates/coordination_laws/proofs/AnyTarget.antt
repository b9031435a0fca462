-- What holds of the counter for any targets.
use Rattle.std.proofs.Common.{◌≡◌, ◌⊎◌, inl, inr, ℕ, zero, suc, Bool, true, false, not, nat_le, ◌==◌, ◌&&◌, ◌||◌, if◌then◌else◌, ◌+◌, ◌<◌, ◌≤◌, max, List, ◌∷◌, refl, sym, subst, arith}
use Rattle.std.proofs.lemmas.Bool.{cases_order, leb-false, eqb-true}
use Rattle.sig_tables.specs.Counting.{Correction, HasRoom, tick_later, ahead, adds_sooner, dwelling, adding, skipping, stands, last_step_changed, begins_cycle, next_counter, corrected, counter_after, last_counter, most_a_cycle}
use Rattle.tick_laws.specs.Steps.{Steps, Stands, Plain, Skips, Zero}
use Rattle.tick_laws.proofs.Steps.{counter-steps}
use Rattle.coordination_laws.specs.Stepping.{KeepsLimits, to_zero, StepsOn, ZeroComes}
use Rattle.coordination_laws.proofs.Steps.{later-within, later-end}
use Rattle.coordination_laws.proofs.Looks.{other, stands-stood, stands-moved, begins-at}

-- where the step waits, a wait was left in the cycle
abbrev HasStand : Correction → List ℕ → ℕ → ℕ → Type 0
HasStand k past c d = d ≡ c → stands past < most_a_cycle k

-- a step, and what was left to wait
pub record Goes (k : Correction) (past : List ℕ) (c d : ℕ) : Type 0 where
  pub how : Steps k.cycle k.window c d
  pub room : HasStand k past c d

stand-plain : (k : Correction) (past : List ℕ) (c : ℕ) → 10 ≤ k.cycle → c < k.cycle → HasStand k past c (tick_later k.cycle c)
stand-plain k past c long below = elim (cases_order (c + 1) k.cycle) [
  | inl e ↦ let z : tick_later k.cycle c ≡ 0 = later-end k.cycle c e in λ same. absurd (omega arith)
  | inr (inl l) ↦ let z : tick_later k.cycle c ≡ c + 1 = later-within k.cycle c l in λ same. absurd (omega arith)
  | inr (inr g) ↦ absurd (omega arith)
]

stand-dwelling : (k : Correction) (past : List ℕ) (c : ℕ) → HasRoom k → k.mode ≡ 2 → c < k.cycle → HasStand k past c (dwelling k past c)
stand-dwelling k past c room mode below = pick (c == 0) (nat_le k.dwell (stands past)) refl
  where
    dwells : (k : Correction) → k.mode ≡ 2 → most_a_cycle k ≡ k.dwell
    dwells k h = rw h refl

    pick : (a b : Bool) → nat_le k.dwell (stands past) ≡ b → HasStand k past c (if a && not b then c else tick_later k.cycle c)
    pick true true e = stand-plain k past c room.cycle below
    pick true false e = λ _. omega (arith, leb-false k.dwell (stands past) e, dwells k mode)
    pick false b e = stand-plain k past c room.cycle below

stand-adding : (k : Correction) (past : List ℕ) (c : ℕ) → HasRoom k → k.add ≤ most_a_cycle k → c < k.cycle → HasStand k past c (adding k past c)
stand-adding k past c room most below = pick (last_step_changed past) (nat_le k.add (stands past)) refl
  where
    pick : (a b : Bool) → nat_le k.add (stands past) ≡ b → HasStand k past c (if a && not b then c else tick_later k.cycle c)
    pick true true e = stand-plain k past c room.cycle below
    pick true false e = λ _. omega (arith, leb-false k.add (stands past) e)
    pick false b e = stand-plain k past c room.cycle below

stand-skipping : (k : Correction) (past : List ℕ) (c : ℕ) (more : Bool) → HasRoom k → c < k.cycle
    → HasStand k past c (if nat_le (c + 2) k.window && more then c + 2 else tick_later k.cycle c)
stand-skipping k past c more room below = pick (nat_le (c + 2) k.window) more
  where
    pick : (a b : Bool) → HasStand k past c (if a && b then c + 2 else tick_later k.cycle c)
    pick true true = λ same. absurd (omega arith)
    pick true false = stand-plain k past c room.cycle below
    pick false b = stand-plain k past c room.cycle below

add-most : (k : Correction) → (k.mode ≡ 4) ⊎ (k.mode ≡ 3) → k.add ≤ most_a_cycle k
add-most k (inl h) = let e : most_a_cycle k ≡ k.add = rw h refl in omega arith
add-most k (inr h) = let e : most_a_cycle k ≡ max k.add k.subtract = rw h refl in omega arith

stand-corrected : (k : Correction) (past : List ℕ) (c e : ℕ) → HasRoom k → c < k.cycle → HasStand k past c (corrected k past c e)
stand-corrected k past c e room below = pick (k.mode == 2) (k.mode == 4) (k.mode == 3) (adds_sooner k e) refl refl refl
  where
    pick : (a b d s : Bool) → (k.mode == 2) ≡ a → (k.mode == 4) ≡ b → (k.mode == 3) ≡ d
        → HasStand k past c (if a then dwelling k past c else if b then adding k past c else if d then
        (if s then adding k past c else skipping k past c) else tick_later k.cycle c)
    pick true b d s x y z = stand-dwelling k past c room (eqb-true k.mode 2 x) below
    pick false true d s x y z = stand-adding k past c room (add-most k (inl (eqb-true k.mode 4 y))) below
    pick false false true true x y z = stand-adding k past c room (add-most k (inr (eqb-true k.mode 3 z))) below
    pick false false true false x y z = stand-skipping k past c _ room below
    pick false false false s x y z = stand-plain k past c room.cycle below

stand-after : (k : Correction) (past : List ℕ) (c e : ℕ) → HasRoom k → c < k.cycle → HasStand k past c (counter_after k past c e)
stand-after k past c e room below = pick (e == 0) (nat_le k.window c)
  where
    pick : (a b : Bool) → HasStand k past c (if a || b then tick_later k.cycle c else corrected k past c e)
    pick true b = stand-plain k past c room.cycle below
    pick false true = stand-plain k past c room.cycle below
    pick false false = stand-corrected k past c e room below

pub goes : (k : Correction) (past : List ℕ) (target : ℕ) → HasRoom k → last_counter past < k.cycle
    → Goes k past (last_counter past) (next_counter k past target)
goes k past target room below = record {
  how = counter-steps k past target below;
  room = stand-after k past (last_counter past) (ahead k.cycle target (last_counter past)) room below;
}

-- what the step makes of the limits and of the way to local zero
nearer : (k : Correction) (c : ℕ) (before : List ℕ) (d target : ℕ) → HasRoom k → KeepsLimits k (c ∷ before) → Goes k (c ∷ before) c d
    → next_counter k (c ∷ before) target ≡ d
    → KeepsLimits k (d ∷ c ∷ before) × ((begins_cycle (d ∷ c ∷ before) ≡ true) ⊎ (to_zero k (d ∷ c ∷ before) < to_zero k (c ∷ before)))
nearer k c before d target room keeps g is = pick g.how
  where
    stood : stands (c ∷ before) ≤ most_a_cycle k
    stood = keeps.stood

    below : c < k.cycle
    below = keeps.counter

    zero-stood : (c : ℕ) (before : List ℕ) → 1 ≤ c → stands (0 ∷ c ∷ before) ≡ 0
    zero-stood c before h = rw (other c 0 (omega arith)) refl

    pick : Steps k.cycle k.window c d
        → KeepsLimits k (d ∷ c ∷ before) × ((begins_cycle (d ∷ c ∷ before) ≡ true) ⊎ (to_zero k (d ∷ c ∷ before) < to_zero k (c ∷ before)))
    pick (Stands same inside) =
        let s : stands (d ∷ c ∷ before) ≡ stands (c ∷ before) + 1
        = subst (λ (x : ℕ). stands (x ∷ c ∷ before) ≡ stands (c ∷ before) + 1) (sym same) (stands-stood c before) in
        let r : stands (c ∷ before) < most_a_cycle k = g.room same in
        (record { counter = omega (arith, below); stood = omega arith }, inr (omega (arith, below)))
    pick (Plain next within) =
        let s : stands (d ∷ c ∷ before) ≡ stands (c ∷ before) = stands-moved d c before (omega arith) (omega arith) in
        (record { counter = omega arith; stood = omega (arith, stood) }, inr (omega (arith, below)))
    pick (Skips over inside) =
        let s : stands (d ∷ c ∷ before) ≡ stands (c ∷ before) = stands-moved d c before (omega arith) (omega arith) in
        (record { counter = omega (arith, room.window); stood = omega (arith, stood) }, inr (omega (arith, below)))
    pick (Zero z last) =
        let long : 10 ≤ k.cycle = room.cycle in
        let s : stands (d ∷ c ∷ before) ≡ 0 = subst (λ (x : ℕ). stands (x ∷ c ∷ before) ≡ 0) (sym z) (zero-stood c before (omega arith)) in (
          record { counter = omega arith; stood = omega arith },
          inl (subst (λ (x : ℕ). begins_cycle (x ∷ c ∷ before) ≡ true) (sym z) (begins-at c before (omega arith))),
        )

pub steps-on : (k : Correction) (c : ℕ) (before : List ℕ) (target : ℕ) → HasRoom k → KeepsLimits k (c ∷ before) → StepsOn k (c ∷ before) target
steps-on k c before target room keeps =
    let g = goes k (c ∷ before) target room keeps.counter in
    let n = nearer k c before (next_counter k (c ∷ before) target) target room keeps g refl in
    record { how = g.how; keeps = n.0; nearer = n.1 }

zero-within : (most : ℕ) (k : Correction) (c : ℕ) (before : List ℕ) (targets : ℕ → ℕ) → HasRoom k → KeepsLimits k (c ∷ before)
    → to_zero k (c ∷ before) ≤ most → ZeroComes k (c ∷ before) targets most
zero-within zero k c before targets room keeps le = let below : c < k.cycle = keeps.counter in absurd (omega arith)
zero-within (suc most) k c before targets room keeps le =
    let s : StepsOn k (c ∷ before) (targets 0) = steps-on k c before (targets 0) room keeps in
    elim s.nearer [
      | inl b ↦ record { ticks = 1; some = omega arith; within = omega arith; begins = b }
      | inr l ↦
          let x : ZeroComes k (next_counter k (c ∷ before) (targets 0) ∷ c ∷ before) (λ m. targets (m + 1)) most
          = zero-within most k (next_counter k (c ∷ before) (targets 0)) (c ∷ before) (λ m. targets (m + 1)) room s.keeps (omega arith) in
          record { ticks = suc x.ticks; some = omega arith; within = omega (arith, x.within); begins = x.begins }
    ]

pub zero-comes : (k : Correction) (c : ℕ) (before : List ℕ) (targets : ℕ → ℕ) → HasRoom k → KeepsLimits k (c ∷ before)
    → ZeroComes k (c ∷ before) targets (to_zero k (c ∷ before))
zero-comes k c before targets room keeps = zero-within (to_zero k (c ∷ before)) k c before targets room keeps (omega arith)
