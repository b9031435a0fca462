-- What a tick keeps of a phase between two local zeros.
use Rattle.std.proofs.Common.{◌≡◌, ◌⊎◌, inl, inr, ℕ, ◌+◌, ◌<◌, ◌≤◌, arith}
use Rattle.tick_laws.specs.Steps.{Steps, Stands, Plain, Skips, Zero}
use Rattle.tick_laws.specs.Cycle.{OtherTimes, HeldTimes, Fits, GreenInTime, ClearsInTime, ReturnsInTime, RestsInTime}

-- past the window a step is plain, or the cycle ends
pub past-window : (cycle window c d : ℕ) → Steps cycle window c d → window ≤ c → ((d ≡ c + 1) × (c + 1 < cycle)) ⊎ ((d ≡ 0) × (c + 1 ≡ cycle))
past-window cycle window c d (Stands same inside) h = absurd (omega arith)
past-window cycle window c d (Plain next within) h = inl (next, within)
past-window cycle window c d (Skips over inside) h = absurd (omega arith)
past-window cycle window c d (Zero zero last) h = inr (zero, last)

-- ---- a phase that the pattern does not hold

-- it begins only where it fits
pub other-begins : (window force service d : ℕ) → 1 ≤ service → Fits window force service d 0 → GreenInTime window force service d 1
other-begins window force service d some f = record { after = f.after; room = omega (arith, f.room) }

-- none fits at local zero
pub other-fits : (window force service d wait : ℕ) → 1 ≤ window → Fits window force service d wait → 1 ≤ d
other-fits window force service d wait some f = omega (arith, f.after)

-- while it is Green the cycle does not end
pub other-plain : (cycle window force clear service c d run : ℕ) → OtherTimes cycle force clear service → Steps cycle window c d
    → GreenInTime window force service c run → d ≡ c + 1
other-plain cycle window force clear service c d run t s g =
    elim (past-window cycle window c d s g.after) [ inl h ↦ h.0 | inr h ↦ absurd (omega (arith, g.room, t.clears, t.clearing, h.1)) ]

-- it stays Green before its force point
pub other-stays : (cycle window force clear service c d run : ℕ) → OtherTimes cycle force clear service → Steps cycle window c d
    → GreenInTime window force service c run → d < force → GreenInTime window force service d (run + 1)
other-stays cycle window force clear service c d run t s g early =
    let e : d ≡ c + 1 = other-plain cycle window force clear service c d run t s g in
    record { after = omega (arith, g.room, g.after); room = omega (arith, g.room, g.after) }

-- and is served where it is forced off
pub other-served : (cycle window force clear service c d run : ℕ) → OtherTimes cycle force clear service → Steps cycle window c d
    → GreenInTime window force service c run → force ≤ d → service ≤ run
other-served cycle window force clear service c d run t s g late =
    let e : d ≡ c + 1 = other-plain cycle window force clear service c d run t s g in
    omega (arith, g.room)

-- where it ends, forced off or before, its clearance ends in time
pub other-ends : (cycle window force clear service c d run : ℕ) → OtherTimes cycle force clear service → Steps cycle window c d
    → GreenInTime window force service c run → ClearsInTime cycle window d clear
other-ends cycle window force clear service c d run t s g =
    let e : d ≡ c + 1 = other-plain cycle window force clear service c d run t s g in
    record { after = omega (arith, g.room, g.after); room = omega (arith, g.room, g.after, t.clears) }

-- it clears on
pub other-clears : (cycle window c d rest : ℕ) → Steps cycle window c d → ClearsInTime cycle window c (rest + 1) → 1 ≤ rest → ClearsInTime cycle window d rest
other-clears cycle window c d rest s g some =
    elim (past-window cycle window c d s g.after) [
      | inl h ↦ record { after = omega (arith, g.room, g.after, h.0); room = omega (arith, g.room, g.after, h.0) }
      | inr h ↦ absurd (omega (arith, g.room, g.after, h.1))
    ]

-- at the end of the cycle it is not Green, and of its clearance no more than this frame is left
pub other-not_green : (cycle window force clear service c run : ℕ) → OtherTimes cycle force clear service → c + 1 ≡ cycle
    → GreenInTime window force service c run → ⊥
other-not_green cycle window force clear service c run t last g =
    omega (arith, g.room, t.clears, t.clearing)

pub other-off : (cycle window c rest : ℕ) → c + 1 ≡ cycle → ClearsInTime cycle window c rest → rest ≤ 1
other-off cycle window c rest last g = omega (arith, g.room)

-- ---- a phase that the pattern holds

-- it does not end before its force point; so neither at local zero nor within the window
pub held-not_zero : (window force : ℕ) → HeldTimes window force → 1 ≤ window → force ≤ 0 → ⊥
held-not_zero window force t some h = omega (arith, t.after)

-- it ends past its force point, and only where another phase fits after its clearance: then its red revert is over in time
pub held-ends : (cycle window force clear revert d otherforce otherclear service wait : ℕ) → OtherTimes cycle otherforce otherclear service
    → force ≤ d → Fits window otherforce service d wait → clear ≤ wait → revert ≤ service + otherclear → ReturnsInTime cycle force revert d clear
held-ends cycle window force clear revert d otherforce otherclear service wait t past f longer short =
    record { after = past; room = omega (arith, f.room, t.clears) }

-- it clears on
pub held-clears : (cycle window force revert c d rest : ℕ) → HeldTimes window force → 1 ≤ revert → Steps cycle window c d
    → ReturnsInTime cycle force revert c (rest + 1) → 1 ≤ rest → ReturnsInTime cycle force revert d rest
held-clears cycle window force revert c d rest t short s g some =
    elim (past-window cycle window c d s (omega (arith, g.room, g.after, t.after))) [
      | inl h ↦ record { after = omega (arith, g.room, g.after, h.0); room = omega (arith, g.room, g.after, h.0) }
      | inr h ↦ absurd (omega (arith, g.room, g.after, h.1))
    ]

-- and is Red
pub held-reds : (cycle window force revert c d : ℕ) → HeldTimes window force → 1 ≤ revert → Steps cycle window c d
    → ReturnsInTime cycle force revert c 1 → RestsInTime cycle force revert d 1
held-reds cycle window force revert c d t short s g =
    elim (past-window cycle window c d s (omega (arith, g.room, g.after, t.after))) [
      | inl h ↦ record { after = omega (arith, g.room, g.after, h.0); room = omega (arith, g.room, g.after, h.0) }
      | inr h ↦ absurd (omega (arith, g.room, g.after, h.1))
    ]

-- it rests on while the cycle lasts
pub held-rests : (cycle window force revert c d run : ℕ) → HeldTimes window force → Steps cycle window c d → 1 ≤ d
    → RestsInTime cycle force revert c run → RestsInTime cycle force revert d (run + 1)
held-rests cycle window force revert c d run t s some g =
    elim (past-window cycle window c d s (omega (arith, g.room, g.after, t.after))) [
      | inl h ↦ record { after = omega (arith, g.room, g.after, h.0); room = omega (arith, g.room, g.after, h.0, h.1) }
      | inr h ↦ absurd (omega (arith, g.room, g.after, h.0))
    ]

-- at the end of the cycle it is not clearing, and where it is Red it may begin
pub held-not_clearing : (cycle force revert c rest : ℕ) → 1 ≤ revert → 1 ≤ rest → c + 1 ≡ cycle → ReturnsInTime cycle force revert c rest → ⊥
held-not_clearing cycle force revert c rest short some last g = omega (arith, g.room)

pub held-startable : (cycle force revert c run : ℕ) → c + 1 ≡ cycle → RestsInTime cycle force revert c run → revert ≤ run
held-startable cycle force revert c run last g = omega (arith, g.room)
