-- The greatest level whose step is met, and when a level stays.
use Rattle.std.proofs.Common.{◌≡◌, ℕ, zero, suc, ◌-◌, ◌<◌, ◌≤◌, ◌&&◌, ◌↔◌, Bool, true, false, nat_le, nat_lt, if◌then◌else◌, List, length, refl, sym, ap, ◌∙◌, arith}
use Rattle.std.proofs.lemmas.Bool.{ltb-true, ltb-false, leb-true, leb-false, lt-ltb, le-ltb}
use Rattle.responsive.specs.declared.Step.{Step}
use Rattle.responsive.specs.Level.{up_met, down_met, step_to, greatest, level, Stays}

pub greatest-few : (met : Step → Bool) (steps : List Step) (n : ℕ) → greatest met steps n ≤ n
greatest-few met steps zero = omega arith
greatest-few met steps (suc n) = at (met (step_to steps n)) (greatest-few met steps n)
  where
    at : (b : Bool) → greatest met steps n ≤ n → (if b then suc n else greatest met steps n) ≤ suc n
    at true h = omega arith
    at false h = omega arith

-- a step that is met is no greater than the greatest
met-below : (met : Step → Bool) (steps : List Step) (n i : ℕ) → i < n → met (step_to steps i) ≡ true → i < greatest met steps n
met-below met steps zero i low is = absurd (omega (arith, low))
met-below met steps (suc n) i low is = at (λ less. met-below met steps n i less is) (met (step_to steps n)) refl (nat_lt i n) refl
  where
    at : (i < n → i < greatest met steps n) → (b : Bool) → met (step_to steps n) ≡ b → (t : Bool) → nat_lt i n ≡ t → i < (if b then suc n else greatest met steps n)
    at before true e t f = omega (arith, low)
    at before false e true f = before (ltb-true i n f)
    at before false e false f = absurd (clash (ltb-false i n f))
      where
        clash : n ≤ i → ⊥
        clash high = let same : i ≡ n = omega (arith, low, high) in let both : true ≡ false = sym is ∙ ap (λ k. met (step_to steps k)) same ∙ e in cc

-- the greatest is met, where it is above a level
record Met (meets : Step → Bool) (steps : List Step) (n now : ℕ) : Type 0 where
  pub place : ℕ
  pub high : now ≤ place
  pub low : place < n
  pub met : meets (step_to steps place) ≡ true

above-met : (meets : Step → Bool) (steps : List Step) (n now : ℕ) → now < greatest meets steps n → Met meets steps n now
above-met meets steps zero now high = absurd (omega (arith, high))
above-met meets steps (suc n) now high = at (above-met meets steps n now) (meets (step_to steps n)) refl high
  where
    at : (now < greatest meets steps n → Met meets steps n now) → (b : Bool) → meets (step_to steps n) ≡ b → now < (if b then suc n else greatest meets steps n) → Met meets steps (suc n) now
    at before true e h = record { place = n; high = omega (arith, h); low = omega arith; met = e }
    at before false e h = let rest = before h in let less = rest.low in record { place = rest.place; high = rest.high; low = omega (arith, less); met = rest.met }

-- the level in each of the three cases
pub rises : (steps : List Step) (now volume : ℕ) → now < greatest (up_met volume) steps (length steps) → level steps now volume ≡ greatest (up_met volume) steps (length steps)
rises steps now volume high = rw (lt-ltb now (greatest (up_met volume) steps (length steps)) high) refl

pub falls : (steps : List Step) (now volume : ℕ) → greatest (up_met volume) steps (length steps) ≤ now → 0 < now → volume < (step_to steps (now - 1)).down
    → level steps now volume ≡ greatest (down_met volume) steps (now - 1)
falls steps now volume low some less =
    rw (le-ltb now (greatest (up_met volume) steps (length steps)) low, lt-ltb 0 now some, lt-ltb volume (step_to steps (now - 1)).down less) refl

keeps-own : (steps : List Step) (now volume : ℕ) → (0 < now → (step_to steps (now - 1)).down ≤ volume) → (nat_lt 0 now && nat_lt volume (step_to steps (now - 1)).down) ≡ false
keeps-own steps now volume own = at (nat_lt 0 now) refl
  where
    at : (b : Bool) → nat_lt 0 now ≡ b → (b && nat_lt volume (step_to steps (now - 1)).down) ≡ false
    at true e = le-ltb volume (step_to steps (now - 1)).down (own (ltb-true 0 now e))
    at false e = refl

pub keeps : (steps : List Step) (now volume : ℕ) → greatest (up_met volume) steps (length steps) ≤ now → (0 < now → (step_to steps (now - 1)).down ≤ volume) → level steps now volume ≡ now
keeps steps now volume low own = rw (le-ltb now (greatest (up_met volume) steps (length steps)) low, keeps-own steps now volume own) refl

stays-low : (steps : List Step) (now volume : ℕ) → Stays steps now volume → greatest (up_met volume) steps (length steps) ≤ now
stays-low steps now volume h = at (nat_lt now (greatest (up_met volume) steps (length steps))) refl
  where
    at : (b : Bool) → nat_lt now (greatest (up_met volume) steps (length steps)) ≡ b → greatest (up_met volume) steps (length steps) ≤ now
    at false e = ltb-false now (greatest (up_met volume) steps (length steps)) e
    at true e =
        let some = above-met (up_met volume) steps (length steps) now (ltb-true now (greatest (up_met volume) steps (length steps)) e) in
        let less = h.above some.place some.high some.low in
        let met = leb-true (step_to steps some.place).up volume some.met in
        absurd (omega (arith, less, met))

low-stays : (steps : List Step) (now volume : ℕ) → greatest (up_met volume) steps (length steps) ≤ now → (i : ℕ) → now ≤ i → i < length steps → volume < (step_to steps i).up
low-stays steps now volume low i high within = at (nat_le (step_to steps i).up volume) refl
  where
    at : (b : Bool) → nat_le (step_to steps i).up volume ≡ b → volume < (step_to steps i).up
    at false e = leb-false (step_to steps i).up volume e
    at true e = let below = met-below (up_met volume) steps (length steps) i within e in absurd (omega (arith, below, low, high))

pub stays : (steps : List Step) (now volume : ℕ) → now ≤ length steps → (level steps now volume ≡ now) ↔ Stays steps now volume
stays steps now volume few = (there, λ h. keeps steps now volume (stays-low steps now volume h) h.own)
  where
    down : (b c : Bool) → greatest (up_met volume) steps (length steps) ≤ now → nat_lt 0 now ≡ b → nat_lt volume (step_to steps (now - 1)).down ≡ c → level steps now volume ≡ now → Stays steps now volume
    down true true low e f is =
        let some = ltb-true 0 now e in
        let less = falls steps now volume low some (ltb-true volume (step_to steps (now - 1)).down f) in
        let few = greatest-few (down_met volume) steps (now - 1) in
        absurd (omega (arith, some, less, few, is))
    down true false low e f is = record { above = low-stays steps now volume low; own = λ some. ltb-false volume (step_to steps (now - 1)).down f }
    down false c low e f is = record { above = low-stays steps now volume low; own = λ some. let none = ltb-false 0 now e in absurd (omega (arith, none, some)) }

    there : level steps now volume ≡ now → Stays steps now volume
    there is = up (nat_lt now (greatest (up_met volume) steps (length steps))) refl
      where
        up : (b : Bool) → nat_lt now (greatest (up_met volume) steps (length steps)) ≡ b → Stays steps now volume
        up true e = let high = ltb-true now (greatest (up_met volume) steps (length steps)) e in let same = rises steps now volume high in absurd (omega (arith, high, same, is))
        up false e = down _ _ (ltb-false now (greatest (up_met volume) steps (length steps)) e) refl refl is

pub level-few : (steps : List Step) (now volume : ℕ) → now ≤ length steps → level steps now volume ≤ length steps
level-few steps now volume few =
    at (nat_lt now (greatest (up_met volume) steps (length steps))) (nat_lt 0 now && nat_lt volume (step_to steps (now - 1)).down)
    (greatest-few (up_met volume) steps (length steps)) (greatest-few (down_met volume) steps (now - 1))
  where
    at : (b c : Bool) → greatest (up_met volume) steps (length steps) ≤ length steps → greatest (down_met volume) steps (now - 1) ≤ now - 1
        → (if b then greatest (up_met volume) steps (length steps) else if c then greatest (down_met volume) steps (now - 1) else now) ≤ length steps
    at true c h k = h
    at false true h k = omega (arith, k, few)
    at false false h k = few
