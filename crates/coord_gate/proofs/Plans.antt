-- What a plan has at the places of its phases.
use Rattle.std.proofs.Common.{◌≡◌, ◌∙◌, ℕ, ◌<◌, ◌≤◌, ◌+◌, ◌-◌, Bool, true, false, ◌&&◌, ◌||◌, not, if◌then◌else◌, nat_le, get_or, map, inl, inr, refl, ap, arith}
use Rattle.std.proofs.lemmas.Bool.{lt-leb, le-leb}
use Rattle.std.proofs.lemmas.Bool.Decides.{leb_tells}
use Rattle.std.proofs.lemmas.List.{get_or-map}
use Rattle.sig_types.specs.Phases.{is_phase, all_phases}
use Rattle.sig_types.proofs.Lists.{at-place, phase-in}
use Rattle.sig_tables.specs.declared.tables.Tables.{Tables}
use Rattle.sig_tables.specs.declared.plan.Plan.{Plan}
use Rattle.sig_tables.specs.Slots.{split_time, force_point}
use Rattle.sig_tables.specs.Plan.{plan_of}

-- what was made for each phase is at the phase's place
made-at : (f : ℕ → ℕ) (p : ℕ) → is_phase p ≡ true → get_or (map f all_phases) (p - 1) 0 ≡ f p
made-at f p is =
    let k : (0 < p) × (p ≤ 16) = phase-in p is in
    let l : p - 1 < 16 = omega arith in
    get_or-map f all_phases (p - 1) 0 0 l ∙ ap f (at-place p is)

pub force-at : (plan : Plan) (t : Tables) (n p : ℕ) → plan ≡ plan_of t n → is_phase p ≡ true → get_or plan.force (p - 1) 0 ≡ force_point t n p
force-at plan t n p e is = ap (λ (x : Plan). get_or x.force (p - 1) 0) e ∙ made-at (force_point t n) p is

pub float-at : (plan : Plan) (t : Tables) (n p : ℕ) → plan ≡ plan_of t n → is_phase p ≡ true → get_or plan.float (p - 1) 0 ≡ split_time t n p
float-at plan t n p e is = ap (λ (x : Plan). get_or x.float (p - 1) 0) e ∙ made-at (split_time t n) p is

-- before the window nothing else passes, and from it on only the other test counts
pub too-early : (a : Bool) (opens counter : ℕ) → counter < opens → false ≡ (a && nat_le opens counter)
too-early a opens counter h = rw (lt-leb opens counter h) (none a)
  where
    none : (a : Bool) → false ≡ (a && false)
    none true = refl
    none false = refl

pub opened : (a : Bool) (opens counter : ℕ) → opens ≤ counter → a ≡ (a && nat_le opens counter)
opened a opens counter h = rw (le-leb opens counter h) (all a)
  where
    all : (a : Bool) → a ≡ (a && true)
    all true = refl
    all false = refl

pub regrouped : (a b c : Bool) → ((a && not b) && c) ≡ (a && (not b && c))
regrouped true b c = refl
regrouped false b c = refl

-- with the ticks for which it is held, a force point lies past this counter if these ticks by themselves do
pub not-yet : (a : Bool) (force held counter : ℕ) → counter < held → false ≡ (a && nat_le (force + held) counter)
not-yet a force held counter h = rw (lt-leb (force + held) counter (omega arith)) (none a)
  where
    none : (a : Bool) → false ≡ (a && false)
    none true = refl
    none false = refl

-- and else it has come where the force point had that many ticks before
pub held-on : (a : Bool) (force held counter : ℕ) → held ≤ counter
    → (a && nat_le force (counter - held)) ≡ (a && nat_le (force + held) counter)
held-on a force held counter h = elim (leb_tells force (counter - held)) [
  | inl (t, low) ↦ rw (t, le-leb (force + held) counter (omega arith)) refl
  | inr (t, high) ↦ rw (t, lt-leb (force + held) counter (omega arith)) refl
]

-- a coordinated phase has room, and any other where it fits
pub room-shut : (a held fits : Bool) → false ≡ fits → (a && held) ≡ (a && (if held then true else fits))
room-shut false held fits e = refl
room-shut true true fits e = refl
room-shut true false fits e = e

pub room-open : (a held passes fits : Bool) → passes ≡ fits → ((a && held) || ((a && not held) && passes)) ≡ (a && (if held then true else fits))
room-open false held passes fits e = refl
room-open true true passes fits e = refl
room-open true false passes fits e = e
