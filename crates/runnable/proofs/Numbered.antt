-- The cabinets are numbered from 1 on, and each of them can open where all can.
use Rattle.std.proofs.Common.{◌≤◌, ◌+◌, ◌≡◌, ℕ, List, [], ◌∷◌, length, inl, inr, sym, subst, arith}
use Rattle.scenario_data.specs.Content.{CabinetContent}
use Rattle.runnable.specs.Cabinets.{IsNumbered}
use Rattle.runnable.specs.Runnable.{AllOpen, CanOpen}

pub can-open : (cab first : ℕ) (c : CabinetContent) (cabinets : List CabinetContent) → IsNumbered cab c first cabinets → AllOpen cabinets → CanOpen c
can-open cab first c [] is all = absurd is
can-open cab first c (d ∷ cabinets) (inl here) all = subst CanOpen (sym here.1) all.0
can-open cab first c (d ∷ cabinets) (inr later) all = can-open cab (first + 1) c cabinets later all.1

pub from-first : (cab first : ℕ) (c : CabinetContent) (cabinets : List CabinetContent) → IsNumbered cab c first cabinets → first ≤ cab
from-first cab first c [] is = absurd is
from-first cab first c (d ∷ cabinets) (inl here) = let e : cab ≡ first = here.0 in omega (arith, e)
from-first cab first c (d ∷ cabinets) (inr later) =
    let l : first + 1 ≤ cab = from-first cab (first + 1) c cabinets later in omega (arith, l)

pub to-last : (cab first : ℕ) (c : CabinetContent) (cabinets : List CabinetContent) → IsNumbered cab c first cabinets → cab + 1 ≤ first + length cabinets
to-last cab first c [] is = absurd is
to-last cab first c (d ∷ cabinets) (inl here) = let e : cab ≡ first = here.0 in omega (arith, e)
to-last cab first c (d ∷ cabinets) (inr later) =
    let l : cab + 1 ≤ first + 1 + length cabinets = to-last cab (first + 1) c cabinets later in omega (arith, l)
