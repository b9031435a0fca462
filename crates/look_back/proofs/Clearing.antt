-- What a mode leaves of a minimum green, and where walks and pedestrian clearances are cut short.
use Rattle.std.proofs.Common.{◌≡◌, ◌≤◌, ◌&&◌, ℕ, zero, suc, nat_le, Bool, refl, ap, arith}
use Rattle.std.proofs.lemmas.Bool.{le-leb}
use Rattle.std.specs.Prelude.{Option, Some, None, min}
use Rattle.sig_tables.specs.declared.tables.Tables.{Tables}
use Rattle.sig_tables.specs.Lesser.{Lesser, InFull, AtMost}
use Rattle.sig_tables.specs.Goals.{lesser_green}
use Rattle.preempt_stages.specs.Goals.{ticks_of}

-- no more is left than there is, except the one tick that every green has
pub left-within : (t : Tables) (i time : ℕ) → time ≤ 2550 → lesser_green t i time ≤ 2550
left-within t zero time le = le
left-within t (suc i) time le = omega arith

-- if no two numbers are given, all lasts in full; otherwise no longer than they say
pub no-cut : (lesser : Lesser) → None ≡ ticks_of lesser → InFull ≡ lesser
no-cut InFull e = refl
no-cut (AtMost walk clear) e = cc

abbrev walk-in : Option (ℕ × ℕ) → ℕ
walk-in None = 0
walk-in (Some times) = times.0

abbrev clear-in : Option (ℕ × ℕ) → ℕ
clear-in None = 0
clear-in (Some times) = times.1

pub cut-to : (lesser : Lesser) (walk clear : ℕ) → Some (walk, clear) ≡ ticks_of lesser → AtMost walk clear ≡ lesser
cut-to InFull walk clear e = cc
cut-to (AtMost w k) walk clear e =
    let first : walk ≡ w = ap (λ (o : Option (ℕ × ℕ)). walk-in o) e in
    let second : clear ≡ k = ap (λ (o : Option (ℕ × ℕ)). clear-in o) e in
    rw (first, second) refl

-- a run that is counted up to a time has reached it
pub long-enough : (least time run counted : ℕ) (x : Bool) → least ≡ time → counted ≡ min run least → least ≤ counted
    → x ≡ (nat_le time run && x)
long-enough least time run counted x e is le = let far : time ≤ run = omega arith in rw (le-leb time run far) refl
