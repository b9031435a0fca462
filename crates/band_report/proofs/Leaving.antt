-- What a list of arcs leaves: together they leave as much as each, and a band is what they leave from one time on.
use Rattle.std.proofs.Common.{◌≡◌, ℕ, zero, suc, ◌+◌, ◌-◌, ◌%◌, ◌<◌, ◌≤◌, Bool, true, false, nat_le, nat_lt, List, [], ◌∷◌, length, get_or, refl, subst, arith}
use Rattle.std.proofs.lemmas.Bool.{leb-true, leb-false, ltb-true, ltb-false}
use Rattle.band_report.specs.declared.arcs.Arc.{Arc}
use Rattle.band_report.specs.Arcs.{into, left, left_of_all, first_past, start_of, no_arc, FitCycle, BestOf}
use Rattle.band_report.proofs.Turning.{round-again, left-later, left-ends, at-start, more-at-start, more-before}

-- no more is left of all than of one
pub least-below : (cycle : ℕ) (arcs : List Arc) (time j : ℕ) → j < length arcs → left_of_all cycle arcs time ≤ left cycle (get_or arcs j no_arc) time
least-below cycle [] time j below = absurd (omega arith)
least-below cycle (a ∷ arcs) time zero below = omega arith
least-below cycle (a ∷ arcs) time (suc j) below = omega (arith, least-below cycle arcs time j (omega arith))

-- what is left of each is left of all
pub least-above : (cycle width : ℕ) (arcs : List Arc) (time : ℕ) → width ≤ cycle → ((j : ℕ) → j < length arcs → width ≤ left cycle (get_or arcs j no_arc) time)
    → width ≤ left_of_all cycle arcs time
least-above cycle width [] time few each = few
least-above cycle width (a ∷ arcs) time few each =
    let here : width ≤ left cycle a time = each zero (omega arith) in
    let rest : width ≤ left_of_all cycle arcs time = least-above cycle width arcs time few (λ j below. each (suc j) (omega arith)) in
    omega arith

-- a whole cycle is not a time
pub all-round-again : (cycle : ℕ) (arcs : List Arc) (time : ℕ) → left_of_all cycle arcs (time % cycle) ≡ left_of_all cycle arcs time
all-round-again cycle [] time = refl
all-round-again cycle (a ∷ arcs) time = rw (round-again cycle a time, all-round-again cycle arcs time) refl

-- no more than a cycle is left
pub at-most : (cycle : ℕ) (arcs : List Arc) (time : ℕ) → left_of_all cycle arcs time ≤ cycle
at-most cycle [] time = omega arith
at-most cycle (a ∷ arcs) time = omega (arith, at-most cycle arcs time)

-- nor does a whole cycle change which arcs are past
pub past-again : (cycle : ℕ) (arcs : List Arc) (time : ℕ) → first_past cycle arcs (time % cycle) ≡ first_past cycle arcs time
past-again cycle [] time = refl
past-again cycle (a ∷ arcs) time = rw (round-again cycle a time, past-again cycle arcs time) refl

-- the arc that is entered last
pub record Last (cycle : ℕ) (arcs : List Arc) (time : ℕ) : Type 0 where
  pub place : ℕ
  pub below : place < length arcs
  pub last : (j : ℕ) → j < length arcs → into cycle (get_or arcs place no_arc) time ≤ into cycle (get_or arcs j no_arc) time

pub last-entered : (cycle : ℕ) (arcs : List Arc) (time : ℕ) → 0 < length arcs → Last cycle arcs time
last-entered cycle [] time some = absurd (omega arith)
last-entered cycle (a ∷ []) time some = record { place = zero; below = omega arith; last = only }
  where
    only : (j : ℕ) → j < length (a ∷ []) → into cycle (get_or (a ∷ []) zero no_arc) time ≤ into cycle (get_or (a ∷ []) j no_arc) time
    only zero below = omega arith
    only (suc j) below = absurd (omega arith)
last-entered cycle (a ∷ b ∷ arcs) time some = later (last-entered cycle (b ∷ arcs) time (omega arith))
  where
    later : Last cycle (b ∷ arcs) time → Last cycle (a ∷ b ∷ arcs) time
    later rest = split (nat_le (into cycle a time) (into cycle (get_or (b ∷ arcs) rest.place no_arc) time)) refl
      where
        split : (t : Bool) → nat_le (into cycle a time) (into cycle (get_or (b ∷ arcs) rest.place no_arc) time) ≡ t → Last cycle (a ∷ b ∷ arcs) time
        split true h =
            let first : into cycle a time ≤ into cycle (get_or (b ∷ arcs) rest.place no_arc) time = leb-true _ _ h in
            record { place = zero; below = omega arith; last = each first }
          where
            each : into cycle a time ≤ into cycle (get_or (b ∷ arcs) rest.place no_arc) time
                → (j : ℕ) → j < length (a ∷ b ∷ arcs) → into cycle (get_or (a ∷ b ∷ arcs) zero no_arc) time ≤ into cycle (get_or (a ∷ b ∷ arcs) j no_arc) time
            each first zero below = omega arith
            each first (suc j) below = let h : into cycle (get_or (b ∷ arcs) rest.place no_arc) time ≤ into cycle (get_or (b ∷ arcs) j no_arc) time = rest.last j (omega arith) in omega arith
        split false h =
            let first : into cycle (get_or (b ∷ arcs) rest.place no_arc) time < into cycle a time = leb-false _ _ h in
            record { place = suc rest.place; below = omega (arith, rest.below); last = each first }
          where
            each : into cycle (get_or (b ∷ arcs) rest.place no_arc) time < into cycle a time
                → (j : ℕ) → j < length (a ∷ b ∷ arcs) → into cycle (get_or (a ∷ b ∷ arcs) (suc rest.place) no_arc) time ≤ into cycle (get_or (a ∷ b ∷ arcs) j no_arc) time
            each first zero below = omega arith
            each first (suc j) below = rest.last j (omega arith)

-- while something is left of all, each tick later something is left
pub goes-on : (cycle : ℕ) (arcs : List Arc) (time tick : ℕ) → FitCycle cycle arcs → tick < left_of_all cycle arcs time → 0 < left_of_all cycle arcs (time + tick)
goes-on cycle arcs time tick fit more = least-above cycle 1 arcs (time + tick) (omega (arith, fit.some)) each
  where
    each : (j : ℕ) → j < length arcs → 1 ≤ left cycle (get_or arcs j no_arc) (time + tick)
    each j below =
        let here : tick < left cycle (get_or arcs j no_arc) time = omega (arith, least-below cycle arcs time j below) in
        let there : left cycle (get_or arcs j no_arc) (time + tick) ≡ left cycle (get_or arcs j no_arc) time - tick =
        left-later cycle (get_or arcs j no_arc) time tick (fit.greens j below) here in
        omega arith

-- an arc of which something is left at each of that many ticks leaves that much
one-stays : (cycle : ℕ) (a : Arc) (time width : ℕ) → a.green < cycle → ((tick : ℕ) → tick < width → 0 < left cycle a (time + tick)) → width ≤ left cycle a time
one-stays cycle a time width part shown = split (nat_le width (left cycle a time)) refl
  where
    ended : left cycle a time < width → (t : Bool) → nat_lt 0 (left cycle a time) ≡ t → ⊥
    ended less true h =
        let some : 0 < left cycle a time = ltb-true _ _ h in
        let over : left cycle a (time + left cycle a time) ≡ 0 = left-ends cycle a time part some in
        let more : 0 < left cycle a (time + left cycle a time) = shown (left cycle a time) less in
        omega arith
    ended less false h =
        let none : left cycle a time ≤ 0 = ltb-false _ _ h in
        let at : time + 0 ≡ time = omega arith in
        let more : 0 < left cycle a time = subst (λ (x : ℕ). 0 < left cycle a x) at (shown 0 (omega arith)) in
        omega arith

    split : (t : Bool) → nat_le width (left cycle a time) ≡ t → width ≤ left cycle a time
    split true h = leb-true _ _ h
    split false h = absurd (ended (leb-false _ _ h) (nat_lt 0 (left cycle a time)) refl)

-- arcs of all of which something is left at each of that many ticks leave that much
pub stays : (cycle : ℕ) (arcs : List Arc) (time width : ℕ) → FitCycle cycle arcs → width ≤ cycle → ((tick : ℕ) → tick < width → 0 < left_of_all cycle arcs (time + tick))
    → width ≤ left_of_all cycle arcs time
stays cycle arcs time width fit few shown =
    least-above cycle width arcs time few
    (λ j below. one-stays cycle (get_or arcs j no_arc) time width (fit.greens j below) (λ tick more. let h = shown tick more in omega (arith, least-below cycle arcs (time + tick) j below)))

-- less than a cycle is left
pub part-left : (cycle : ℕ) (arcs : List Arc) (time : ℕ) → FitCycle cycle arcs → left_of_all cycle arcs time < cycle
part-left cycle arcs time fit = omega (arith, least-below cycle arcs time 0 fit.any, fit.greens 0 fit.any)

-- where something is left of all, the start of the arc entered last leaves as much more as it is earlier
pub record Earlier (cycle : ℕ) (arcs : List Arc) (time : ℕ) : Type 0 where
  pub place : ℕ
  pub below : place < length arcs
  pub more : left_of_all cycle arcs time + into cycle (get_or arcs place no_arc) time ≤ left_of_all cycle arcs (start_of cycle (get_or arcs place no_arc))

pub earlier : (cycle : ℕ) (arcs : List Arc) (time : ℕ) → FitCycle cycle arcs → time < cycle → 0 < left_of_all cycle arcs time → Earlier cycle arcs time
earlier cycle arcs time fit few shown = from (last-entered cycle arcs time fit.any)
  where
    from : Last cycle arcs time → Earlier cycle arcs time
    from l = record { place = l.place; below = l.below; more = least-above cycle _ arcs (start_of cycle (get_or arcs l.place no_arc)) (omega (arith, least-below cycle arcs time l.place l.below, fit.greens l.place l.below)) each }
      where
        each : (j : ℕ) → j < length arcs
            → left_of_all cycle arcs time + into cycle (get_or arcs l.place no_arc) time ≤ left cycle (get_or arcs j no_arc) (start_of cycle (get_or arcs l.place no_arc))
        each j below =
            let least : left_of_all cycle arcs time ≤ left cycle (get_or arcs j no_arc) time = least-below cycle arcs time j below in
            let more : left cycle (get_or arcs j no_arc) time + into cycle (get_or arcs l.place no_arc) time ≤ left cycle (get_or arcs j no_arc) (start_of cycle (get_or arcs l.place no_arc)) =
            more-at-start cycle (get_or arcs l.place no_arc) (get_or arcs j no_arc) time fit.some (fit.leads l.place l.below) few (l.last j below) (omega arith) in
            omega arith

-- the best of the starts is the best of all times
pub best-most : (cycle : ℕ) (arcs : List Arc) (start width time : ℕ) → FitCycle cycle arcs → BestOf cycle arcs (length arcs) start width → time < cycle
    → left_of_all cycle arcs time ≤ width
best-most cycle arcs start width time fit best few = split (nat_lt 0 (left_of_all cycle arcs time)) refl
  where
    split : (t : Bool) → nat_lt 0 (left_of_all cycle arcs time) ≡ t → left_of_all cycle arcs time ≤ width
    split true h =
        let e : Earlier cycle arcs time = earlier cycle arcs time fit few (ltb-true _ _ h) in
        omega (arith, e.more, best.most e.place e.below)
    split false h = let none : left_of_all cycle arcs time ≤ 0 = ltb-false _ _ h in omega arith

pub best-first : (cycle : ℕ) (arcs : List Arc) (start width time : ℕ) → FitCycle cycle arcs → BestOf cycle arcs (length arcs) start width → 0 < width → time < cycle
    → left_of_all cycle arcs time ≡ width → start ≤ time
best-first cycle arcs start width time fit best some few is =
    let e : Earlier cycle arcs time = earlier cycle arcs time fit few (omega arith) in
    let a : Arc = get_or arcs e.place no_arc in
    let most : left_of_all cycle arcs (start_of cycle a) ≤ width = best.most e.place e.below in
    let none : into cycle a time ≡ 0 = omega (arith, e.more, most) in
    let there : start_of cycle a ≡ time = at-start cycle a time fit.some (fit.leads e.place e.below) few none in
    let wide : left_of_all cycle arcs (start_of cycle a) ≡ width = omega (arith, e.more, most) in
    omega (arith, best.first e.place e.below wide, there)

-- before the best time nothing is left
pub closed-before : (cycle : ℕ) (arcs : List Arc) (start : ℕ) → FitCycle cycle arcs → ((time : ℕ) → time < cycle → left_of_all cycle arcs time ≤ left_of_all cycle arcs start)
    → left_of_all cycle arcs (start + cycle - 1) ≡ 0
closed-before cycle arcs start fit most = split (nat_lt 0 (left_of_all cycle arcs (start + cycle - 1))) refl
  where
    wider : 0 < left_of_all cycle arcs (start + cycle - 1) → left_of_all cycle arcs start + 1 ≤ left_of_all cycle arcs (start + cycle - 1)
    wider shown = least-above cycle (left_of_all cycle arcs start + 1) arcs (start + cycle - 1) (omega (arith, part-left cycle arcs start fit)) each
      where
        each : (j : ℕ) → j < length arcs → left_of_all cycle arcs start + 1 ≤ left cycle (get_or arcs j no_arc) (start + cycle - 1)
        each j below =
            let some : 0 < left cycle (get_or arcs j no_arc) (start + cycle - 1) = omega (arith, least-below cycle arcs (start + cycle - 1) j below) in
            let more : left cycle (get_or arcs j no_arc) start + 1 ≤ left cycle (get_or arcs j no_arc) (start + cycle - 1) =
            more-before cycle (get_or arcs j no_arc) start fit.some (fit.greens j below) some in
            omega (arith, least-below cycle arcs start j below)

    split : (t : Bool) → nat_lt 0 (left_of_all cycle arcs (start + cycle - 1)) ≡ t → left_of_all cycle arcs (start + cycle - 1) ≡ 0
    split true h =
        let s : 0 < cycle = fit.some in
        let time : ℕ = (start + cycle - 1) % cycle in
        let within : time < cycle = omega arith in
        let same : left_of_all cycle arcs time ≡ left_of_all cycle arcs (start + cycle - 1) = all-round-again cycle arcs (start + cycle - 1) in
        let more : left_of_all cycle arcs start + 1 ≤ left_of_all cycle arcs (start + cycle - 1) = wider (ltb-true _ _ h) in
        absurd (omega (arith, most time within))
    split false h = let none : left_of_all cycle arcs (start + cycle - 1) ≤ 0 = ltb-false _ _ h in omega arith

-- once all that was left of all has passed, nothing is
pub closed-after : (cycle : ℕ) (arcs : List Arc) (start width : ℕ) → FitCycle cycle arcs → width ≡ left_of_all cycle arcs start → left_of_all cycle arcs (start + width) ≡ 0
closed-after cycle arcs start width fit is = split (nat_lt 0 (left_of_all cycle arcs (start + width))) refl
  where
    open_to : 0 < left_of_all cycle arcs (start + width) → (tick : ℕ) → tick < width + 1 → 0 < left_of_all cycle arcs (start + tick)
    open_to more tick below = at (nat_lt tick width) refl
      where
        at : (t : Bool) → nat_lt tick width ≡ t → 0 < left_of_all cycle arcs (start + tick)
        at true h = goes-on cycle arcs start tick fit (omega (arith, ltb-true tick width h))
        at false h =
            let last : width ≡ tick = omega (arith, ltb-false tick width h) in
            subst (λ (x : ℕ). 0 < left_of_all cycle arcs (start + x)) last more

    split : (t : Bool) → nat_lt 0 (left_of_all cycle arcs (start + width)) ≡ t → left_of_all cycle arcs (start + width) ≡ 0
    split true h =
        let part : left_of_all cycle arcs start < cycle = part-left cycle arcs start fit in
        let wider : width + 1 ≤ left_of_all cycle arcs start = stays cycle arcs start (width + 1) fit (omega arith) (open_to (ltb-true _ _ h)) in
        absurd (omega arith)
    split false h = let none : left_of_all cycle arcs (start + width) ≤ 0 = ltb-false _ _ h in omega arith
