-- Times round a cycle: a vehicle that comes later is further into each arc.
use Rattle.std.proofs.Common.{◌≡◌, ◌∙◌, ℕ, ◌+◌, ◌-◌, ◌%◌, ◌<◌, ◌≤◌, Bool, true, false, nat_lt, refl, sym, ap, arith}
use Rattle.std.proofs.lemmas.Bool.{ltb-true, ltb-false}
use Rattle.std.proofs.Math.Nat.{mod-add-mod, add-mod-mod, mod-eq_of_lt, mod-eq-sub-mod, add-mod_left, add-mod_right}
use Rattle.band_report.specs.declared.arcs.Arc.{Arc}
use Rattle.band_report.specs.Arcs.{into, left, start_of}

-- a number below two cycles, of which it has one
once-round : (cycle x : ℕ) → cycle ≤ x → x < cycle + cycle → x % cycle ≡ x - cycle
once-round cycle x some few =
    let rest : x - cycle < cycle = omega arith in
    mod-eq-sub-mod some ∙ mod-eq_of_lt rest

-- that many ticks later it is that much further
pub further : (cycle : ℕ) (a : Arc) (time tick : ℕ) → into cycle a (time + tick) ≡ (into cycle a time + tick) % cycle
further cycle a time tick =
    let same : time + tick + a.lead ≡ time + a.lead + tick = omega arith in
    ap (λ (x : ℕ). x % cycle) same ∙ sym (mod-add-mod (time + a.lead) cycle tick)

-- a whole cycle is not a time
pub round-again : (cycle : ℕ) (a : Arc) (time : ℕ) → into cycle a (time % cycle) ≡ into cycle a time
round-again cycle a time = mod-add-mod time cycle a.lead

-- that many ticks later, where more is left, that much less is left
pub left-later : (cycle : ℕ) (a : Arc) (time tick : ℕ) → a.green < cycle → tick < left cycle a time → left cycle a (time + tick) ≡ left cycle a time - tick
left-later cycle a time tick part more =
    let inside : into cycle a time + tick < cycle = omega arith in
    let there : into cycle a (time + tick) ≡ into cycle a time + tick = further cycle a time tick ∙ mod-eq_of_lt inside in
    ap (λ (u : ℕ). a.green - u) there ∙ omega arith

-- nothing is left once all that was left has passed
pub left-ends : (cycle : ℕ) (a : Arc) (time : ℕ) → a.green < cycle → 0 < left cycle a time → left cycle a (time + left cycle a time) ≡ 0
left-ends cycle a time part some =
    let whole : into cycle a time + left cycle a time ≡ a.green = omega arith in
    let there : into cycle a (time + left cycle a time) ≡ a.green =
    further cycle a time (left cycle a time) ∙ ap (λ (u : ℕ). u % cycle) whole ∙ mod-eq_of_lt part in
    ap (λ (u : ℕ). a.green - u) there ∙ omega arith

-- the time from the start of an arc is how far a time is into it
pub behind-start : (cycle : ℕ) (a : Arc) (time : ℕ) → a.lead < cycle → time < cycle → (start_of cycle a + into cycle a time) % cycle ≡ time
behind-start cycle a time lead few =
    let whole : cycle - a.lead + (time + a.lead) ≡ cycle + time = omega arith in
    mod-add-mod (cycle - a.lead) cycle (into cycle a time) ∙ add-mod-mod (cycle - a.lead) (time + a.lead) cycle
    ∙ ap (λ (x : ℕ). x % cycle) whole ∙ add-mod_left cycle time ∙ mod-eq_of_lt few

pub start-below : (cycle : ℕ) (a : Arc) → 0 < cycle → start_of cycle a < cycle
start-below cycle a some = omega arith

-- the start itself is not into its arc
pub at-start : (cycle : ℕ) (a : Arc) (time : ℕ) → 0 < cycle → a.lead < cycle → time < cycle → into cycle a time ≡ 0 → start_of cycle a ≡ time
at-start cycle a time some lead few none =
    let below : start_of cycle a < cycle = start-below cycle a some in
    let alone : start_of cycle a + into cycle a time ≡ start_of cycle a = omega (arith, none) in
    sym (ap (λ (x : ℕ). x % cycle) alone ∙ mod-eq_of_lt below) ∙ behind-start cycle a time lead few

-- at the start of the arc that was entered last, that much more is left of each
pub more-at-start : (cycle : ℕ) (a b : Arc) (time : ℕ) → 0 < cycle → a.lead < cycle → time < cycle → into cycle a time ≤ into cycle b time → 0 < left cycle b time
    → left cycle b time + into cycle a time ≤ left cycle b (start_of cycle a)
more-at-start cycle a b time some lead few last shown =
    let s : ℕ = start_of cycle a in
    let d : ℕ = into cycle a time in
    let there : into cycle b time ≡ (into cycle b s + d) % cycle =
    ap (into cycle b) (sym (behind-start cycle a time lead few)) ∙ round-again cycle b (s + d) ∙ further cycle b s d in
    earlier (into cycle b s) d (into cycle b time) (omega arith) (omega arith) there last (omega arith)
  where
    earlier : (w d v : ℕ) → w < cycle → d < cycle → v ≡ (w + d) % cycle → d ≤ v → v < b.green → b.green - v + d ≤ b.green - w
    earlier w d v below far is after inside = split (nat_lt (w + d) cycle) refl
      where
        split : (t : Bool) → nat_lt (w + d) cycle ≡ t → b.green - v + d ≤ b.green - w
        split true h =
            let within : w + d < cycle = ltb-true (w + d) cycle h in
            let e : v ≡ w + d = is ∙ mod-eq_of_lt within in
            omega arith
        split false h =
            let past : cycle ≤ w + d = ltb-false (w + d) cycle h in
            let e : v ≡ w + d - cycle = is ∙ once-round cycle (w + d) past (omega arith) in
            absurd (omega arith)

-- one tick earlier, where anything is left then, one more is left
pub more-before : (cycle : ℕ) (a : Arc) (time : ℕ) → 0 < cycle → a.green < cycle → 0 < left cycle a (time + cycle - 1) → left cycle a time + 1 ≤ left cycle a (time + cycle - 1)
more-before cycle a time some part shown =
    let u : ℕ = into cycle a (time + cycle - 1) in
    let inside : u + 1 < cycle = omega arith in
    let round : time + cycle - 1 + 1 + a.lead ≡ time + a.lead + cycle = omega arith in
    let there : into cycle a time ≡ u + 1 =
    sym (ap (λ (x : ℕ). x % cycle) round ∙ add-mod_right (time + a.lead) cycle) ∙ further cycle a (time + cycle - 1) 1 ∙ mod-eq_of_lt inside in
    omega arith
