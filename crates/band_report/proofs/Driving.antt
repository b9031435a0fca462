-- Windows along a drive are arcs of the cycle.
use Rattle.std.proofs.Common.{◌≡◌, ◌∙◌, ℕ, zero, suc, ◌+◌, ◌-◌, ◌%◌, ◌<◌, ◌≤◌, ◌==◌, ◌&&◌, sum, take, Bool, true, false, not, nat_le, min, if◌then◌else◌, List, [], ◌∷◌, ◌++◌, length, drop, get_or, map, Some, None, refl, sym, ap, ap₂, subst, arith, append-nil, append_assoc}
use Rattle.std.proofs.lemmas.Bool.{and_parts, leb-true, eqb-true}
use Rattle.std.proofs.lemmas.List.{drop_more, drop_all}
use Rattle.std.proofs.lemmas.List.Sums.{sum_by_more}
use Rattle.std.proofs.Math.Nat.{mod-add-mod, mod-lt}
use Rattle.std.specs.List.{list_all}
use Rattle.sig_tables.specs.declared.tables.Tables.{Tables}
use Rattle.sig_tables.specs.Tables.{is_enabled, clearance}
use Rattle.sig_tables.specs.Cells.{pattern_of}
use Rattle.sig_tables.specs.Slots.{is_defined, cycle_time, coordinated_phase, force_point, slot_end, side_end, side_clearance, whole_cycles, zero_point}
use Rattle.sig_tables.specs.Clock.{offset_time, shift_time}
use Rattle.band_report.specs.declared.arcs.Arc.{Arc}
use Rattle.band_report.specs.declared.signals.Signal.{Signal}
use Rattle.band_report.specs.declared.misfit.Misfit.TheVariants.{Undefined, Cycles, Legs}
use Rattle.band_report.specs.Street.{Member, Passage, passed_after, passages_from, ring_driven, all_define, all_have_cycle, first_cycle, misfit_along}
use Rattle.band_report.specs.Arcs.{signal_of, arc_of, no_arc, FitCycle}

-- one leg more, round the cycle
pub legs-more : (total leg cycle : ℕ) (legs : List ℕ) (i : ℕ) → i < length legs → total ≡ sum (take i legs) % cycle → leg ≡ get_or legs i 0
    → (total + leg) % cycle ≡ sum (take (i + 1) legs) % cycle
legs-more total leg cycle legs i within is e =
    ap₂ (λ (a b : ℕ). (a + b) % cycle) is e ∙ mod-add-mod (sum (take i legs)) cycle (get_or legs i 0)
    ∙ ap (λ (x : ℕ). x % cycle) (sym (sum_by_more (λ x. x) legs i 0 within))

same-lead : (after ticks shift there offset at cycle own : ℕ) → shift ≡ there → offset ≡ at → own ≡ cycle → after ≡ ticks % cycle
    → (after + shift + (cycle - offset % cycle)) % cycle ≡ (ticks + there + (own - at % own)) % own
same-lead after ticks shift there offset at cycle own p q r s = rw (p, q, r, s) (round (cycle - at % cycle))
  where
    round : (behind : ℕ) → (ticks % cycle + there + behind) % cycle ≡ (ticks + there + behind) % cycle
    round behind =
        let first : ticks % cycle + there + behind ≡ ticks % cycle + (there + behind) = omega arith in
        let last : ticks + (there + behind) ≡ ticks + there + behind = omega arith in
        ap (λ (x : ℕ). x % cycle) first ∙ mod-add-mod ticks cycle (there + behind) ∙ ap (λ (x : ℕ). x % cycle) last

same-arc : (a b c d e f : ℕ) → a ≡ b → c ≡ d → e ≡ f → (let x : Arc = record { number = a; lead = c; green = e } in x) ≡ record { number = b; lead = d; green = f }
same-arc a b c d e f p q r = rw (p, q, r) refl

-- what is read of a cabinet and how long after the first one it is passed make its arc
pub arc-is : (s : Signal) (n : ℕ) (inbound : Bool) (c : Passage) (after cycle : ℕ) → s ≡ signal_of n inbound (record { number = c.number; tables = c.tables })
    → cycle_time c.tables n ≡ cycle → after ≡ c.after % cycle
    → (let x : Arc = record { number = s.number; lead = (after + s.shift + (cycle - s.offset % cycle)) % cycle; green = s.green } in x) ≡ arc_of n (ring_driven inbound) c
unfolding signal_of arc_of
arc-is s n inbound c after cycle e own time =
    same-arc s.number c.number ((after + s.shift + (cycle - s.offset % cycle)) % cycle)
    ((c.after + shift_time c.tables n + (cycle_time c.tables n - offset_time c.tables n % cycle_time c.tables n)) % cycle_time c.tables n)
    s.green (force_point c.tables n (coordinated_phase c.tables n (ring_driven inbound)))
    (ap (λ (x : Signal). x.number) e)
    (same-lead after c.after s.shift (shift_time c.tables n) s.offset (offset_time c.tables n) cycle (cycle_time c.tables n)
    (ap (λ (x : Signal). x.shift) e) (ap (λ (x : Signal). x.offset) e) own time)
    (ap (λ (x : Signal). x.green) e)

-- the cabinets before a place are passed: what was read of the others, and the arcs of those before
pub record Driven (n : ℕ) (inbound : Bool) (travel : List ℕ) (cycle : ℕ) (signals : List Signal) (ms : List Member) (found : List Arc) (place : ℕ) : Type 0 where
  pub rest : List Member
  pub left : drop place signals ≡ map (signal_of n inbound) rest
  pub cycles : all_have_cycle n cycle rest ≡ true
  pub arcs : map (arc_of n (ring_driven inbound)) (passages_from inbound travel 0 ms) ≡ found ++ map (arc_of n (ring_driven inbound)) (passages_from inbound travel place rest)

pub driven-none : (n : ℕ) (inbound : Bool) (travel : List ℕ) (cycle : ℕ) (signals : List Signal) (ms : List Member) → signals ≡ map (signal_of n inbound) ms
    → all_have_cycle n cycle ms ≡ true → Driven n inbound travel cycle signals ms [] 0
driven-none n inbound travel cycle signals ms e c = record { rest = ms; left = e; cycles = c; arcs = refl }

-- an arc that is right for every passage that what was read may be of
abbrev pub ArcIs : Signal → ℕ → ℕ → Arc → Type 0
ArcIs s after cycle a = (n : ℕ) (inbound : Bool) (c : Passage) → s ≡ signal_of n inbound (record { number = c.number; tables = c.tables })
    → cycle_time c.tables n ≡ cycle → after ≡ c.after % cycle → a ≡ arc_of n (ring_driven inbound) c

pub driven-more : (n : ℕ) (inbound : Bool) (travel : List ℕ) (cycle : ℕ) (signals : List Signal) (ms : List Member) (found : List Arc) (place : ℕ) (d : Signal) (after : ℕ) (a : Arc)
    → place < length signals → after ≡ passed_after inbound travel place % cycle → ArcIs (get_or signals place d) after cycle a
    → Driven n inbound travel cycle signals ms found place → Driven n inbound travel cycle signals ms (found ++ a ∷ []) (place + 1)
driven-more n inbound travel cycle signals ms found place d after a within time is driven = go driven.rest driven.left driven.cycles driven.arcs
  where
    here : drop place signals ≡ get_or signals place d ∷ drop (place + 1) signals
    here = drop_more signals place d within

    go : (rest : List Member) → drop place signals ≡ map (signal_of n inbound) rest → all_have_cycle n cycle rest ≡ true
        → map (arc_of n (ring_driven inbound)) (passages_from inbound travel 0 ms) ≡ found ++ map (arc_of n (ring_driven inbound)) (passages_from inbound travel place rest)
        → Driven n inbound travel cycle signals ms (found ++ a ∷ []) (place + 1)
    go [] left cycles arcs = let e = sym here ∙ left in absurd (cc)
    go (m ∷ rest) left cycles arcs =
        let e : get_or signals place d ∷ drop (place + 1) signals ≡ signal_of n inbound m ∷ map (signal_of n inbound) rest = sym here ∙ left in
        let head : get_or signals place d ≡ signal_of n inbound m = cc in
        let tail : drop (place + 1) signals ≡ map (signal_of n inbound) rest = cc in
        let both : ((cycle_time m.tables n == cycle) ≡ true) × (all_have_cycle n cycle rest ≡ true) = and_parts (cycle_time m.tables n == cycle) (all_have_cycle n cycle rest) cycles in
        let c : Passage = record { number = m.number; tables = m.tables; after = passed_after inbound travel place } in
        let one : a ≡ arc_of n (ring_driven inbound) c = is n inbound c head (eqb-true (cycle_time m.tables n) cycle both.0) time in
        let last : List Arc = map (arc_of n (ring_driven inbound)) (passages_from inbound travel (place + 1) rest) in
        record {
          rest = rest;
          left = tail;
          cycles = both.1;
          arcs = arcs ∙ ap (λ (x : Arc). found ++ (x ∷ last)) (sym one) ∙ sym (append_assoc found (a ∷ []) last);
        }

pub driven-all : (n : ℕ) (inbound : Bool) (travel : List ℕ) (cycle : ℕ) (signals : List Signal) (ms : List Member) (found : List Arc) (place : ℕ) → length signals ≤ place
    → Driven n inbound travel cycle signals ms found place → found ≡ map (arc_of n (ring_driven inbound)) (passages_from inbound travel 0 ms)
driven-all n inbound travel cycle signals ms found place past driven = go driven.rest driven.left driven.arcs
  where
    none : drop place signals ≡ []
    none = drop_all place signals past

    go : (rest : List Member) → drop place signals ≡ map (signal_of n inbound) rest
        → map (arc_of n (ring_driven inbound)) (passages_from inbound travel 0 ms) ≡ found ++ map (arc_of n (ring_driven inbound)) (passages_from inbound travel place rest)
        → found ≡ map (arc_of n (ring_driven inbound)) (passages_from inbound travel 0 ms)
    go [] left arcs = sym (arcs ∙ append-nil found)
    go (m ∷ rest) left arcs = let e = sym none ∙ left in absurd (cc)

-- what is where there can be a band
pub record FitsAlong (n legs : ℕ) (ms : List Member) : Type 0 where
  pub some : 0 < first_cycle n ms
  pub any : 0 < length ms
  pub cycles : all_have_cycle n (first_cycle n ms) ms ≡ true
  pub many : length ms ≡ legs + 1

some-cycle : (t : Tables) (n : ℕ) → is_defined t n ≡ true → 0 < cycle_time t n
some-cycle t n d =
    let parts = and_parts (nat_le 1 n && nat_le n 48) (nat_le 1 (pattern_of t n).cycle) d in
    let least : 1 ≤ (pattern_of t n).cycle = leb-true 1 (pattern_of t n).cycle parts.1 in
    omega arith

none-misfits : (a b c : Bool) → (if not a then Some Undefined else if not b then Some Cycles else if c then None else Some Legs) ≡ None → (a ≡ true) × ((b ≡ true) × (c ≡ true))
none-misfits true true true e = (refl, (refl, refl))
none-misfits true true false e = absurd (cc)
none-misfits true false c e = absurd (cc)
none-misfits false b c e = absurd (cc)

pub fits-along : (n legs : ℕ) (ms : List Member) → misfit_along n legs ms ≡ None → FitsAlong n legs ms
fits-along n legs [] e = absurd (cc)
fits-along n legs (m ∷ ms) e =
    let parts = none-misfits (all_define n (m ∷ ms)) (all_have_cycle n (cycle_time m.tables n) (m ∷ ms)) (legs == length ms) e in
    let defines = and_parts (is_defined m.tables n) (list_all (λ k. is_defined k.tables n) ms) parts.0 in
    let count : legs ≡ length ms = eqb-true legs (length ms) parts.1.1 in
    record {
      some = some-cycle m.tables n defines.0;
      any = omega arith;
      cycles = parts.1.0;
      many = omega arith;
    }

-- a force point is within its cycle
pub force-within : (t : Tables) (n p : ℕ) → 0 < cycle_time t n → force_point t n p < cycle_time t n
force-within t n p some = split (is_enabled t p)
  where
    split : (b : Bool)
        → (if b
        then (min (slot_end t n p + whole_cycles t n p - clearance t p) (side_end t n p + whole_cycles t n p - side_clearance t p) - zero_point t n)
        % cycle_time t n
        else 0) < cycle_time t n
    split true = mod-lt _ some
    split false = some

-- each cabinet passed has this cycle
abbrev pub EachCycle : ℕ → ℕ → List Passage → Type 0
EachCycle n cycle [] = Unit {0}
EachCycle n cycle (c ∷ more) = (cycle_time c.tables n ≡ cycle) × EachCycle n cycle more

pub each-cycle : (n cycle : ℕ) (inbound : Bool) (travel : List ℕ) (place : ℕ) (ms : List Member) → all_have_cycle n cycle ms ≡ true → EachCycle n cycle (passages_from inbound travel place ms)
each-cycle n cycle inbound travel place [] h = tt
each-cycle n cycle inbound travel place (m ∷ ms) h =
    let both = and_parts (cycle_time m.tables n == cycle) (list_all (λ k. cycle_time k.tables n == cycle) ms) h in
    (eqb-true (cycle_time m.tables n) cycle both.0, each-cycle n cycle inbound travel (place + 1) ms both.1)

pub as-many : (n r : ℕ) (inbound : Bool) (travel : List ℕ) (place : ℕ) (ms : List Member) → length (map (arc_of n r) (passages_from inbound travel place ms)) ≡ length ms
as-many n r inbound travel place [] = refl
as-many n r inbound travel place (m ∷ ms) = let h = as-many n r inbound travel (place + 1) ms in omega arith

lead-below : (n r cycle : ℕ) (c : Passage) → 0 < cycle → cycle_time c.tables n ≡ cycle → (arc_of n r c).lead < cycle
unfolding arc_of
lead-below n r cycle c some is = rw is (mod-lt _ some)

green-below : (n r cycle : ℕ) (c : Passage) → 0 < cycle → cycle_time c.tables n ≡ cycle → (arc_of n r c).green < cycle
unfolding arc_of
green-below n r cycle c some is =
    let own : 0 < cycle_time c.tables n = omega arith in
    let h : force_point c.tables n (coordinated_phase c.tables n r) < cycle_time c.tables n = force-within c.tables n (coordinated_phase c.tables n r) own in
    subst (λ (x : ℕ). force_point c.tables n (coordinated_phase c.tables n r) < x) is h

leads-below : (n r cycle : ℕ) (street : List Passage) → 0 < cycle → EachCycle n cycle street
    → (j : ℕ) → j < length (map (arc_of n r) street) → (get_or (map (arc_of n r) street) j no_arc).lead < cycle
leads-below n r cycle [] some each j below = absurd (omega arith)
leads-below n r cycle (c ∷ street) some each zero below = lead-below n r cycle c some each.0
leads-below n r cycle (c ∷ street) some each (suc j) below = leads-below n r cycle street some each.1 j (omega arith)

greens-below : (n r cycle : ℕ) (street : List Passage) → 0 < cycle → EachCycle n cycle street
    → (j : ℕ) → j < length (map (arc_of n r) street) → (get_or (map (arc_of n r) street) j no_arc).green < cycle
greens-below n r cycle [] some each j below = absurd (omega arith)
greens-below n r cycle (c ∷ street) some each zero below = green-below n r cycle c some each.0
greens-below n r cycle (c ∷ street) some each (suc j) below = greens-below n r cycle street some each.1 j (omega arith)

-- so their arcs fit the cycle
pub fit-along : (n r legs : ℕ) (inbound : Bool) (travel : List ℕ) (ms : List Member) → FitsAlong n legs ms
    → FitCycle (first_cycle n ms) (map (arc_of n r) (passages_from inbound travel 0 ms))
fit-along n r legs inbound travel ms fits =
    let street : List Passage = passages_from inbound travel 0 ms in
    let each : EachCycle n (first_cycle n ms) street = each-cycle n (first_cycle n ms) inbound travel 0 ms fits.cycles in
    let many : length (map (arc_of n r) street) ≡ length ms = as-many n r inbound travel 0 ms in
    record {
      some = fits.some;
      any = omega (arith, fits.any);
      leads = leads-below n r (first_cycle n ms) street fits.some each;
      greens = greens-below n r (first_cycle n ms) street fits.some each;
    }
