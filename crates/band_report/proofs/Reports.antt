-- The band that the arcs leave is the greatest of the street.
use Rattle.std.proofs.Common.{◌≡◌, ◌∙◌, ℕ, ◌+◌, ◌-◌, ◌%◌, ◌<◌, ◌≤◌, ◌&&◌, Bool, true, false, min, nat_lt, if◌then◌else◌, List, [], ◌∷◌, get_or, map, Option, Some, None, refl, sym, ap, ap₂, subst, arith}
use Rattle.std.proofs.lemmas.Bool.{ltb-true, ltb-false, lt-ltb, le-ltb}
use Rattle.std.proofs.Math.Nat.{add-mod-mod}
use Rattle.sig_tables.specs.Slots.{cycle_time, coordinated_phase, force_point}
use Rattle.sig_tables.specs.Clock.{offset_time, shift_time}
use Rattle.band_report.specs.declared.arcs.Arc.{Arc}
use Rattle.band_report.specs.declared.band.Band.{Band}
use Rattle.band_report.specs.declared.signals.Signal.{Signal}
use Rattle.band_report.specs.Street.{Member, Passage, passages_from, ring_driven, all_have_cycle, first_cycle, misfit_along}
use Rattle.band_report.specs.Bands.{finds_window, is_open, first_closed, IsBand, IsGreatest, IsReport}
use Rattle.band_report.specs.Arcs.{signal_of, arc_of, into, left_of_all, first_past, FitCycle, Leaves, LeavesBand}
use Rattle.band_report.proofs.Leaving.{goes-on, stays, part-left, closed-before, closed-after}
use Rattle.band_report.proofs.Reading.{first-read}
use Rattle.band_report.proofs.Driving.{EachCycle, FitsAlong, fits-along, fit-along, each-cycle}

-- a vehicle finds a cabinet in its window where it is not past the window's arc
finds-is : (n r cycle : ℕ) (c : Passage) (time : ℕ) → cycle_time c.tables n ≡ cycle → finds_window n r time c ≡ nat_lt (into cycle (arc_of n r c) time) (arc_of n r c).green
unfolding arc_of
finds-is n r cycle c time own =
    let behind : ℕ = cycle_time c.tables n - offset_time c.tables n % cycle_time c.tables n in
    ap (λ (x : ℕ). nat_lt x (force_point c.tables n (coordinated_phase c.tables n r)))
    (same c.after (shift_time c.tables n) behind (cycle_time c.tables n)
    ∙ ap (λ (x : ℕ). (time + (c.after + shift_time c.tables n + behind) % cycle_time c.tables n) % x) own)
  where
    same : (after shift behind own : ℕ) → (time + after + shift + behind) % own ≡ (time + (after + shift + behind) % own) % own
    same after shift behind own =
        let e : time + after + shift + behind ≡ time + (after + shift + behind) = omega arith in
        ap (λ (x : ℕ). x % own) e ∙ sym (add-mod-mod time (after + shift + behind) own)

-- both are above 0 where their smaller is
both-above : (u g m : ℕ) → (nat_lt u g && nat_lt 0 m) ≡ nat_lt 0 (min (g - u) m)
both-above u g m = split (nat_lt u g) (nat_lt 0 m) refl refl
  where
    split : (a b : Bool) → nat_lt u g ≡ a → nat_lt 0 m ≡ b → (a && b) ≡ nat_lt 0 (min (g - u) m)
    split true true p q =
        let h : u < g = ltb-true u g p in
        let k : 0 < m = ltb-true 0 m q in
        sym (lt-ltb 0 (min (g - u) m) (omega arith))
    split true false p q = let k : m ≤ 0 = ltb-false 0 m q in sym (le-ltb 0 (min (g - u) m) (omega arith))
    split false b p q = let h : g ≤ u = ltb-false u g p in sym (le-ltb 0 (min (g - u) m) (omega arith))

-- a time is open where something is left of all arcs
pub open-is : (n r cycle : ℕ) (street : List Passage) (time : ℕ) → 0 < cycle → EachCycle n cycle street
    → is_open n r street time ≡ nat_lt 0 (left_of_all cycle (map (arc_of n r) street) time)
open-is n r cycle [] time some each = sym (lt-ltb 0 cycle some)
open-is n r cycle (c ∷ street) time some each =
    ap₂ (λ (a b : Bool). a && b) (finds-is n r cycle c time each.0) (open-is n r cycle street time some each.1)
    ∙ both-above (into cycle (arc_of n r c) time) (arc_of n r c).green (left_of_all cycle (map (arc_of n r) street) time)

arc-number : (n r : ℕ) (c : Passage) → (arc_of n r c).number ≡ c.number
unfolding arc_of
arc-number n r c = refl

-- where a time is not open, the first arc that it is past is that of the first cabinet that it finds closed
first-is : (n r cycle : ℕ) (street : List Passage) (time : ℕ) → EachCycle n cycle street → is_open n r street time ≡ false
    → first_closed n r street time ≡ Some (first_past cycle (map (arc_of n r) street) time)
first-is n r cycle [] time each closed = absurd (cc)
first-is n r cycle (c ∷ street) time each closed = split (finds_window n r time c) (nat_lt (into cycle (arc_of n r c) time) (arc_of n r c).green) (finds-is n r cycle c time each.0) closed
    (first-is n r cycle street time each.1)
  where
    split : (a b : Bool) → a ≡ b → (a && is_open n r street time) ≡ false
        → (is_open n r street time ≡ false → first_closed n r street time ≡ Some (first_past cycle (map (arc_of n r) street) time))
        → (if a then first_closed n r street time else Some c.number)
        ≡ Some (if b then first_past cycle (map (arc_of n r) street) time else (arc_of n r c).number)
    split true true e h rest = rest h
    split true false e h rest = absurd (cc)
    split false true e h rest = absurd (cc)
    split false false e h rest = ap Some (sym (arc-number n r c))

-- a band is at most as wide as what is left from its start on
band-left : (n r cycle : ℕ) (street : List Passage) (start width : ℕ) → EachCycle n cycle street → FitCycle cycle (map (arc_of n r) street) → IsBand n r street cycle start width
    → width ≤ left_of_all cycle (map (arc_of n r) street) start
band-left n r cycle street start width each fit band = stays cycle (map (arc_of n r) street) start width fit (omega (arith, band.fewer)) there
  where
    there : (tick : ℕ) → tick < width → 0 < left_of_all cycle (map (arc_of n r) street) (start + tick)
    there tick more = ltb-true 0 _ (sym (open-is n r cycle street (start + tick) fit.some each) ∙ band.all_open tick more)

-- nothing is left of all arcs at a time that is not open
closed-is : (n r cycle : ℕ) (street : List Passage) (time : ℕ) → 0 < cycle → EachCycle n cycle street → left_of_all cycle (map (arc_of n r) street) time ≡ 0 → is_open n r street time ≡ false
closed-is n r cycle street time some each none = open-is n r cycle street time some each ∙ ap (nat_lt 0) none

-- so the band that the arcs leave is the greatest
greatest-is : (n r cycle : ℕ) (street : List Passage) (band : Band) → EachCycle n cycle street → FitCycle cycle (map (arc_of n r) street)
    → LeavesBand cycle (map (arc_of n r) street) band → IsGreatest n r street cycle band
greatest-is n r cycle street band each fit l =
    let arcs : List Arc = map (arc_of n r) street in
    record {
      is = record {
        starts = l.starts;
        some = l.some;
        fewer = omega (arith, l.width, part-left cycle arcs band.start fit);
        all_open = λ tick more. open-is n r cycle street (band.start + tick) fit.some each
            ∙ lt-ltb 0 (left_of_all cycle arcs (band.start + tick)) (goes-on cycle arcs band.start tick fit (omega (arith, l.width)));
      };
      widest = λ start width is. omega (arith, band-left n r cycle street start width each fit is, l.most start is.starts);
      first = λ start is. l.first start is.starts (let least : band.width ≤ left_of_all cycle arcs start = band-left n r cycle street start band.width each fit is in omega (arith, l.most start is.starts));
      before = first-is n r cycle street (band.start + cycle - 1) each
          (closed-is n r cycle street (band.start + cycle - 1) fit.some each
          (closed-before cycle arcs band.start fit (λ time few. subst (λ (x : ℕ). left_of_all cycle arcs time ≤ x) l.width (l.most time few))))
          ∙ ap Some (sym l.before);
      after = first-is n r cycle street (band.start + band.width) each
          (closed-is n r cycle street (band.start + band.width) fit.some each (closed-after cycle arcs band.start band.width fit l.width))
          ∙ ap Some (sym l.after);
    }

pub report-is : (n r cycle : ℕ) (street : List Passage) (report : Option Band) → EachCycle n cycle street → FitCycle cycle (map (arc_of n r) street)
    → Leaves cycle (map (arc_of n r) street) report → IsReport n r street cycle report
report-is n r cycle street None each fit l = λ time few. closed-is n r cycle street time fit.some each (l time few)
report-is n r cycle street (Some band) each fit l = greatest-is n r cycle street band each fit l

-- what is read of cabinets along which there can be a band: the common cycle comes first
pub record Ready (n : ℕ) (inbound : Bool) (ms : List Member) (s : Signal) : Type 0 where
  pub some : 0 < s.cycle
  pub is : s.cycle ≡ first_cycle n ms
  pub cycles : all_have_cycle n s.cycle ms ≡ true

pub ready : (n legs : ℕ) (inbound : Bool) (ms : List Member) (signals : List Signal) (s : Signal) → signals ≡ map (signal_of n inbound) ms → misfit_along n legs ms ≡ None
    → s ≡ get_or signals 0 s → Ready n inbound ms s
ready n legs inbound ms signals s e none at =
    let fits : FitsAlong n legs ms = fits-along n legs ms none in
    let is : s.cycle ≡ first_cycle n ms = first-read n inbound ms signals s e fits.any at in
    record { some = omega (arith, fits.some); is = is; cycles = subst (λ (x : ℕ). all_have_cycle n x ms ≡ true) (sym is) fits.cycles }

pub fit-ready : (n legs : ℕ) (inbound : Bool) (travel : List ℕ) (ms : List Member) (s : Signal) (arcs : List Arc) → misfit_along n legs ms ≡ None → Ready n inbound ms s
    → arcs ≡ map (arc_of n (ring_driven inbound)) (passages_from inbound travel 0 ms) → FitCycle s.cycle arcs
fit-ready n legs inbound travel ms s arcs none r e =
    subst (λ (xs : List Arc). FitCycle s.cycle xs) (sym e)
    (subst (λ (x : ℕ). FitCycle x (map (arc_of n (ring_driven inbound)) (passages_from inbound travel 0 ms))) (sym r.is)
    (fit-along n (ring_driven inbound) legs inbound travel ms (fits-along n legs ms none)))

pub report-ready : (n legs : ℕ) (inbound : Bool) (travel : List ℕ) (ms : List Member) (s : Signal) (arcs : List Arc) (report : Option Band) → misfit_along n legs ms ≡ None
    → Ready n inbound ms s → arcs ≡ map (arc_of n (ring_driven inbound)) (passages_from inbound travel 0 ms) → Leaves s.cycle arcs report
    → IsReport n (ring_driven inbound) (passages_from inbound travel 0 ms) (first_cycle n ms) report
report-ready n legs inbound travel ms s arcs report none r e leaves =
    let street : List Passage = passages_from inbound travel 0 ms in
    let fits : FitsAlong n legs ms = fits-along n legs ms none in
    report-is n (ring_driven inbound) (first_cycle n ms) street report (each-cycle n (first_cycle n ms) inbound travel 0 ms fits.cycles)
    (fit-along n (ring_driven inbound) legs inbound travel ms fits)
    (subst (λ (x : ℕ). Leaves x (map (arc_of n (ring_driven inbound)) street) report) r.is (subst (λ (xs : List Arc). Leaves s.cycle xs report) e leaves))
