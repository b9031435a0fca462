-- What is read of a cabinet's plan, and its window as an arc of the cycle: how far a vehicle with time 0 is into the
-- arc, and the length of the arc.
use Rattle.std.specs.Prelude.{ℕ, ◌+◌, ◌-◌, ◌%◌, ◌<◌, ◌≤◌, ◌≡◌, ◌==◌, ◌&&◌, ◌||◌, min, not, nat_lt, Bool, false, if◌then◌else◌, List, [], ◌∷◌, length, get_or, Option, Some, None}
use Rattle.std.specs.List.{list_all}
use Rattle.sig_tables.specs.Slots.{is_defined, coordinated_phase, force_point, cycle_time}
use Rattle.sig_tables.specs.Clock.{offset_time, shift_time}
use Rattle.band_report.specs.declared.arcs.Arc.{Arc}
use Rattle.band_report.specs.declared.band.Band.{Band}
use Rattle.band_report.specs.declared.band.Span.{Span}
use Rattle.band_report.specs.declared.signals.Signal.{Signal}
use Rattle.band_report.specs.declared.misfit.Misfit.{Misfit}
use Rattle.band_report.specs.declared.misfit.Misfit.TheVariants.{NoCabinet, Undefined, Cycles, Legs}
use Rattle.band_report.specs.Street.{Member, Passage, ring_driven}

-- what the plan of the pattern gives for a cabinet's window, for a vehicle in this direction
unfoldable pub signal_of : ℕ → Bool → Member → Signal
signal_of n inbound m = record {
  number = m.number;
  defined = is_defined m.tables n;
  cycle = cycle_time m.tables n;
  offset = offset_time m.tables n;
  shift = shift_time m.tables n;
  green = force_point m.tables n (coordinated_phase m.tables n (ring_driven inbound));
}

-- the default for a place without a cabinet
abbrev pub no_signal : Signal
no_signal = record { number = 0; defined = false; cycle = 0; offset = 0; shift = 0; green = 0 }

-- the first reason why there can be no band along the cabinets of these plans, with this many travel times; None if
-- no reason applies
abbrev pub misfit_read : ℕ → List Signal → Option Misfit
misfit_read legs signals =
    if length signals == 0 then Some NoCabinet else
    if not (list_all (λ s. s.defined) signals) then Some Undefined else
    if not (list_all (λ s. s.cycle == (get_or signals 0 no_signal).cycle) signals) then Some Cycles else
    if legs == length signals - 1 then None else Some Legs

-- the arc of a cabinet: the target of its counter as a vehicle with time 0 passes, and its force point
unfoldable pub arc_of : ℕ → ℕ → Passage → Arc
arc_of n r c = record {
  number = c.number;
  lead = (c.after + shift_time c.tables n + (cycle_time c.tables n - offset_time c.tables n % cycle_time c.tables n)) % cycle_time c.tables n;
  green = force_point c.tables n (coordinated_phase c.tables n r);
}

-- how far a time is into an arc, modulo the cycle
abbrev pub into : ℕ → Arc → ℕ → ℕ
into cycle a time = (time + a.lead) % cycle

-- how many ticks of an arc are left from a time on; 0 if the arc is over
abbrev pub left : ℕ → Arc → ℕ → ℕ
left cycle a time = a.green - into cycle a time

-- the minimum that is left of these arcs
abbrev pub left_of_all : ℕ → List Arc → ℕ → ℕ
left_of_all cycle [] time = cycle
left_of_all cycle (a ∷ more) time = min (left cycle a time) (left_of_all cycle more time)

-- the time at which an arc begins
abbrev pub start_of : ℕ → Arc → ℕ
start_of cycle a = (cycle - a.lead) % cycle

-- the number of the first arc that is over at this time; 0 if none is
abbrev pub first_past : ℕ → List Arc → ℕ → ℕ
first_past cycle [] time = 0
first_past cycle (a ∷ more) time = if nat_lt (into cycle a time) a.green then first_past cycle more time else a.number

-- the default for a place without an arc
abbrev pub no_arc : Arc
no_arc = record { number = 0; lead = 0; green = 0 }

-- there is at least one arc, each begins within the cycle, and none is as long as the cycle
pub record FitCycle (cycle : ℕ) (arcs : List Arc) : Type 0 where
  pub some : 0 < cycle
  pub any : 0 < length arcs
  pub leads : (j : ℕ) → j < length arcs → (get_or arcs j no_arc).lead < cycle
  pub greens : (j : ℕ) → j < length arcs → (get_or arcs j no_arc).green < cycle

-- the better of two spans: the wider one; if both have the same width, the earlier one
abbrev pub better : Span → Span → Span
better best found =
    if nat_lt best.width found.width || (best.width == found.width && nat_lt found.start best.start) then found else best

-- among the starts of the first `many` arcs and time 0, no time has more left of all arcs than `start`, and no
-- earlier one has as much
pub record BestOf (cycle : ℕ) (arcs : List Arc) (many start width : ℕ) : Type 0 where
  pub starts : start < cycle
  pub is : width ≡ left_of_all cycle arcs start
  pub most : (j : ℕ) → j < many → left_of_all cycle arcs (start_of cycle (get_or arcs j no_arc)) ≤ width
  pub first : (j : ℕ) → j < many → left_of_all cycle arcs (start_of cycle (get_or arcs j no_arc)) ≡ width → start ≤ start_of cycle (get_or arcs j no_arc)

-- the band that these arcs leave: it starts at the earliest time at which the most is left of all arcs
pub record LeavesBand (cycle : ℕ) (arcs : List Arc) (band : Band) : Type 0 where
  pub starts : band.start < cycle
  pub some : 0 < band.width
  pub width : band.width ≡ left_of_all cycle arcs band.start
  pub most : (time : ℕ) → time < cycle → left_of_all cycle arcs time ≤ band.width
  pub first : (time : ℕ) → time < cycle → left_of_all cycle arcs time ≡ band.width → band.start ≤ time
  pub before : band.before ≡ first_past cycle arcs (band.start + cycle - 1)
  pub after : band.after ≡ first_past cycle arcs (band.start + band.width)

-- the band that these arcs leave; None if nothing is left at any time
abbrev pub Leaves : ℕ → List Arc → Option Band → Type 0
Leaves cycle arcs None = (time : ℕ) → time < cycle → left_of_all cycle arcs time ≡ 0
Leaves cycle arcs (Some band) = LeavesBand cycle arcs band
