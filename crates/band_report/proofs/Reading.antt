-- What is read of the cabinets of a section is what their plans say.
use Rattle.std.proofs.Common.{◌≡◌, ◌∙◌, ℕ, ◌+◌, ◌-◌, ◌<◌, ◌≤◌, ◌==◌, Bool, true, false, not, if◌then◌else◌, List, [], ◌∷◌, ◌++◌, length, drop, get_or, map, Some, None, refl, sym, ap, arith, append-nil, append_assoc}
use Rattle.std.proofs.lemmas.Bool.{ne_eqb}
use Rattle.std.proofs.lemmas.List.{get_or-map, length-map, drop_more, drop_all}
use Rattle.std.proofs.lemmas.List.Folds.{list_all-map}
use Rattle.std.specs.List.{list_all}
use Rattle.sig_types.specs.Phases.{is_phase, all_phases}
use Rattle.sig_types.proofs.Lists.{phase-in, at-place}
use Rattle.sig_tables.specs.declared.plan.Plan.{Plan}
use Rattle.sig_tables.specs.declared.tables.Tables.{Tables}
use Rattle.sig_tables.specs.Slots.{is_defined, cycle_time, coordinated_phase, force_point}
use Rattle.sig_tables.specs.Clock.{offset_time, shift_time}
use Rattle.sig_tables.specs.Plan.{plan_of}
use Rattle.scenario_data.specs.declared.scenario.Cabinet.{Cabinet}
use Rattle.scenario_data.specs.Content.{CabinetContent, cabinet_content}
use Rattle.scenario_data.specs.Opening.{opening_tables}
use Rattle.band_report.specs.declared.signals.Signal.{Signal}
use Rattle.band_report.specs.declared.misfit.Misfit.TheVariants.{NoCabinet, Undefined, Cycles, Legs}
use Rattle.band_report.specs.Street.{Member, members_from, ring_driven, all_define, all_have_cycle, first_cycle, misfit_along}
use Rattle.band_report.specs.Arcs.{signal_of, misfit_read}

-- what a plan has at the place of a phase
pub force-at : (plan : Plan) (t : Tables) (n p : ℕ) → plan ≡ plan_of t n → is_phase p ≡ true → get_or plan.force (p - 1) 0 ≡ force_point t n p
force-at plan t n p e is =
    let k : (0 < p) × (p ≤ 16) = phase-in p is in
    let l : p - 1 < 16 = omega arith in
    ap (λ (x : Plan). get_or x.force (p - 1) 0) e ∙ get_or-map (force_point t n) all_phases (p - 1) 0 0 l ∙ ap (force_point t n) (at-place p is)

pub met-outbound : (plan : Plan) (t : Tables) (n : ℕ) (inbound : Bool) → inbound ≡ false → plan ≡ plan_of t n → get_or plan.coordinated 0 0 ≡ coordinated_phase t n (ring_driven inbound)
met-outbound plan t n true h e = absurd (cc)
met-outbound plan t n false h e = ap (λ (x : Plan). get_or x.coordinated 0 0) e

pub met-inbound : (plan : Plan) (t : Tables) (n : ℕ) (inbound : Bool) → inbound ≡ true → plan ≡ plan_of t n → get_or plan.coordinated 1 0 ≡ coordinated_phase t n (ring_driven inbound)
met-inbound plan t n true h e = ap (λ (x : Plan). get_or x.coordinated 1 0) e
met-inbound plan t n false h e = absurd (cc)

same-signal : (number : ℕ) (a b : Bool) (c d e f g h i j : ℕ) → a ≡ b → c ≡ d → e ≡ f → g ≡ h → i ≡ j
    → (let s : Signal = record { number = number; defined = a; cycle = c; offset = e; shift = g; green = i } in s)
    ≡ record { number = number; defined = b; cycle = d; offset = f; shift = h; green = j }
same-signal number a b c d e f g h i j p q r s t = rw (p, q, r, s, t) refl

pub signal-is : (plan : Plan) (t : Tables) (number n : ℕ) (defined : Bool) (green : ℕ) (inbound : Bool) → plan ≡ plan_of t n → defined ≡ is_defined t n
    → green ≡ force_point t n (coordinated_phase t n (ring_driven inbound))
    → (let s : Signal = record { number = number; defined = defined; cycle = plan.cycle; offset = plan.offset; shift = plan.shift; green = green } in s)
    ≡ signal_of n inbound (record { number = number; tables = t })
unfolding signal_of
signal-is plan t number n defined green inbound p d g =
    same-signal number defined (is_defined t n) plan.cycle (cycle_time t n) plan.offset (offset_time t n) plan.shift (shift_time t n) green
    (force_point t n (coordinated_phase t n (ring_driven inbound))) d (ap (λ (x : Plan). x.cycle) p) (ap (λ (x : Plan). x.offset) p) (ap (λ (x : Plan). x.shift) p) g

-- the cabinets before place i are gone through, and this is what was read of those of the section
pub record Gathered (section n : ℕ) (inbound : Bool) (all : List Cabinet) (found : List Signal) (i : ℕ) : Type 0 where
  pub is : map (signal_of n inbound) (members_from section 1 (map cabinet_content all))
      ≡ found ++ map (signal_of n inbound) (members_from section (i + 1) (map cabinet_content (drop i all)))

pub gathered_none : (section n : ℕ) (inbound : Bool) (all : List Cabinet) → Gathered section n inbound all [] 0
gathered_none section n inbound all = record { is = refl }

-- a cabinet of the section is before the rest of it, and another does not count
one-in : (section number : ℕ) (c : CabinetContent) (more : List CabinetContent) → (c.section == section) ≡ true
    → members_from section number (c ∷ more) ≡ record { number = number; tables = opening_tables c } ∷ members_from section (number + 1) more
one-in section number c more h = rw h refl

one-out : (section number : ℕ) (c : CabinetContent) (more : List CabinetContent) → (c.section == section) ≡ false
    → members_from section number (c ∷ more) ≡ members_from section (number + 1) more
one-out section number c more h = rw h refl

pub gathered_in : (section n : ℕ) (inbound : Bool) (all : List Cabinet) (found : List Signal) (i : ℕ) (d : Cabinet) (s : Signal) → i < length all
    → ((get_or all i d).section == section) ≡ true
    → s ≡ signal_of n inbound (record { number = i + 1; tables = opening_tables (cabinet_content (get_or all i d)) })
    → Gathered section n inbound all found i → Gathered section n inbound all (found ++ s ∷ []) (i + 1)
gathered_in section n inbound all found i d s within is e g =
    let here = drop_more all i d within in
    let c : CabinetContent = cabinet_content (get_or all i d) in
    let more : List CabinetContent = map cabinet_content (drop (i + 1) all) in
    let rest : List Signal = map (signal_of n inbound) (members_from section (i + 1 + 1) more) in
    record {
      is = g.is ∙ ap (λ (xs : List Cabinet). found ++ map (signal_of n inbound) (members_from section (i + 1) (map cabinet_content xs))) here
          ∙ ap (λ (ms : List Member). found ++ map (signal_of n inbound) ms) (one-in section (i + 1) c more is)
          ∙ ap (λ (x : Signal). found ++ (x ∷ rest)) (sym e) ∙ sym (append_assoc found (s ∷ []) rest);
    }

pub gathered_out : (section n : ℕ) (inbound : Bool) (all : List Cabinet) (found : List Signal) (i : ℕ) (d : Cabinet) → i < length all
    → ((get_or all i d).section == section) ≡ false
    → Gathered section n inbound all found i → Gathered section n inbound all found (i + 1)
gathered_out section n inbound all found i d within is g =
    let here = drop_more all i d within in
    let c : CabinetContent = cabinet_content (get_or all i d) in
    let more : List CabinetContent = map cabinet_content (drop (i + 1) all) in
    record {
      is = g.is ∙ ap (λ (xs : List Cabinet). found ++ map (signal_of n inbound) (members_from section (i + 1) (map cabinet_content xs))) here
          ∙ ap (λ (ms : List Member). found ++ map (signal_of n inbound) ms) (one-out section (i + 1) c more is);
    }

pub gathered_all : (section n : ℕ) (inbound : Bool) (all : List Cabinet) (found : List Signal) (i : ℕ) → length all ≤ i → Gathered section n inbound all found i
    → found ≡ map (signal_of n inbound) (members_from section 1 (map cabinet_content all))
gathered_all section n inbound all found i past g =
    sym (g.is ∙ ap (λ (xs : List Cabinet). found ++ map (signal_of n inbound) (members_from section (i + 1) (map cabinet_content xs))) (drop_all i all past) ∙ append-nil found)

-- what is read of cabinets says which of them define the pattern, and which have a cycle
pub defined-read : (n : ℕ) (inbound : Bool) (ms : List Member) → list_all (λ s. s.defined) (map (signal_of n inbound) ms) ≡ all_define n ms
unfolding signal_of
defined-read n inbound ms = list_all-map (λ s. s.defined) (signal_of n inbound) ms

pub cycles-read : (n cycle : ℕ) (inbound : Bool) (ms : List Member) → list_all (λ s. s.cycle == cycle) (map (signal_of n inbound) ms) ≡ all_have_cycle n cycle ms
unfolding signal_of
cycles-read n cycle inbound ms = list_all-map (λ s. s.cycle == cycle) (signal_of n inbound) ms

pub cycle-read : (n : ℕ) (inbound : Bool) (m : Member) → (signal_of n inbound m).cycle ≡ cycle_time m.tables n
unfolding signal_of
cycle-read n inbound m = refl

-- and why there can be no band along them
pub misfit-is : (n legs : ℕ) (inbound : Bool) (ms : List Member) → misfit_read legs (map (signal_of n inbound) ms) ≡ misfit_along n legs ms
misfit-is n legs inbound [] = refl
misfit-is n legs inbound (m ∷ ms) =
    let first : (signal_of n inbound m).cycle ≡ cycle_time m.tables n = cycle-read n inbound m in
    let cycles : list_all (λ s. s.cycle == (signal_of n inbound m).cycle) (map (signal_of n inbound) (m ∷ ms)) ≡ all_have_cycle n (cycle_time m.tables n) (m ∷ ms) =
    ap (λ (x : ℕ). list_all (λ s. s.cycle == x) (map (signal_of n inbound) (m ∷ ms))) first ∙ cycles-read n (cycle_time m.tables n) inbound (m ∷ ms) in
    let many : length (map (signal_of n inbound) ms) ≡ length ms = length-map ms (signal_of n inbound) in
    chosen (length (map (signal_of n inbound) (m ∷ ms))) (length ms) _ _ _ _ (omega arith) (defined-read n inbound (m ∷ ms)) cycles
  where
    chosen : (count more : ℕ) (a b c d : Bool) → count ≡ more + 1 → a ≡ b → c ≡ d
        → (if count == 0 then Some NoCabinet else if not a then Some Undefined else if not c then Some Cycles else if legs == count - 1 then None else Some Legs)
        ≡ (if not b then Some Undefined else if not d then Some Cycles else if legs == more then None else Some Legs)
    chosen count more a b c d e p q =
        let some : (count == 0) ≡ false = ne_eqb count 0 (λ none. omega arith) in
        let one : count - 1 ≡ more = omega arith in
        rw (some, one, p, q) refl

-- the cycle that is read first is that of the first cabinet
pub first-read : (n : ℕ) (inbound : Bool) (ms : List Member) (signals : List Signal) (s : Signal) → signals ≡ map (signal_of n inbound) ms → 0 < length ms → s ≡ get_or signals 0 s
    → s.cycle ≡ first_cycle n ms
first-read n inbound [] signals s e any at = absurd (omega arith)
first-read n inbound (m ∷ ms) signals s e any at =
    let is : s ≡ signal_of n inbound m = at ∙ ap (λ (xs : List Signal). get_or xs 0 s) e in
    ap (λ (x : Signal). x.cycle) is ∙ cycle-read n inbound m
