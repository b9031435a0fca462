-- The street of a section as a vehicle passes along it: the cabinets in the order of the scenario, the time at which
-- each is passed, and the reasons why there can be no band.
use Rattle.std.specs.Prelude.{ℕ, ◌+◌, ◌==◌, not, Bool, if◌then◌else◌, List, [], ◌∷◌, length, take, drop, sum, Option, Some, None}
use Rattle.std.specs.List.{list_all}
use Rattle.sig_tables.specs.declared.tables.Tables.{Tables}
use Rattle.sig_tables.specs.Slots.{is_defined, cycle_time}
use Rattle.scenario_data.specs.Content.{CabinetContent}
use Rattle.scenario_data.specs.Opening.{opening_tables}
use Rattle.band_report.specs.declared.misfit.Misfit.{Misfit}
use Rattle.band_report.specs.declared.misfit.Misfit.TheVariants.{NoCabinet, Undefined, Cycles, Legs}

-- a cabinet: its number in the scenario, counted from 1, and its tables at the start
pub record Member : Type 0 where
  pub number : ℕ
  pub tables : Tables

-- the cabinets of this list that are in the section, each with its number; the first cabinet of the list has the
-- number `number`
abbrev pub members_from : ℕ → ℕ → List CabinetContent → List Member
members_from section number [] = []
members_from section number (c ∷ more) =
    if c.section == section
    then record { number = number; tables = opening_tables c } ∷ members_from section (number + 1) more
    else members_from section (number + 1) more

-- the cabinets of a section, in the order of the scenario
abbrev pub members : List CabinetContent → ℕ → List Member
members cabinets section = members_from section 1 cabinets

-- how many ticks after its first cabinet a vehicle passes the cabinet at this place; places are counted from 0.
-- Outbound this is the sum of the travel times up to the place. Inbound, where the last cabinet is passed first, it
-- is the sum of the travel times after the place
abbrev pub passed_after : Bool → List ℕ → ℕ → ℕ
passed_after inbound travel place = if inbound then sum (drop place travel) else sum (take place travel)

-- the ring whose coordinated phase serves the vehicle: ring 1 outbound, ring 2 inbound
abbrev pub ring_driven : Bool → ℕ
ring_driven inbound = if inbound then 2 else 1

-- a cabinet as a vehicle passes it: its number, its tables, and how many ticks after the first cabinet it is passed
pub record Passage : Type 0 where
  pub number : ℕ
  pub tables : Tables
  pub after : ℕ

-- these cabinets as a vehicle passes them; the first is at this place
abbrev pub passages_from : Bool → List ℕ → ℕ → List Member → List Passage
passages_from inbound travel place [] = []
passages_from inbound travel place (m ∷ more) =
    record { number = m.number; tables = m.tables; after = passed_after inbound travel place }
    ∷ passages_from inbound travel (place + 1) more

-- the cabinets of a section as a vehicle passes them, in the order of the scenario
abbrev pub passages : List CabinetContent → ℕ → List ℕ → Bool → List Passage
passages cabinets section travel inbound = passages_from inbound travel 0 (members cabinets section)

-- each of these cabinets defines the pattern
abbrev pub all_define : ℕ → List Member → Bool
all_define pattern ms = list_all (λ m. is_defined m.tables pattern) ms

-- the pattern has this cycle at each of these cabinets
abbrev pub all_have_cycle : ℕ → ℕ → List Member → Bool
all_have_cycle pattern cycle ms = list_all (λ m. cycle_time m.tables pattern == cycle) ms

-- the cycle of the pattern at the first of these cabinets; 0 if there is none
abbrev pub first_cycle : ℕ → List Member → ℕ
first_cycle pattern [] = 0
first_cycle pattern (m ∷ more) = cycle_time m.tables pattern

-- the first of these reasons why there can be no band along these cabinets: there is no cabinet, a cabinet doesn't
-- define the pattern, the cycles differ, or the number of travel times is wrong. None if no reason applies
abbrev pub misfit_along : ℕ → ℕ → List Member → Option Misfit
misfit_along pattern legs [] = Some NoCabinet
misfit_along pattern legs (m ∷ more) =
    if not (all_define pattern (m ∷ more)) then Some Undefined else
    if not (all_have_cycle pattern (cycle_time m.tables pattern) (m ∷ more)) then Some Cycles else
    if legs == length more then None else Some Legs

-- the first reason why there can be no band along a section; None if no reason applies
abbrev pub misfit_of : List CabinetContent → ℕ → ℕ → ℕ → Option Misfit
misfit_of cabinets section pattern legs = misfit_along pattern legs (members cabinets section)

-- the common cycle of a section, in ticks
abbrev pub cycle_of : List CabinetContent → ℕ → ℕ → ℕ
cycle_of cabinets section pattern = first_cycle pattern (members cabinets section)
