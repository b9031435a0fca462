-- The order in which a link keeps its faults: by round, cabinet, stream, direction and place.
use Rattle.std.specs.Prelude.{ℕ, ◌≡◌, List}
use Rattle.std.specs.declared.cmp.Ordering.{Ordering}
use Rattle.std.specs.Ordering.{nat_cmp, ordering_then}
use Rattle.scenario_data.specs.declared.scenario.Direction.{Direction}
use Rattle.scenario_data.specs.declared.scenario.Direction.TheVariants.{Down, Up}
use Rattle.scenario_data.specs.declared.scenario.FaultKind.TheVariants.{Lose}
use Rattle.scenario_data.specs.declared.scenario.Fault.{Fault}
use Rattle.sig_types.specs.Passes.{pass_of}
use Rattle.link_sim.specs.declared.Line.{Line}
use Rattle.link_sim.specs.Faults.{fault_of}

-- the order of directions: to the cabinet before from the cabinet
abbrev pub rank_of : Direction → ℕ
rank_of Down = 0
rank_of Up = 1

-- the order of faults, by their messages
abbrev pub by_place : Fault → Fault → Ordering
by_place f g =
    ordering_then (ordering_then (ordering_then (ordering_then
    (nat_cmp f.round g.round)
    (nat_cmp f.cabinet g.cabinet))
    (nat_cmp (pass_of f.stream) (pass_of g.stream)))
    (nat_cmp (rank_of f.way) (rank_of g.way)))
    (nat_cmp f.index g.index)

-- a fault for the message at this place of the line in this round
abbrev pub fault_at : Line → ℕ → ℕ → Fault
fault_at line round place =
    record { round = round; cabinet = line.cab; stream = line.way; way = line.direction; index = place; kind = Lose; by = 0; octet = 0 }

-- each message has the same fault in both lists
abbrev pub SameFaults : List Fault → List Fault → Type 0
SameFaults faults others = (line : Line) → (round place : ℕ) → fault_of faults line round place ≡ fault_of others line round place
