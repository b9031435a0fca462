-- The scenario that is generated from a seed, for this number of cabinets and rounds. Each generated number has a
-- place, counted from 0. Each cabinet takes four numbers. Then each round takes three numbers for each cabinet, and
-- one that says whether a poll is lost; if it is lost, the round takes one more for its cabinet. Below, `i` is a
-- cabinet counted from 0.
use Rattle.std.specs.Prelude.{ℕ, zero, suc, ◌+◌, ◌*◌, ◌==◌, Bool, if◌then◌else◌, List, [], ◌∷◌, ◌++◌}
use Rattle.sig_types.specs.declared.frame.Field.TheVariants.{Veh, Ped}
use Rattle.sig_types.specs.declared.notes.Way.TheVariants.{Poll}
use Rattle.sig_tables.specs.declared.cells.Cell.TheVariants.{Phase, Pattern, Unit as UnitCell}
use Rattle.sig_tables.specs.Cells.{Number}
use Rattle.scenario_data.specs.declared.scenario.Base.TheVariants.{Std8}
use Rattle.scenario_data.specs.declared.scenario.Direction.TheVariants.{Down}
use Rattle.scenario_data.specs.declared.scenario.FaultKind.TheVariants.{Lose}
use Rattle.scenario_data.specs.declared.scenario.Input.{Input}
use Rattle.scenario_data.specs.declared.scenario.Fault.{Fault}
use Rattle.scenario_data.specs.Content.{CabinetContent, LoadContent, MasterContent}
use Rattle.gen_arterial.specs.Draws.{drawn}

-- the results of `f` for the numbers 0 to n - 1, in order
abbrev pub each_below : {A : Type 0} → (ℕ → A) → ℕ → List A
each_below f zero = []
each_below f (suc n) = each_below f n ++ f n ∷ []

-- the offset of pattern 1 of cabinet `i`, in seconds
abbrev pub offset : ℕ → ℕ → ℕ
offset seed i = drawn seed (4 * i) 90

-- the offset correction of cabinet `i`: 2 dwell, 3 shortway, 4 add only
abbrev pub correction : ℕ → ℕ → ℕ
correction seed i = 2 + drawn seed (4 * i + 1) 3

-- the round of the load of cabinet `i`
abbrev pub load_round : ℕ → ℕ → ℕ → ℕ
load_round seed rounds i = 1 + drawn seed (4 * i + 2) rounds

-- the maximum green in seconds that the load of cabinet `i` gives to phase 2
abbrev pub load_maximum : ℕ → ℕ → ℕ
load_maximum seed i = 30 + drawn seed (4 * i + 3) 30

-- a cabinet with the standard tables std8, in pattern 1, with this offset and this correction
abbrev pub cabinet_with : ℕ → ℕ → CabinetContent
cabinet_with offset correction = record {
  base = Std8;
  cells = (Pattern 1 3, Number offset) ∷ (UnitCell 1, Number correction) ∷ [];
  pattern = 1;
  clock = 0;
  section = 1;
  gain = 0;
  lose = 0;
}

-- a load in this round for this cabinet, which gives this maximum green to phase 2
abbrev pub load_with : ℕ → ℕ → ℕ → LoadContent
load_with round cabinet green = record { round = round; cabinet = cabinet; cells = (Phase 2 6, Number green) ∷ [] }

-- cabinet `i`
abbrev pub cabinet_made : ℕ → ℕ → CabinetContent
cabinet_made seed i = cabinet_with (offset seed i) (correction seed i)

-- the load of cabinet `i`
abbrev pub load_made : ℕ → ℕ → ℕ → LoadContent
load_made seed rounds i = load_with (load_round seed rounds i) (1 + i) (load_maximum seed i)

-- an input of cabinet `i`: a detector turns on or off, by the two numbers from this place on
abbrev pub detector_input : ℕ → ℕ → ℕ → ℕ → Input
detector_input seed round place i =
    record { round = round; cabinet = 1 + i; field = Veh (1 + drawn seed place 8) (drawn seed (place + 1) 2 == 1) }

-- an input of cabinet `i`: the push button of phase 2 is pressed
abbrev pub button_input : ℕ → ℕ → Input
button_input round i = record { round = round; cabinet = 1 + i; field = Ped 2 }

-- the inputs of cabinet `i` in a round, by the three numbers from this place on. The push button is pressed in one
-- case of four
abbrev pub cabinet_inputs : ℕ → ℕ → ℕ → ℕ → List Input
cabinet_inputs seed round place i =
    detector_input seed round place i ∷ (if drawn seed (place + 2) 4 == 0 then button_input round i ∷ [] else [])

-- the inputs of the first `n` cabinets in a round whose numbers begin at this place
abbrev pub round_inputs : ℕ → ℕ → ℕ → ℕ → List Input
round_inputs seed round place zero = []
round_inputs seed round place (suc n) = round_inputs seed round place n ++ cabinet_inputs seed round (place + 3 * n) n

-- the number at this place says that a poll is lost, in one case of five
abbrev pub loses_poll : ℕ → ℕ → Bool
loses_poll seed place = drawn seed place 5 == 0

-- the fault of a round: the poll is lost on its way to a cabinet
abbrev pub lost_poll : ℕ → ℕ → Fault
lost_poll round cabinet =
    record { round = round; cabinet = cabinet; stream = Poll; way = Down; index = 0; kind = Lose; by = 1; octet = 1 }

-- the lost poll of a round, if one is lost, by the numbers from this place on
abbrev pub round_faults : ℕ → ℕ → ℕ → ℕ → List Fault
round_faults seed cabinets round place =
    if loses_poll seed place then lost_poll round (1 + drawn seed (place + 1) cabinets) ∷ [] else []

-- the place after the numbers for the lost poll
abbrev pub place_behind : ℕ → ℕ → ℕ
place_behind seed place = if loses_poll seed place then place + 2 else place + 1

-- the place of the first number of the round after this many rounds
abbrev pub round_place : ℕ → ℕ → ℕ → ℕ
round_place seed cabinets zero = 4 * cabinets
round_place seed cabinets (suc done) = place_behind seed (round_place seed cabinets done + 3 * cabinets)

-- the inputs of this many rounds
abbrev pub all_inputs : ℕ → ℕ → ℕ → List Input
all_inputs seed cabinets zero = []
all_inputs seed cabinets (suc done) =
    all_inputs seed cabinets done ++ round_inputs seed (1 + done) (round_place seed cabinets done) cabinets

-- the lost polls of this many rounds
abbrev pub all_faults : ℕ → ℕ → ℕ → List Fault
all_faults seed cabinets zero = []
all_faults seed cabinets (suc done) =
    all_faults seed cabinets done ++ round_faults seed cabinets (1 + done) (round_place seed cabinets done + 3 * cabinets)

-- the master polls in each round, and repeats pattern 1 in each sixtieth round
abbrev pub master_made : MasterContent
master_made = record {
  clock = 0;
  poll_every = 1;
  clock_every = 0;
  pattern_every = 60;
  retries = 3;
  schedule = record { second = 0; section = 1; pattern = 1 } ∷ [];
}
