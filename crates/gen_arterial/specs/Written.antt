-- The generated scenario as a JSON value (RFC 8259), its content, and its text. The names of each object are in the
-- order of their bytes, and don't depend on the seed.
use Rattle.std.specs.Prelude.{ℕ, ◌+◌, ◌≤◌, ◌*◌, List, [], ◌∷◌, ◌++◌, map, codes}
use Rattle.serde_json.specs.Data.{unsigned, Data, boolean, number, string, array, object, Items, no_items, item, Members, no_members, member}
use Rattle.serde_json.specs.Written.{compact_text}
use Rattle.sig_types.specs.declared.frame.Field.{Field}
use Rattle.sig_types.specs.declared.frame.Field.TheVariants.{Veh, Ped, Preempt}
use Rattle.scenario_data.specs.declared.scenario.Input.{Input}
use Rattle.scenario_data.specs.declared.scenario.Fault.{Fault}
use Rattle.scenario_data.specs.Content.{ScenarioContent}
use Rattle.gen_arterial.specs.Generated.{each_below, offset, correction, load_round, load_maximum, cabinet_made, load_made, all_inputs, all_faults, master_made}

-- a whole number as a JSON value
abbrev pub whole : ℕ → Data
whole n = number (unsigned n)

-- these values as the items of a list
abbrev pub items_from : List Data → Items
items_from [] = no_items
items_from (d ∷ ds) = item d (items_from ds)

-- a cell: its word, then the numbers of its row and its column, and its content
abbrev pub cell_value : List ℕ → List ℕ → Data
cell_value word numbers = array (item (string word) (items_from (map whole numbers)))

-- a cabinet with this offset and this correction
abbrev pub cabinet_value : ℕ → ℕ → Data
cabinet_value offset correction =
    object
    (member (codes "base") (string (codes "std8"))
    (member (codes "cells") (array (items_from (cell_value (codes "pattern") (1 ∷ 3 ∷ offset ∷ []) ∷ cell_value (codes "unit") (1 ∷ correction ∷ []) ∷ [])))
    (member (codes "pattern") (whole 1) no_members)))

-- a load in this round for this cabinet, which gives this maximum green to phase 2
abbrev pub load_value : ℕ → ℕ → ℕ → Data
load_value round cabinet green =
    object
    (member (codes "cabinet") (whole cabinet)
    (member (codes "cells") (array (items_from (cell_value (codes "phase") (2 ∷ 6 ∷ green ∷ []) ∷ [])))
    (member (codes "round") (whole round) no_members)))

-- an input in this round at this cabinet
abbrev pub field_value : ℕ → ℕ → Field → Data
field_value round cabinet (Veh phase on) =
    object
    (member (codes "cabinet") (whole cabinet)
    (member (codes "on") (boolean on) (member (codes "round") (whole round) (member (codes "veh") (whole phase) no_members))))
field_value round cabinet (Ped phase) =
    object (member (codes "cabinet") (whole cabinet) (member (codes "ped") (whole phase) (member (codes "round") (whole round) no_members)))
field_value round cabinet (Preempt input on) =
    object
    (member (codes "cabinet") (whole cabinet)
    (member (codes "on") (boolean on) (member (codes "preempt") (whole input) (member (codes "round") (whole round) no_members))))

-- an input
abbrev pub input_value : Input → Data
input_value input = field_value input.round input.cabinet input.field

-- a lost poll
abbrev pub lost_value : Fault → Data
lost_value fault =
    object
    (member (codes "cabinet") (whole fault.cabinet)
    (member (codes "kind") (string (codes "lose"))
    (member (codes "round") (whole fault.round)
    (member (codes "stream") (string (codes "poll")) (member (codes "way") (string (codes "down")) no_members)))))

-- the master
abbrev pub master_value : Data
master_value =
    object
    (member (codes "pattern_every") (whole 60)
    (member (codes "poll_every") (whole 1)
    (member (codes "retries") (whole 3)
    (member
    (codes "schedule")
    (array (items_from (object (member (codes "pattern") (whole 1) (member (codes "second") (whole 0) (member (codes "section") (whole 1) no_members))) ∷ [])))
    no_members))))

-- the members of a scenario that are lists
abbrev pub lists_members : Data → Data → Data → Data → Members
lists_members cabinets faults inputs loads =
    member (codes "cabinets") cabinets (member (codes "faults") faults (member (codes "inputs") inputs (member (codes "loads") loads no_members)))

-- the scenario with these lists
abbrev pub whole_value : Data → Data → Data → Data → ℕ → Data
whole_value cabinets faults inputs loads rounds =
    object
    (member (codes "cabinets") cabinets
    (member (codes "faults") faults
    (member (codes "inputs") inputs
    (member (codes "loads") loads
    (member (codes "master") master_value
    (member (codes "rounds") (whole rounds) (member (codes "ticks") (whole 100) (member (codes "version") (whole 1) no_members))))))))

-- the generated scenario as a JSON value
abbrev pub scenario_value : ℕ → ℕ → ℕ → Data
scenario_value seed cabinets rounds =
    whole_value
    (array (items_from (each_below (λ i. cabinet_value (offset seed i) (correction seed i)) cabinets)))
    (array (items_from (map lost_value (all_faults seed cabinets rounds))))
    (array (items_from (map input_value (all_inputs seed cabinets rounds))))
    (array (items_from (each_below (λ i. load_value (load_round seed rounds i) (1 + i) (load_maximum seed i)) cabinets)))
    rounds

-- the content of the generated scenario
abbrev pub generated : ℕ → ℕ → ℕ → ScenarioContent
generated seed cabinets rounds = record {
  version = 1;
  rounds = rounds;
  ticks = 100;
  community = codes "public";
  cabinets = each_below (cabinet_made seed) cabinets;
  master = master_made;
  inputs = all_inputs seed cabinets rounds;
  loads = each_below (load_made seed rounds) cabinets;
  priority = [];
  frames = [];
  faults = all_faults seed cabinets rounds;
  compact = compact_text (scenario_value seed cabinets rounds);
}

-- the text of the generated scenario: its compact text and a newline
abbrev pub generated_text : ℕ → ℕ → ℕ → List ℕ
generated_text seed cabinets rounds = compact_text (scenario_value seed cabinets rounds) ++ 10 ∷ []

-- a scenario can be generated for these numbers: 1 to 64 cabinets and 1 to 86,400 rounds, with cabinets times rounds
-- at most 100,000
pub record CanMake (cabinets rounds : ℕ) : Type 0 where
  pub some : 1 ≤ cabinets
  pub few : cabinets ≤ 64
  pub one : 1 ≤ rounds
  pub short : rounds ≤ 86400
  pub together : cabinets * rounds ≤ 100000
