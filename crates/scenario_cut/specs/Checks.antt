-- The faults of a scenario, in the order in which they are checked if its lists aren't stored.
use Rattle.std.specs.Prelude.{◌≡◌, ◌*◌, List, [], ◌∷◌, ◌++◌, length}
use Rattle.serde_json.specs.Data.{Data}
use Rattle.scenario_data.specs.Causes.{Cause}
use Rattle.scenario_data.specs.Content.{CabinetContent}
use Rattle.scenario_read.specs.Fields.{Field, held, field_faults, fields_faults, known_fields, names}
use Rattle.scenario_read.specs.Readers.{names_faults}
use Rattle.scenario_read.specs.Table.{version, rounds, ticks, community, cabinets, master, event_fields, scenario_shape}
use Rattle.scenario_read.specs.Content.{list_in, cabinet_of, version_number, round_count, tick_count, cabinet_count}
use Rattle.scenario_read.specs.Faults.{product_faults, all_table_faults, faults}
use Rattle.scenario_cut.specs.declared.checks.Head.{Head}
use Rattle.scenario_cut.specs.declared.judge.Extent.{Extent}

-- the fields before the cabinets
abbrev pub head_fields : List Field
head_fields = version ∷ rounds ∷ ticks ∷ community ∷ []

-- the faults of unknown names and of these fields
abbrev pub head_faults : Data → List Cause
head_faults d = names_faults (names (known_fields (scenario_shape 1 1 1) d)) [] d ++ fields_faults [] d head_fields

-- the version, the number of rounds and the number of ticks of a scenario
abbrev pub head_of : Data → Head
head_of d = record { version = version_number d; rounds = round_count d; ticks = tick_count d }

-- the version of a scenario, and its numbers of rounds and of cabinets
abbrev pub extent_of : Data → Extent
extent_of d = record { version = version_number d; rounds = round_count d; cabinets = cabinet_count d }

-- the scenario has no fault, and this is its extent
pub record IsClean (extent : Extent) (d : Data) : Type 0 where
  pub clean : faults d ≡ []
  pub is : extent ≡ extent_of d

-- the cabinets of a scenario with these numbers
abbrev pub cabinets_at : Head → Data → List CabinetContent
cabinets_at h d = list_in (cabinet_of h.version) (held (cabinets h.version) d)

-- the extent of a scenario with these numbers
abbrev pub extent_at : Head → Data → Extent
extent_at h d = record { version = h.version; rounds = h.rounds; cabinets = length (cabinets_at h d) }

-- the faults after these fields, for these numbers, if the master is read from `setup`: of the cabinets, the master,
-- the lists of the rounds, the number of ticks, and the tables
abbrev pub behind_faults : Head → Data → Data → List Cause
behind_faults h d setup =
    field_faults [] d (cabinets h.version)
    ++ (field_faults [] setup master
    ++ (fields_faults [] d (event_fields h.rounds (length (cabinets_at h d)))
    ++ (product_faults (length (cabinets_at h d) * h.rounds * h.ticks)
    ++ all_table_faults 1 (cabinets_at h d))))
