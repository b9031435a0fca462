-- A scenario inside an object, at the name `scenario`: each fault of the scenario is a fault of the object.
use Rattle.std.specs.Prelude.{ℕ, if◌then◌else◌, List, ◌++◌, map, codes, bytes_eq}
use Rattle.scenario_data.specs.Causes.{Cause, Field as FieldCause, Limit, Broken}
use Rattle.scenario_read.specs.Kinds.{Kind}
use Rattle.scenario_read.specs.Fields.{Field, needed}
use Rattle.scenario_read.specs.Faults.{faults}

-- the path of a fault of the scenario, as a path in the object
abbrev pub inner_path : List ℕ → List ℕ
inner_path path = if bytes_eq path (codes ".") then codes "scenario" else codes "scenario." ++ path

-- a fault of the scenario, as a fault of the object
abbrev pub inner_cause : Cause → Cause
inner_cause (FieldCause path) = FieldCause (inner_path path)
inner_cause (Limit path) = Limit (inner_path path)
inner_cause (Broken cabinet rule row) = Broken cabinet rule row

-- the kind of scenarios, with all checks of a scenario
abbrev pub inner_scenario : Kind
inner_scenario path d = map inner_cause (faults d)

-- the field with the scenario
abbrev pub scenario : Field
scenario = needed (codes "scenario") inner_scenario
