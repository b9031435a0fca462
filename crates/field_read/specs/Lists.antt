-- What is known about the items of a field file's lists before the numbers of rounds and cabinets are known.
use Rattle.std.specs.Prelude.{ℕ, List, codes}
use Rattle.serde_json.specs.Data.{Items}
use Rattle.scenario_read.specs.Kinds.{Kind}
use Rattle.scenario_read.specs.Fields.{object_of}
use Rattle.scenario_file.specs.Listing.{list_path, ListTold}
use Rattle.field_read.specs.Table.{detector_shape, pulse_shape}
use Rattle.field_read.specs.Content.{detector_of, pulse_of}
use Rattle.field_read.specs.declared.found.Found.{Found}
use Rattle.field_read.specs.declared.found.Found.TheVariants.{Bank, Pulses}

-- the kinds of detectors and pulses with the widest limits
abbrev pub any_detector : Kind
any_detector = object_of (detector_shape 64)

abbrev pub any_pulse : Kind
any_pulse = object_of (pulse_shape 86400 64)

-- what was found is what the items describe. With the widest limits the items have no fault
abbrev pub Holds : Found → Items → Type 0
Holds (Bank found) ds = ListTold (list_path (codes "bank")) any_detector (detector_of 64) 512 found.items ds
Holds (Pulses found) ds = ListTold (list_path (codes "pulses")) any_pulse (pulse_of 86400 64) 1000000 found.items ds

-- the name of a list
abbrev pub name_of : Found → List ℕ
name_of (Bank found) = codes "bank"
name_of (Pulses found) = codes "pulses"
