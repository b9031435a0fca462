-- A request for bands: the fields of its object, and all its faults in the order of the checks.
use Rattle.std.specs.Prelude.{ℕ, List, [], ◌∷◌, ◌++◌, length, codes, Option, Some, None}
use Rattle.serde_json.specs.Data.{Data}
use Rattle.scenario_data.specs.Causes.{Cause, Field as FieldCause, Limit}
use Rattle.scenario_data.specs.Content.{CabinetContent}
use Rattle.scenario_read.specs.Kinds.{Kind, fault_at, whole, each, items_in, array_fits}
use Rattle.scenario_read.specs.Fields.{Field, needed, Shape, held, object_of}
use Rattle.scenario_read.specs.Table.{needed_whole}
use Rattle.scenario_read.specs.Content.{number_at, whole_of, list_in, cabinets_of}
use Rattle.scenario_checked.specs.Inside.{scenario}
use Rattle.band_report.specs.declared.misfit.Misfit.{Misfit}
use Rattle.band_report.specs.declared.misfit.Misfit.TheVariants.{NoCabinet, Undefined, Cycles, Legs}
use Rattle.band_report.specs.Street.{misfit_of}

-- the kind of lists of any length, with items of one kind
abbrev pub list_of_any : Kind → Kind
list_of_any kind path d = fault_at path (array_fits d) ++ each kind path 0 (items_in d)

-- the fields after the scenario: the section, the pattern, and the travel times between cabinets in ticks
abbrev pub section : Field
section = needed_whole (codes "section") 1 8

abbrev pub pattern : Field
pattern = needed_whole (codes "pattern") 1 48

abbrev pub travel : Field
travel = needed (codes "travel") (list_of_any (whole 0 864000))

-- the shape of a request
abbrev pub asked_shape : Shape
asked_shape = record { fields = scenario ∷ section ∷ pattern ∷ travel ∷ []; alternatives = [] }

-- the cabinets in the scenario of a request
abbrev pub cabinets_asked : Data → List CabinetContent
cabinets_asked d = cabinets_of (held scenario d)

-- the travel times of a request, in ticks
abbrev pub travel_asked : Data → List ℕ
travel_asked d = list_in whole_of (held travel d)

-- the fault for a reason why there can be no band
abbrev pub misfit_cause : Misfit → Cause
misfit_cause NoCabinet = Limit (codes "section")
misfit_cause Undefined = Limit (codes "pattern")
misfit_cause Cycles = FieldCause (codes "pattern")
misfit_cause Legs = Limit (codes "travel")

-- the fault for the reason why there can be no band, if there is a reason
abbrev pub misfit_causes : Option Misfit → List Cause
misfit_causes None = []
misfit_causes (Some misfit) = misfit_cause misfit ∷ []

-- all faults: those of names and values, then the reason why there can be no band
abbrev pub band_faults : Data → List Cause
band_faults d =
    object_of asked_shape [] d
    ++ misfit_causes (misfit_of (cabinets_asked d) (number_at section d) (number_at pattern d) (length (travel_asked d)))
