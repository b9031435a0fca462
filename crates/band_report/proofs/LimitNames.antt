-- No limit of what is asked of bands is that of the whole: each has the name of what is beyond it.
use Rattle.std.proofs.Common.{◌≡◌, ℕ, List, [], length, Option, Some, None, codes, String, string_bytes, arith}
use Rattle.std.specs.declared.alloc.Global.{Global}
use Rattle.serde_json.specs.Data.{Data}
use Rattle.scenario_data.specs.declared.refusal.Refusal.TheVariants.{Limit as LimitRefusal}
use Rattle.scenario_read.specs.Kinds.{Kind, fault_at, each, items_in, array_fits}
use Rattle.scenario_read.specs.Fields.{object_of}
use Rattle.scenario_read.specs.Content.{number_at}
use Rattle.scenario_read.proofs.Elsewhere.{AllElsewhere, joined, at-elsewhere, Good, each-elsewhere, whole-good, none-chosen, object-elsewhere, first-elsewhere, no-word}
use Rattle.scenario_checked.proofs.InnerNames.{inner-good}
use Rattle.band_report.specs.declared.misfit.Misfit.{Misfit}
use Rattle.band_report.specs.declared.misfit.Misfit.TheVariants.{NoCabinet, Undefined, Cycles, Legs}
use Rattle.band_report.specs.Street.{misfit_of}
use Rattle.band_report.specs.Asked.{list_of_any, section, pattern, asked_shape, cabinets_asked, travel_asked, misfit_causes, band_faults}
use Rattle.band_report.specs.BandAnswer.{IsFirstBandFault}

any-list-good : (kind : Kind) → Good kind → Good (list_of_any kind)
any-list-good kind good path d h =
    joined (fault_at path (array_fits d)) (each kind path 0 (items_in d))
    (at-elsewhere path (array_fits d) h) (each-elsewhere kind path 0 (items_in d) good h)

asked-elsewhere : (d : Data) → AllElsewhere (object_of asked_shape [] d)
asked-elsewhere d = object-elsewhere asked_shape [] d tt (
  omega arith,
  inner-good,
  (omega arith, whole-good 1 8, (omega arith, whole-good 1 48, (omega arith, any-list-good _ (whole-good 0 864000), tt))),
)
    none-chosen

misfit-elsewhere : (o : Option Misfit) → AllElsewhere (misfit_causes o)
misfit-elsewhere None = tt
misfit-elsewhere (Some NoCabinet) = (omega arith, tt)
misfit-elsewhere (Some Undefined) = (omega arith, tt)
misfit-elsewhere (Some Cycles) = (tt, tt)
misfit-elsewhere (Some Legs) = (omega arith, tt)

all-elsewhere : (d : Data) → AllElsewhere (band_faults d)
all-elsewhere d =
    joined (object_of asked_shape [] d)
    (misfit_causes (misfit_of (cabinets_asked d) (number_at section d) (number_at pattern d) (length (travel_asked d))))
    (asked-elsewhere d) (misfit-elsewhere _)

pub limit-elsewhere : (bytes : List ℕ) (path : String Global) → IsFirstBandFault bytes (LimitRefusal path) → string_bytes path ≡ codes "." → ⊥
limit-elsewhere bytes path (d, reads, first) e = no-word (string_bytes path) e (first-elsewhere (band_faults d) (string_bytes path) (all-elsewhere d) first)
