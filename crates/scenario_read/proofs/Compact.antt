-- A scenario's value has no float, so that its compact text is known.
use Rattle.std.proofs.Common.{◌≡◌, ℕ, ◌==◌, Bool, true, false, if◌then◌else◌, List, [], ◌∷◌, codes}
use Rattle.serde_json.specs.Data.{Data}
use Rattle.serde_json.specs.Written.{has_float}
use Rattle.scenario_read.specs.Table.{gain, lose, drift_faults, cabinet_shape, cabinet, entry_shape, master_shape, input_shape, load_shape, full_faults, load_cabinet, load, priority_shape, act_of, departure_faults, priority_item, stream_words, frame_shape, way_words, fault_kind_words, fault_shape, event_fields, scenario_shape}
use Rattle.scenario_read.specs.Fields.{object_of}
use Rattle.scenario_read.specs.Faults.{named_faults}
use Rattle.scenario_read.specs.Content.{version_number, round_count, cabinet_count}
use Rattle.scenario_read.specs.Sorted.{Sorted}
use Rattle.scenario_read.proofs.Floatless.{Floatless, AllFloatless, whole-floatless, rare-floatless, text-floatless, hex-floatless, more-floatless, word-floatless, flag-floatless, list-floatless, list-behind-floatless, object-floatless}
use Rattle.scenario_read.proofs.CellFloats.{cell-floatless}

drift-floatless : (two : Bool) → AllFloatless (if two then gain ∷ lose ∷ [] else [])
drift-floatless true = (rare-floatless _ _, (rare-floatless _ _, tt))
drift-floatless false = tt

pub cabinet-floatless : (version : ℕ) → Floatless (cabinet version)
cabinet-floatless version =
    more-floatless (object_of (cabinet_shape version)) (drift_faults version)
    (object-floatless (cabinet_shape version)
    (word-floatless (codes "std8" ∷ codes "max8" ∷ []), (list-floatless _ _ _ cell-floatless, (whole-floatless _ _, (whole-floatless _ _, (whole-floatless _ _, drift-floatless (version == 2)))))) tt)

entry-floatless : Floatless (object_of entry_shape)
entry-floatless = object-floatless entry_shape (whole-floatless _ _, (whole-floatless _ _, (whole-floatless _ _, tt))) tt

master-floatless : Floatless (object_of master_shape)
master-floatless =
    object-floatless master_shape
    (whole-floatless _ _, (whole-floatless _ _, (whole-floatless _ _, (whole-floatless _ _, (whole-floatless _ _, (list-floatless _ _ _ entry-floatless, tt)))))) tt

pub input-floatless : (rounds cabinets : ℕ) → Floatless (object_of (input_shape rounds cabinets))
input-floatless rounds cabinets =
    object-floatless (input_shape rounds cabinets) (whole-floatless _ _, (whole-floatless _ _, tt))
    ((whole-floatless _ _, (flag-floatless, tt)), ((whole-floatless _ _, tt), ((whole-floatless _ _, (flag-floatless, tt)), tt)))

pub load-floatless : (rounds cabinets : ℕ) (earlier : List ℕ) → Floatless (load rounds cabinets earlier)
load-floatless rounds cabinets earlier =
    more-floatless (object_of (load_shape rounds cabinets)) (λ path d. full_faults earlier path (load_cabinet cabinets d))
    (object-floatless (load_shape rounds cabinets) (whole-floatless _ _, (whole-floatless _ _, (list-floatless _ _ _ cell-floatless, tt))) tt)

pub priority-floatless : (rounds cabinets : ℕ) → Floatless (priority_item rounds cabinets)
priority-floatless rounds cabinets =
    more-floatless (object_of (priority_shape rounds cabinets)) (λ path d. departure_faults path (act_of d))
    (object-floatless (priority_shape rounds cabinets) (whole-floatless _ _, (whole-floatless _ _, tt)) (
      (whole-floatless _ _, tt),
      ((whole-floatless _ _, (whole-floatless _ _, (whole-floatless _ _, (whole-floatless _ _, (whole-floatless _ _, (whole-floatless _ _, tt)))))), tt),
    ))

pub frame-floatless : (rounds cabinets : ℕ) → Floatless (object_of (frame_shape rounds cabinets))
frame-floatless rounds cabinets =
    object-floatless (frame_shape rounds cabinets) (whole-floatless _ _, (whole-floatless _ _, (word-floatless stream_words, (hex-floatless _, tt)))) tt

pub fault-floatless : (rounds cabinets : ℕ) → Floatless (object_of (fault_shape rounds cabinets))
fault-floatless rounds cabinets =
    object-floatless (fault_shape rounds cabinets)
    (whole-floatless _ _, (whole-floatless _ _, (word-floatless stream_words, (word-floatless way_words, (whole-floatless _ _, (word-floatless fault_kind_words, (whole-floatless _ _, (whole-floatless _ _, tt)))))))) tt

events-floatless : (rounds cabinets : ℕ) → AllFloatless (event_fields rounds cabinets)
events-floatless r k = (
  list-floatless _ _ _ (input-floatless r k),
  (
    list-behind-floatless (load r k) (load_cabinet k) (load-floatless r k),
    (list-floatless _ _ _ (priority-floatless r k), (list-floatless _ _ _ (frame-floatless r k), (list-floatless _ _ _ (fault-floatless r k), tt))),
  ),
)

scenario-floatless : (version rounds cabinets : ℕ) → Floatless (object_of (scenario_shape version rounds cabinets))
scenario-floatless version rounds cabinets =
    object-floatless (scenario_shape version rounds cabinets)
    (whole-floatless _ _, (whole-floatless _ _, (whole-floatless _ _, (text-floatless _ _, (list-floatless _ _ _ (cabinet-floatless version), (master-floatless, events-floatless rounds cabinets))))))
    tt

-- a value without faults has no float
pub faultless-floatless : (d : Data) → Sorted d → named_faults d ≡ [] → has_float d ≡ false
faultless-floatless d sorted e = scenario-floatless (version_number d) (round_count d) (cabinet_count d) [] d sorted e
