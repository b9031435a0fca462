-- No limit of a scenario's value is that of the whole: each has the name of what is beyond it.
use Rattle.std.proofs.Common.{◌≡◌, ◌+◌, ◌==◌, nat_lt, ℕ, Bool, true, false, nat_le, if◌then◌else◌, List, [], ◌∷◌, codes, String, string_bytes, arith}
use Rattle.std.specs.declared.alloc.Global.{Global}
use Rattle.serde_json.specs.Data.{Data}
use Rattle.sig_types.specs.declared.notes.Broken.{Broken as BrokenRule}
use Rattle.scenario_data.specs.declared.refusal.Refusal.TheVariants.{Limit as LimitRefusal}
use Rattle.scenario_data.specs.Causes.{Limit as LimitCause}
use Rattle.scenario_data.specs.Content.{CabinetContent}
use Rattle.scenario_read.specs.Paths.{Named, then_named}
use Rattle.scenario_read.specs.Kinds.{Fits, Wrong, Beyond}
use Rattle.scenario_read.specs.Fields.{object_of}
use Rattle.scenario_read.specs.CellLists.{cell, cell_fits}
use Rattle.scenario_read.specs.Table.{gain, lose, drifts_both_ways, drift_faults, cabinet_shape, cabinet, entry_shape, master_shape, input_fields, input_shape, count_of, full_faults, load_cabinet, load_shape, load, priority_fields, priority_shape, is_late, act_of, departure, departure_faults, priority_item, stream_words, frame_shape, way_words, fault_kind_words, fault_shape, event_fields, scenario_shape}
use Rattle.scenario_read.specs.Content.{version_number, round_count, cabinet_count, cabinets_of}
use Rattle.scenario_read.specs.Faults.{product_faults, broken_causes, table_faults, all_table_faults, faults}
use Rattle.scenario_read.specs.Answers.{IsFirstFault}
use Rattle.scenario_read.proofs.Elsewhere.{AllElsewhere, joined, named-more, at-elsewhere, Good, list-good, whole-good, rare-good, text-good, hex-good, list-behind-good, word-good, flag-good, AllGood, Chooses, none-chosen, object-elsewhere, object-good, each-chooses, first-elsewhere, no-word}

cell-good : Good cell
cell-good path d h = at-elsewhere path (cell_fits d) h

drift-good : (two : Bool) → AllGood (if two then gain ∷ lose ∷ [] else [])
drift-good true = (omega arith, rare-good 12000 864000, (omega arith, rare-good 12000 864000, tt))
drift-good false = tt

cabinet-good : (version : ℕ) → Good (cabinet version)
cabinet-good version path d h =
    joined (object_of (cabinet_shape version) path d) (drift_faults version path d)
    (object-good (cabinet_shape version) (
      omega arith,
      word-good (codes "std8" ∷ codes "max8" ∷ []),
      (
        omega arith,
        list-good 0 4096 cell cell-good,
        (omega arith, whole-good 0 255, (omega arith, whole-good 0 863999, (omega arith, whole-good 1 8, drift-good (version == 2)))),
      ),
    )
    none-chosen path d h)
    (at-elsewhere path (if drifts_both_ways version d then Wrong else Fits) h)

entry-good : Good (object_of entry_shape)
entry-good = object-good entry_shape (omega arith, whole-good 0 86399, (omega arith, whole-good 1 8, (omega arith, whole-good 0 255, tt))) none-chosen

master-good : Good (object_of master_shape)
master-good = object-good master_shape (
  omega arith,
  whole-good 0 863999,
  (
    omega arith,
    whole-good 0 86400,
    (
      omega arith,
      whole-good 0 86400,
      (omega arith, whole-good 0 86400, (omega arith, whole-good 1 10, (omega arith, list-good 0 1000 _ entry-good, tt))),
    ),
  ),
)
    none-chosen

input-chooses : Chooses input_fields
input-chooses = each-chooses input_fields (
  (omega arith, whole-good 1 16, (omega arith, flag-good, tt)),
  ((omega arith, whole-good 1 16, tt), ((omega arith, whole-good 1 8, (omega arith, flag-good, tt)), tt)),
)

input-good : (round_count cabinet_count : ℕ) → Good (object_of (input_shape round_count cabinet_count))
input-good r c = object-good (input_shape r c)
    (omega arith, whole-good 1 r, (omega arith, whole-good 1 c, tt))
    input-chooses

load-good : (r c : ℕ) (earlier : List ℕ) → Good (load r c earlier)
load-good r c earlier path d h =
    joined (object_of (load_shape r c) path d) (full_faults earlier path (load_cabinet c d))
    (object-good (load_shape r c) (omega arith, whole-good 1 r, (omega arith, whole-good 1 c, (omega arith, list-good 1 768 cell cell-good, tt))) none-chosen path d h)
    (at-elsewhere path (if nat_lt (count_of (load_cabinet c d) earlier) 100 then Fits else Beyond) h)

priority-chooses : Chooses priority_fields
priority-chooses = each-chooses priority_fields (
  (omega arith, whole-good 1 10, tt),
  (
    (
      omega arith,
      whole-good 1 10,
      (
        omega arith,
        whole-good 1 10,
        (
          omega arith,
          whole-good 1 10,
          (omega arith, whole-good 1 16, (omega arith, whole-good 0 65535, (omega arith, whole-good 0 65535, tt))),
        ),
      ),
    ),
    tt,
  ),
)

priority-good : (r c : ℕ) → Good (priority_item r c)
priority-good r c path d h =
    joined (object_of (priority_shape r c) path d) (departure_faults path (act_of d))
    (object-good (priority_shape r c) (omega arith, whole-good 1 r, (omega arith, whole-good 1 c, tt)) priority-chooses path d h)
    (at-elsewhere (then_named path departure.name) (if is_late (act_of d) then Beyond else Fits) (named-more path (Named departure.name ∷ []) h))

frame-good : (r c : ℕ) → Good (object_of (frame_shape r c))
frame-good r c = object-good (frame_shape r c)
    (omega arith, whole-good 1 r, (omega arith, whole-good 1 c, (omega arith, word-good stream_words, (omega arith, hex-good 1472, tt))))
    none-chosen

fault-good : (r c : ℕ) → Good (object_of (fault_shape r c))
fault-good r c = object-good (fault_shape r c) (
  omega arith,
  whole-good 1 r,
  (
    omega arith,
    whole-good 1 c,
    (
      omega arith,
      word-good stream_words,
      (
        omega arith,
        word-good way_words,
        (omega arith, whole-good 0 65535, (omega arith, word-good fault_kind_words, (omega arith, whole-good 0 86400, (omega arith, whole-good 1 255, tt)))),
      ),
    ),
  ),
)
    none-chosen

events-good : (r c : ℕ) → AllGood (event_fields r c)
events-good r c = (
  omega arith,
  list-good 0 1000000 _ (input-good r c),
  (
    omega arith,
    list-behind-good (load r c) (load_cabinet c) (load-good r c),
    (
      omega arith,
      list-good 0 100000 _ (priority-good r c),
      (omega arith, list-good 0 100000 _ (frame-good r c), (omega arith, list-good 0 100000 _ (fault-good r c), tt)),
    ),
  ),
)

scenario-elsewhere : (v r c : ℕ) (d : Data) → AllElsewhere (object_of (scenario_shape v r c) [] d)
scenario-elsewhere v r c d = object-elsewhere (scenario_shape v r c) [] d tt (
  omega arith,
  whole-good 1 2,
  (
    omega arith,
    whole-good 1 86400,
    (
      omega arith,
      whole-good 1 600,
      (
        omega arith,
        text-good 1 32,
        (omega arith, list-good 1 64 _ (cabinet-good v), (omega arith, master-good, events-good r c)),
      ),
    ),
  ),
)
    none-chosen

product-elsewhere : (n : ℕ) → AllElsewhere (product_faults n)
product-elsewhere n = split (nat_le n 55296000)
  where
    split : (b : Bool) → AllElsewhere (if b then [] else LimitCause (codes "rounds") ∷ [])
    split true = tt
    split false = (omega arith, tt)

broken-elsewhere : (cabinet : ℕ) (bs : List BrokenRule) → AllElsewhere (broken_causes cabinet bs)
broken-elsewhere cabinet [] = tt
broken-elsewhere cabinet (b ∷ bs) = (tt, broken-elsewhere cabinet bs)

table-elsewhere : (cabinet : ℕ) (c : CabinetContent) → AllElsewhere (table_faults cabinet c)
unfolding table_faults
table-elsewhere cabinet c = broken-elsewhere cabinet _

tables-elsewhere : (cabinet : ℕ) (cs : List CabinetContent) → AllElsewhere (all_table_faults cabinet cs)
tables-elsewhere cabinet [] = tt
tables-elsewhere cabinet (c ∷ cs) = joined (table_faults cabinet c) (all_table_faults (cabinet + 1) cs) (table-elsewhere cabinet c) (tables-elsewhere (cabinet + 1) cs)

all-elsewhere : (d : Data) → AllElsewhere (faults d)
all-elsewhere d =
    joined (object_of (scenario_shape (version_number d) (round_count d) (cabinet_count d)) [] d) _
    (scenario-elsewhere (version_number d) (round_count d) (cabinet_count d) d)
    (joined (product_faults _) (all_table_faults 1 (cabinets_of d)) (product-elsewhere _) (tables-elsewhere 1 (cabinets_of d)))

pub limit-elsewhere : (bytes : List ℕ) (path : String Global) → IsFirstFault bytes (LimitRefusal path) → string_bytes path ≡ codes "." → ⊥
limit-elsewhere bytes path (d, reads, first) e = no-word (string_bytes path) e (first-elsewhere (faults d) (string_bytes path) (all-elsewhere d) first)
