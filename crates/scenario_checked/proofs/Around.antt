-- The first fault of a scenario is that of the object around it; and a scenario without faults has few cabinets.
use Rattle.std.proofs.Common.{◌≡◌, ◌∙◌, ◌≤◌, ◌*◌, ℕ, List, [], ◌∷◌, ◌++◌, length, map, Option, Some, None, unwrap_or, String, string_bytes, codes, sym, ap, subst}
use Rattle.std.specs.declared.alloc.Global.{Global}
use Rattle.serde_json.specs.Data.{Data, null}
use Rattle.serde_json.specs.Find.{get}
use Rattle.scenario_data.specs.declared.refusal.Refusal.TheVariants.{Field as FieldRefusal, Limit as LimitRefusal, Broken as BrokenRefusal}
use Rattle.scenario_data.specs.Causes.{Cause, Field, Limit, Broken, Names}
use Rattle.scenario_read.specs.Paths.{then_named}
use Rattle.scenario_read.specs.Kinds.{items_in}
use Rattle.scenario_read.specs.Fields.{held, either, faults_of, field_faults}
use Rattle.scenario_read.specs.Table.{cabinet, cabinets, scenario_shape}
use Rattle.scenario_read.specs.Content.{version_number, round_count, tick_count, cabinet_count, cabinets_of, cabinet_of}
use Rattle.scenario_read.specs.Faults.{faults, named_faults, product_faults, all_table_faults, first_cause}
use Rattle.scenario_read.proofs.NoFaults.{none-left}
use Rattle.scenario_read.proofs.Walks.{each_of-len}
use Rattle.scenario_checked.proofs.RangesParts.{list-in, held-in, object-in, all-clean}
use Rattle.scenario_checked.specs.Inside.{inner_path, inner_cause, inner_scenario, scenario}

pub few-cabinets : (d : Data) → faults d ≡ [] → length (cabinets_of d) ≤ 64
few-cabinets d e =
    let v = version_number d in
    let shape = scenario_shape v (round_count d) (cabinet_count d) in
    let front = none-left (named_faults d) (product_faults (cabinet_count d * round_count d * tick_count d) ++ all_table_faults 1 (cabinets_of d)) e in
    let own = all-clean [] d shape.fields (object-in shape [] d front.0).0 in
    let in_cabinets = list-in 1 64 (cabinet v) (then_named [] (cabinets v).name) (held (cabinets v) d) (held-in [] d (cabinets v) own.1.1.1.1.0) in
    subst (λ (k : ℕ). k ≤ 64) (sym (each_of-len (cabinet_of v) (items_in (held (cabinets v) d)))) in_cabinets.1

first-mapped : (causes : List Cause) (cause : Cause) → first_cause causes ≡ Some cause → first_cause (map inner_cause causes) ≡ Some (inner_cause cause)
first-mapped [] cause e = absurd (cc)
first-mapped (c ∷ causes) cause e = let same : c ≡ cause = cc in ap (λ (x : Cause). Some (inner_cause x)) same

pub inner_field : (path inner : String Global) (causes : List Cause) → string_bytes inner ≡ inner_path (string_bytes path)
    → Names (FieldRefusal path) (first_cause causes) → Names (FieldRefusal inner) (first_cause (map inner_cause causes))
inner_field path inner causes e h = first-mapped causes (Field (string_bytes path)) h ∙ ap (λ (p : List ℕ). Some (Field p)) (sym e)

pub inner_limit : (path inner : String Global) (causes : List Cause) → string_bytes inner ≡ inner_path (string_bytes path)
    → Names (LimitRefusal path) (first_cause causes) → Names (LimitRefusal inner) (first_cause (map inner_cause causes))
inner_limit path inner causes e h = first-mapped causes (Limit (string_bytes path)) h ∙ ap (λ (p : List ℕ). Some (Limit p)) (sym e)

pub inner_broken : (cabinet rule row : ℕ) (causes : List Cause)
    → Names (BrokenRefusal cabinet rule row) (first_cause causes) → Names (BrokenRefusal cabinet rule row) (first_cause (map inner_cause causes))
inner_broken cabinet rule row causes h = first-mapped causes (Broken cabinet rule row) h

-- where a scenario is in the object, its faults are those of the field, and it is what is held there
pub scenario-clean : (d v : Data) → Some v ≡ get (codes "scenario") d → faults v ≡ [] → field_faults [] d scenario ≡ []
scenario-clean d v e none =
    ap (λ (o : Option Data). faults_of inner_scenario (then_named [] (codes "scenario")) (either o None)) (sym e) ∙ ap (map inner_cause) none

pub scenario-held : (d v : Data) → Some v ≡ get (codes "scenario") d → held scenario d ≡ v
scenario-held d v e = ap (λ (o : Option Data). unwrap_or (either o None) null) (sym e)
