-- The generated value has no fault, and says what is generated.
use Rattle.std.proofs.Common.{◌≡◌, ℕ, ◌+◌, ◌*◌, ◌<◌, ◌≤◌, List, [], ◌∷◌, ◌++◌, length, map, codes, refl, sym, ap, ◌∙◌, subst, arith, lit<}
use Rattle.std.proofs.lemmas.List.{length-map}
use Rattle.std.proofs.lemmas.Bool.{le-leb}
use Rattle.serde_json.specs.Data.{Data, array}
use Rattle.scenario_data.specs.Causes.{Cause}
use Rattle.scenario_data.specs.declared.scenario.Input.{Input}
use Rattle.scenario_data.specs.declared.scenario.Fault.{Fault}
use Rattle.scenario_data.specs.Content.{CabinetContent}
use Rattle.scenario_read.specs.Paths.{Step, Named}
use Rattle.scenario_read.specs.Kinds.{Kind, list_of, list_behind}
use Rattle.scenario_read.specs.Fields.{object_of}
use Rattle.scenario_read.specs.Table.{cabinet, input_shape, load, load_shape, load_cabinet, fault_shape, scenario_shape}
use Rattle.scenario_read.specs.Content.{cabinet_of, input_of, load_of, fault_of, list_in, cabinets_of, cabinet_count, scenario_of}
use Rattle.scenario_read.specs.Faults.{product_faults, all_table_faults, faults}
use Rattle.gen_arterial.specs.Draws.{drawn}
use Rattle.gen_arterial.specs.Generated.{each_below, offset, correction, load_round, load_maximum, cabinet_made, load_made, all_inputs, all_faults}
use Rattle.gen_arterial.specs.Written.{items_from, cabinet_value, load_value, input_value, lost_value, scenario_value, generated, CanMake}
use Rattle.gen_arterial.proofs.Lists.{EachIs, each-any, each-map, each-below, below-map, below-length, map-same, map-map, from-length, from-each, from-none, fits}
use Rattle.gen_arterial.proofs.Items.{cabinet-none, load-object-none, loads-none, IsInput, input-none, input-says, IsLost, lost-none, lost-says}
use Rattle.gen_arterial.proofs.Happenings.{below, inputs-are, faults-are, inputs-few, faults-few}
use Rattle.gen_arterial.proofs.Street.{tables-none, street-none}

list-none : (least most : ℕ) (kind : Kind) (path : List Step) (ds : List Data) → least ≤ length ds → length ds ≤ most → EachIs (λ d. (steps : List Step) → kind steps d ≡ []) ds
    → list_of least most kind path (array (items_from ds)) ≡ []
list-none least most kind path ds h k clean = rw (from-length ds, fits least most (length ds) h k, from-none kind path 0 ds clean) refl

-- the four lists of values
cabinet_values : ℕ → ℕ → List Data
cabinet_values seed cabinets = each_below (λ i. cabinet_value (offset seed i) (correction seed i)) cabinets

load_values : ℕ → ℕ → ℕ → List Data
load_values seed cabinets rounds = each_below (λ i. load_value (load_round seed rounds i) (1 + i) (load_maximum seed i)) cabinets

cabinets-none : (seed cabinets : ℕ) → 1 ≤ cabinets → cabinets ≤ 64
    → list_of 1 64 (cabinet 1) (Named (codes "cabinets") ∷ []) (array (items_from (each_below (λ i. cabinet_value (offset seed i) (correction seed i)) cabinets))) ≡ []
cabinets-none seed cabinets h k =
    let values : List Data = each_below (λ i. cabinet_value (offset seed i) (correction seed i)) cabinets in
    let long : length values ≡ cabinets = below-length (λ i. cabinet_value (offset seed i) (correction seed i)) cabinets in
    let clean : EachIs (λ d. (steps : List Step) → cabinet 1 steps d ≡ []) values =
    each-below (λ i. cabinet_value (offset seed i) (correction seed i)) (λ d. (steps : List Step) → cabinet 1 steps d ≡ []) cabinets
    (λ i _. let small : drawn seed (4 * i) 90 < 90 = below seed (4 * i) 90 (lit< tt) in let few : drawn seed (4 * i + 1) 3 < 3 = below seed (4 * i + 1) 3 (lit< tt) in
    cabinet-none (offset seed i) (correction seed i) (omega arith) (omega arith) (omega arith)) in
    list-none 1 64 (cabinet 1) (Named (codes "cabinets") ∷ []) values (omega arith) (omega arith) clean

inputs-none : (seed cabinets rounds : ℕ) → 2 * (cabinets * rounds) ≤ 1000000
    → list_of 0 1000000 (object_of (input_shape rounds cabinets)) (Named (codes "inputs") ∷ []) (array (items_from (map input_value (all_inputs seed cabinets rounds)))) ≡ []
inputs-none seed cabinets rounds few =
    let values : List Data = map input_value (all_inputs seed cabinets rounds) in
    let long : length values ≡ length (all_inputs seed cabinets rounds) = length-map (all_inputs seed cabinets rounds) input_value in
    let short : length (all_inputs seed cabinets rounds) ≤ 2 * (cabinets * rounds) = inputs-few seed cabinets rounds in
    list-none 0 1000000 (object_of (input_shape rounds cabinets)) (Named (codes "inputs") ∷ []) values (omega arith) (omega arith)
    (each-map input_value (IsInput rounds cabinets) (λ d. (steps : List Step) → object_of (input_shape rounds cabinets) steps d ≡ []) (input-none rounds cabinets) (all_inputs seed cabinets rounds) (inputs-are rounds cabinets seed rounds (omega arith)))

lost-polls-none : (seed cabinets rounds : ℕ) → 1 ≤ cabinets → rounds ≤ 100000
    → list_of 0 100000 (object_of (fault_shape rounds cabinets)) (Named (codes "faults") ∷ []) (array (items_from (map lost_value (all_faults seed cabinets rounds)))) ≡ []
lost-polls-none seed cabinets rounds some few =
    let values : List Data = map lost_value (all_faults seed cabinets rounds) in
    let long : length values ≡ length (all_faults seed cabinets rounds) = length-map (all_faults seed cabinets rounds) lost_value in
    let short : length (all_faults seed cabinets rounds) ≤ rounds = faults-few seed cabinets rounds in
    list-none 0 100000 (object_of (fault_shape rounds cabinets)) (Named (codes "faults") ∷ []) values (omega arith) (omega arith)
    (each-map lost_value (IsLost rounds cabinets) (λ d. (steps : List Step) → object_of (fault_shape rounds cabinets) steps d ≡ []) (lost-none rounds cabinets) (all_faults seed cabinets rounds) (faults-are rounds cabinets seed rounds some (omega arith)))

all-loads-none : (seed cabinets rounds : ℕ) → cabinets ≤ 64 → 1 ≤ rounds
    → list_behind (load rounds cabinets) (load_cabinet cabinets) (Named (codes "loads") ∷ []) (array (items_from (each_below (λ i. load_value (load_round seed rounds i) (1 + i) (load_maximum seed i)) cabinets))) ≡ []
all-loads-none seed cabinets rounds few some =
    let value : ℕ → Data = λ i. load_value (load_round seed rounds i) (1 + i) (load_maximum seed i) in
    let long : length (each_below value cabinets) ≡ cabinets = below-length value cabinets in
    loads-none rounds cabinets (Named (codes "loads") ∷ []) 0 [] (each_below value cabinets) (omega arith)
    (each-below value (λ d. (steps : List Step) → object_of (load_shape rounds cabinets) steps d ≡ []) cabinets
    (λ i l. let early : drawn seed (4 * i + 2) rounds < rounds = below seed (4 * i + 2) rounds (omega arith) in let small : drawn seed (4 * i + 3) 30 < 30 = below seed (4 * i + 3) 30 (lit< tt) in
    load-object-none rounds cabinets (load_round seed rounds i) (1 + i) (load_maximum seed i) (omega arith) (omega arith) (omega arith) (omega arith) (omega arith)))

-- the names of the whole
named-none : (seed cabinets rounds : ℕ) → CanMake cabinets rounds → object_of (scenario_shape 1 rounds cabinets) [] (scenario_value seed cabinets rounds) ≡ []
named-none seed cabinets rounds can =
    rw (
      fits 1 86400 rounds can.one can.short,
      cabinets-none seed cabinets can.some can.few,
      inputs-none seed cabinets rounds (let all = can.together in omega arith),
      all-loads-none seed cabinets rounds can.few can.one,
      lost-polls-none seed cabinets rounds can.some (let all = can.short in omega arith),
    ) refl

-- the cabinets that it says
pub cabinets-say : (seed cabinets rounds : ℕ) → cabinets_of (scenario_value seed cabinets rounds) ≡ each_below (cabinet_made seed) cabinets
cabinets-say seed cabinets rounds =
    from-each (cabinet_of 1) (each_below (λ i. cabinet_value (offset seed i) (correction seed i)) cabinets)
    ∙ below-map (λ i. cabinet_value (offset seed i) (correction seed i)) (cabinet_of 1) cabinets

count-says : (seed cabinets rounds : ℕ) → cabinet_count (scenario_value seed cabinets rounds) ≡ cabinets
count-says seed cabinets rounds = ap length (cabinets-say seed cabinets rounds) ∙ below-length (cabinet_made seed) cabinets

none-of-three : (a b c : List Cause) → a ≡ [] → b ≡ [] → c ≡ [] → a ++ (b ++ c) ≡ []
none-of-three a b c p q r = rw (p, q, r) refl

pub value-faultless : (seed cabinets rounds : ℕ) → CanMake cabinets rounds → faults (scenario_value seed cabinets rounds) ≡ []
value-faultless seed cabinets rounds can =
    let d : Data = scenario_value seed cabinets rounds in
    let count : cabinet_count d ≡ cabinets = count-says seed cabinets rounds in
    let names : object_of (scenario_shape 1 rounds (cabinet_count d)) [] d ≡ [] = subst (λ (k : ℕ). object_of (scenario_shape 1 rounds k) [] d ≡ []) (sym count) (named-none seed cabinets rounds can) in
    let few : cabinets * rounds * 100 ≤ 55296000 = (let all = can.together in omega arith) in
    let product : product_faults (cabinet_count d * rounds * 100) ≡ [] = subst (λ (k : ℕ). product_faults (k * rounds * 100) ≡ []) (sym count) (rw (le-leb (cabinets * rounds * 100) 55296000 few) refl) in
    let tables : all_table_faults 1 (cabinets_of d) ≡ [] =
    subst (λ (cs : List CabinetContent). all_table_faults 1 cs ≡ []) (sym (cabinets-say seed cabinets rounds)) (tables-none (each_below (cabinet_made seed) cabinets) 1 (street-none seed cabinets)) in
    none-of-three _ _ _ names product tables

inputs-say : (rounds cabinets : ℕ) (inputs : List Input) → list_in (input_of rounds cabinets) (array (items_from (map input_value inputs))) ≡ inputs
inputs-say rounds cabinets inputs =
    from-each (input_of rounds cabinets) (map input_value inputs) ∙ map-map input_value (input_of rounds cabinets) inputs
    ∙ map-same (λ input. input_of rounds cabinets (input_value input)) (λ _. Unit {0}) (λ input _. input-says rounds cabinets input) inputs (each-any inputs)

faults-say : (rounds cabinets number : ℕ) (lost : List Fault) → EachIs (IsLost rounds number) lost → list_in (fault_of rounds cabinets) (array (items_from (map lost_value lost))) ≡ lost
faults-say rounds cabinets number lost h =
    from-each (fault_of rounds cabinets) (map lost_value lost) ∙ map-map lost_value (fault_of rounds cabinets) lost
    ∙ map-same (λ fault. fault_of rounds cabinets (lost_value fault)) (IsLost rounds number) (λ fault k. lost-says rounds cabinets fault number k) lost h

loads-say : (seed rounds cabinets number : ℕ)
    → list_in (load_of rounds cabinets) (array (items_from (each_below (λ i. load_value (load_round seed rounds i) (1 + i) (load_maximum seed i)) number))) ≡ each_below (load_made seed rounds) number
loads-say seed rounds cabinets number =
    let value : ℕ → Data = λ i. load_value (load_round seed rounds i) (1 + i) (load_maximum seed i) in
    from-each (load_of rounds cabinets) (each_below value number) ∙ below-map value (load_of rounds cabinets) number

pub value-says : (seed cabinets rounds : ℕ) → CanMake cabinets rounds → scenario_of (scenario_value seed cabinets rounds) ≡ generated seed cabinets rounds
value-says seed cabinets rounds can =
    let k : ℕ = cabinet_count (scenario_value seed cabinets rounds) in
    rw (
      cabinets-say seed cabinets rounds,
      inputs-say rounds k (all_inputs seed cabinets rounds),
      loads-say seed rounds k cabinets,
      faults-say rounds k cabinets (all_faults seed cabinets rounds) (faults-are rounds cabinets seed rounds can.some (omega arith)),
    ) refl
