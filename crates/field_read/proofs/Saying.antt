-- What the names of a field file say, from what was found at them.
use Rattle.std.proofs.Common.{◌≡◌, ◌≤◌, ℕ, true, List, [], ◌++◌, codes, length, Option, Some, None, unwrap_or, option_map, refl, sym, ap, ◌∙◌, subst, arith}
use Rattle.std.specs.List.{list_all}
use Rattle.std.proofs.lemmas.List.{length-map}
use Rattle.serde_json.specs.Data.{Data, null, array, object, Items, no_items, Members}
use Rattle.serde_json.specs.Events.{items_len}
use Rattle.serde_json.specs.Find.{get, get_member}
use Rattle.scenario_data.specs.Content.{ScenarioContent, scenario_content, cabinet_content}
use Rattle.scenario_read.specs.Kinds.{Kind, fault_at, within, each}
use Rattle.scenario_read.specs.Fields.{either, faults_of, field_faults, fields_faults, held, object_of}
use Rattle.scenario_read.specs.Table.{optional_list}
use Rattle.scenario_read.specs.Content.{each_of, list_in, scenario_of}
use Rattle.scenario_read.proofs.NoFaults.{none-both}
use Rattle.scenario_read.proofs.Objects.{at-same}
use Rattle.scenario_read.proofs.Walks.{within-fits, each_of-len}
use Rattle.scenario_checked.specs.Inside.{scenario}
use Rattle.scenario_checked.proofs.Around.{scenario-clean, scenario-held}
use Rattle.scenario_file.specs.declared.source.Source.{Source}
use Rattle.scenario_file.specs.Listing.{list_path, ListTold}
use Rattle.scenario_file.specs.Source.{Writes}
use Rattle.scenario_file.proofs.Rounds.{said-same}
use Rattle.field_read.specs.declared.respond.Respond.{Respond}
use Rattle.field_read.specs.Table.{detector_shape, pulse_shape, unasked, respond_shape, bank, pulses, respond, traffic_fields}
use Rattle.field_read.specs.Content.{respond_content, detector_of, pulse_of, respond_of, bank_of, pulses_of, rounds_run, cabinets_run, field_of}
use Rattle.field_read.proofs.WholeFields.{two-parts, none-of-two, content-from}
use Rattle.field_read.specs.declared.parts.Parts.{Parts}
use Rattle.field_read.specs.Lists.{any_detector, any_pulse}
use Rattle.field_read.specs.Parts.{IsAt, IsList, SaysScenario, SaysRespond, PartsStand}
use Rattle.field_read.specs.Right.{SaysNames}
use Rattle.field_read.proofs.Narrow.{each-narrowed, detector_within, pulse_within, detector-narrowed, pulse-narrowed}

-- ---- lists

-- what is at the name of a list, or counts where nothing does, is the list of its items
value-there : (o : Option Data) (ds : Items) → IsList o ds → either o (Some (array no_items)) ≡ Some (array ds)
value-there None ds none = ap (λ es. Some (array es)) (sym none)
value-there (Some d) ds is = ap Some is

list-clean : {A : Type 0} (name : List ℕ) (most : ℕ) (any kind : Kind) (says : Data → A) (found : List A) (ms : Members) (ds : Items) → IsList (get_member name ms) ds
    → ListTold (list_path name) any says most found ds → each kind (list_path name) 0 ds ≡ [] → field_faults [] (object ms) (optional_list name most kind) ≡ []
list-clean name most any kind says found ms ds is told none =
    let here = list_path name in
    let few : items_len ds ≤ most = subst (λ n. n ≤ most) (ap length told.said ∙ each_of-len says ds) told.few in
    ap (faults_of (optional_list name most kind).kind here) (value-there (get_member name ms) ds is)
    ∙ none-both (fault_at here (within 0 most (items_len ds))) (each kind here 0 ds) (ap (fault_at here) (within-fits 0 most (items_len ds) (omega arith) few)) none

list-said : {A : Type 0} (name : List ℕ) (most : ℕ) (kind : Kind) (says now : Data → A) (found : List A) (ms : Members) (ds : Items) → IsList (get_member name ms) ds
    → found ≡ each_of says ds → ((d : Data) → says d ≡ now d) → found ≡ list_in now (held (optional_list name most kind) (object ms))
list-said name most kind says now found ms ds is said same =
    said ∙ said-same says now same ds ∙ ap (λ o. list_in now (unwrap_or o null)) (sym (value-there (get_member name ms) ds is))

-- ---- the rules of the sections

respond-clean : (found : Option Respond) (o : Option Data) → IsAt SaysRespond found o → faults_of (object_of respond_shape) (list_path (codes "respond")) (either o (Some unasked)) ≡ []
respond-clean None o none = ap (λ (x : Option Data). faults_of (object_of respond_shape) (list_path (codes "respond")) (either x (Some unasked))) none
respond-clean (Some r) o at = ap (λ (x : Option Data). faults_of (object_of respond_shape) (list_path (codes "respond")) (either x (Some unasked))) at.1 ∙ at.2.clean

respond-said : (found : Option Respond) (o : Option Data) → IsAt SaysRespond found o → option_map respond_content found ≡ option_map respond_of o
respond-said None o none = ap (option_map respond_of) (sym none)
respond-said (Some r) o at = ap Some at.2.said ∙ ap (option_map respond_of) (sym at.1)

-- ---- what is next to the scenario

traffic-clean : (parts : Parts) (rounds cabinets : ℕ) (ms : Members) → PartsStand parts ms → list_all (detector_within cabinets) parts.bank.items ≡ true
    → list_all (pulse_within rounds cabinets) parts.pulses.items ≡ true → fields_faults [] (object ms) (traffic_fields rounds cabinets) ≡ []
traffic-clean parts rounds cabinets ms s detectors_in pulses_in =
    let d = object ms in
    let b = s.bank in
    let p = s.pulses in
    let detectors = each-narrowed any_detector (object_of (detector_shape cabinets)) (detector_of 64) (detector_within cabinets) (detector-narrowed cabinets) (list_path (codes "bank")) 0 b.items b.holds.causes
    (subst (λ found. list_all (detector_within cabinets) found ≡ true) b.holds.said detectors_in) in
    let each_pulse = each-narrowed any_pulse (object_of (pulse_shape rounds cabinets)) (pulse_of 86400 64) (pulse_within rounds cabinets) (pulse-narrowed rounds cabinets) (list_path (codes "pulses")) 0 p.items p.holds.causes
    (subst (λ found. list_all (pulse_within rounds cabinets) found ≡ true) p.holds.said pulses_in) in
    let first = list-clean (codes "bank") 512 any_detector (object_of (detector_shape cabinets)) (detector_of 64) parts.bank.items ms b.items b.held b.holds detectors in
    let second = list-clean (codes "pulses") 1000000 any_pulse (object_of (pulse_shape rounds cabinets)) (pulse_of 86400 64) parts.pulses.items ms p.items p.held p.holds each_pulse in
    let third = respond-clean parts.respond (get_member (codes "respond") ms) s.respond in
    none-both (field_faults [] d (bank cabinets)) (field_faults [] d (pulses rounds cabinets) ++ (field_faults [] d respond ++ [])) first
    (none-both (field_faults [] d (pulses rounds cabinets)) (field_faults [] d respond ++ []) second (none-both (field_faults [] d respond) [] third refl))

-- ---- the whole

pub says-names : (parts : Parts) (source : Source) (ms : Members) → parts.scenario ≡ Some source → PartsStand parts ms
    → list_all (detector_within (length source.scenario.cabinets.items)) parts.bank.items ≡ true
    → list_all (pulse_within source.scenario.rounds (length source.scenario.cabinets.items)) parts.pulses.items ≡ true
    → SaysNames (record { field = record { scenario = source.scenario; bank = parts.bank; pulses = parts.pulses; respond = parts.respond }; text = source.text }) (object ms)
says-names parts source ms is s detectors_in pulses_in =
    let d = object ms in
    let found = get_member (codes "scenario") ms in
    let at : IsAt SaysScenario (Some source) found = subst (λ o. IsAt SaysScenario o found) is s.scenario in
    let v = at.0 in
    let says = at.2 in
    let there : Some v ≡ get (codes "scenario") d = sym at.1 in
    let here : held scenario d ≡ v = scenario-held d v there in
    let said : scenario_content source.scenario ≡ scenario_of (held scenario d) = says.said ∙ ap scenario_of (sym here) in
    let cabinets = length source.scenario.cabinets.items in
    let rounds_are : source.scenario.rounds ≡ rounds_run d = ap (λ (x : ScenarioContent). x.rounds) said in
    let count : cabinets ≡ cabinets_run d = sym (length-map source.scenario.cabinets.items cabinet_content) ∙ ap (λ (x : ScenarioContent). length x.cabinets) said in
    let P : ℕ → ℕ → Type 0 = λ r k. (fields_faults [] d (traffic_fields r k) ≡ []) × (parts.bank.items ≡ bank_of k d) × (parts.pulses.items ≡ pulses_of r k d) in
    let here_given : P source.scenario.rounds cabinets = (
      traffic-clean parts source.scenario.rounds cabinets ms s detectors_in pulses_in,
      list-said (codes "bank") 512 (object_of (detector_shape cabinets)) (detector_of 64) (detector_of cabinets) parts.bank.items ms s.bank.items s.bank.held s.bank.holds.said (λ x. refl),
      list-said (codes "pulses") 1000000 (object_of (pulse_shape source.scenario.rounds cabinets)) (pulse_of 86400 64) (pulse_of source.scenario.rounds cabinets) parts.pulses.items ms s.pulses.items s.pulses.held s.pulses.holds.said (λ x. refl),
    ) in
    let given : P (rounds_run d) (cabinets_run d) = at-same P source.scenario.rounds cabinets (rounds_run d) (cabinets_run d) rounds_are count here_given in
    record {
      clean = two-parts d s.names ∙ none-of-two _ _ (scenario-clean d v there says.clean) given.0;
      said = content-from (scenario_content source.scenario) parts.bank.items parts.pulses.items (option_map respond_content parts.respond) (field_of d)
          said given.1 given.2 (respond-said parts.respond (get_member (codes "respond") ms) s.respond);
      text = subst (λ (x : Data). Writes source.text x) (sym here) says.text;
    }
