-- The content of a scenario, from that of its parts.
use Rattle.std.proofs.Common.{◌≡◌, ℕ, ◌*◌, List, [], ◌∷◌, ◌++◌, length, map, refl, sym, ap, ap₂, ◌∙◌, subst}
use Rattle.std.proofs.lemmas.List.{length-map}
use Rattle.serde_json.specs.Data.{Data}
use Rattle.serde_json.specs.Written.{compact_text}
use Rattle.scenario_data.specs.declared.refusal.ReadFail.{ReadFail}
use Rattle.scenario_data.specs.Causes.{Cause}
use Rattle.scenario_data.specs.Content.{CabinetContent, cabinet_content}
use Rattle.scenario_read.specs.declared.scenario.Parts.{Parts}
use Rattle.scenario_read.specs.Content.{round_count, tick_count, cabinet_count, cabinets_of, scenario_of}
use Rattle.scenario_read.specs.Faults.{named_faults, product_faults, all_table_faults, faults}
use Rattle.scenario_read.specs.Readers.{Refuses, Says, content_from}
use Rattle.scenario_read.proofs.NoFaults.{none-left, none-of-three}

-- as many ticks in all as the names say
same-product : (parts : Parts) (d : Data) → Says parts d → length parts.setup.cabinets.items * parts.setup.rounds * parts.setup.ticks ≡ cabinet_count d * round_count d * tick_count d
same-product parts d says =
    let setup = parts.setup in
    let count : length setup.cabinets.items ≡ cabinet_count d = sym (length-map setup.cabinets.items cabinet_content) ∙ ap length says.setup.cabinets in
    ap₂ (λ (a b : ℕ). a * b) (ap₂ (λ (a b : ℕ). a * b) count says.setup.rounds) says.setup.ticks

pub whole-faultless : (parts : Parts) (d : Data) → Says parts d → named_faults d ≡ []
    → product_faults (length parts.setup.cabinets.items * parts.setup.rounds * parts.setup.ticks) ≡ [] → all_table_faults 1 (map cabinet_content parts.setup.cabinets.items) ≡ [] → faults d ≡ []
whole-faultless parts d says names product tables =
    none-of-three _ _ _ names (subst (λ n. product_faults n ≡ []) (same-product parts d says) product) (subst (λ (cs : List CabinetContent). all_table_faults 1 cs ≡ []) says.setup.cabinets tables)

-- the first fault of the tables is that of the value, where nothing else is at fault
pub tables-refused : (fail : ReadFail) (parts : Parts) (d : Data) → Says parts d → named_faults d ≡ []
    → product_faults (length parts.setup.cabinets.items * parts.setup.rounds * parts.setup.ticks) ≡ []
    → Refuses fail (all_table_faults 1 (map cabinet_content parts.setup.cabinets.items)) → Refuses fail (faults d)
tables-refused fail parts d says names product refused =
    last (named_faults d) (product_faults (cabinet_count d * round_count d * tick_count d)) (all_table_faults 1 (cabinets_of d)) names
    (subst (λ n. product_faults n ≡ []) (same-product parts d says) product) (subst (λ (cs : List CabinetContent). Refuses fail (all_table_faults 1 cs)) says.setup.cabinets refused)
  where
    last : (a b c : List Cause) → a ≡ [] → b ≡ [] → Refuses fail c → Refuses fail (a ++ (b ++ c))
    last a b c p q h = rw (p, q) h

pub whole-content : (parts : Parts) (text : List ℕ) (d : Data) → Says parts d → text ≡ compact_text d → content_from parts text ≡ scenario_of d
whole-content parts text d says is =
    let setup = says.setup in
    let events = says.events in
    rw (says.version, setup.rounds, setup.ticks, setup.community, setup.cabinets, setup.master, events.inputs, events.loads, events.priority, events.frames, events.faults, is) refl

-- a scenario without faults has none at its names, none in its number of ticks, and none in its tables
pub faultless-parts : (d : Data) → faults d ≡ []
    → (named_faults d ≡ []) × (product_faults (cabinet_count d * round_count d * tick_count d) ≡ []) × (all_table_faults 1 (cabinets_of d) ≡ [])
faultless-parts d e =
    let names = none-left (named_faults d)
    (product_faults (cabinet_count d * round_count d * tick_count d) ++ all_table_faults 1 (cabinets_of d)) e in
    let rest = none-left (product_faults (cabinet_count d * round_count d * tick_count d)) (all_table_faults 1 (cabinets_of d)) names.1 in
    (names.0, rest.0, rest.1)
