-- Detectors and pulses of rounds and cabinets that there are have no faults.
use Rattle.std.proofs.Common.{◌≡◌, ℕ, ◌+◌, Bool, true, ◌&&◌, nat_le, List, [], ◌∷◌, ◌++◌, refl}
use Rattle.std.specs.List.{list_all}
use Rattle.std.proofs.lemmas.Bool.{and_parts, leb-true}
use Rattle.serde_json.specs.Data.{Data, null, boolean, number, string, array, object, Items, no_items, item}
use Rattle.serde_json.specs.Find.{get}
use Rattle.scenario_read.specs.Paths.{Step, then_item, then_named}
use Rattle.scenario_read.specs.Kinds.{Kind, each}
use Rattle.scenario_read.specs.Fields.{Field, Shape, field_faults, fields_faults, names, known_fields, unknown_faults, object_of}
use Rattle.scenario_read.specs.Table.{round, cabinet_number, phase, on}
use Rattle.scenario_read.specs.Content.{number_at, each_of}
use Rattle.scenario_read.proofs.NoFaults.{none-left, none-both}
use Rattle.scenario_file.proofs.Rounds.{whole-within, one-within}
use Rattle.detector_bank.specs.declared.bank.Detector.{Detector}
use Rattle.detector_bank.specs.declared.bank.Pulse.{Pulse}
use Rattle.field_read.specs.Table.{detector, delay, extend, no_activity, max_presence, erratic, detector_shape, pulse_shape}
use Rattle.field_read.specs.Content.{detector_of, pulse_of}
use Rattle.field_read.specs.Lists.{any_detector, any_pulse}

-- items that say what passes a test are of the kind, where each that does so is
pub each-narrowed : {A : Type 0} (any kind : Kind) (says : Data → A) (test : A → Bool) → ((path : List Step) (d : Data) → any path d ≡ [] → test (says d) ≡ true → kind path d ≡ [])
    → (path : List Step) (place : ℕ) (ds : Items) → each any path place ds ≡ [] → list_all test (each_of says ds) ≡ true → each kind path place ds ≡ []
each-narrowed any kind says test narrow path place no_items e all = refl
each-narrowed any kind says test narrow path place (item d ds) e all =
    let parts = none-left (any (then_item path place) d) (each any path (place + 1) ds) e in
    let tests = and_parts (test (says d)) (list_all test (each_of says ds)) all in
    none-both (kind (then_item path place) d) (each kind path (place + 1) ds) (narrow (then_item path place) d parts.0 tests.0)
    (each-narrowed any kind says test narrow path (place + 1) ds parts.1 tests.1)

-- an item of a cabinet, with these fields more
abbrev cabinet_shape : List Field → ℕ → Shape
cabinet_shape fields cabinets = record { fields = cabinet_number cabinets ∷ fields; alternatives = [] }

cabinet-within : (fields : List Field) (cabinets : ℕ) (path : List Step) (d : Data) → object_of (cabinet_shape fields 64) path d ≡ []
    → nat_le (number_at (cabinet_number 64) d) cabinets ≡ true → object_of (cabinet_shape fields cabinets) path d ≡ []
cabinet-within fields cabinets path null e low = absurd (cc)
cabinet-within fields cabinets path (boolean b) e low = absurd (cc)
cabinet-within fields cabinets path (number n) e low = absurd (cc)
cabinet-within fields cabinets path (string s) e low = absurd (cc)
cabinet-within fields cabinets path (array ds) e low = absurd (cc)
cabinet-within fields cabinets path (object ms) e low =
    let d = object ms in
    let behind = fields_faults path d fields in
    let unknown = unknown_faults (names (known_fields (cabinet_shape fields 64) d)) path ms in
    let a = none-left unknown (fields_faults path d (cabinet_number 64 ∷ fields) ++ []) e in
    let b = none-left (fields_faults path d (cabinet_number 64 ∷ fields)) [] a.1 in
    let f = none-left (field_faults path d (cabinet_number 64)) behind b.0 in
    let first = whole-within 64 cabinets (then_named path (cabinet_number 64).name) (get (cabinet_number 64).name d) f.0 low in
    none-both unknown (fields_faults path d (cabinet_number cabinets ∷ fields) ++ []) a.0
    (none-both (fields_faults path d (cabinet_number cabinets ∷ fields)) [] (none-both (field_faults path d (cabinet_number cabinets)) behind first f.1) refl)

-- a detector is of one of that many cabinets, a pulse of one of that many rounds too
abbrev pub detector_within : ℕ → Detector → Bool
detector_within cabinets d = nat_le d.cabinet cabinets

abbrev pub pulse_within : ℕ → ℕ → Pulse → Bool
pulse_within rounds cabinets p = nat_le p.round rounds && nat_le p.cabinet cabinets

pub detector-narrowed : (cabinets : ℕ) (path : List Step) (d : Data) → any_detector path d ≡ [] → detector_within cabinets (detector_of 64 d) ≡ true → object_of (detector_shape cabinets) path d ≡ []
detector-narrowed cabinets path d e low = cabinet-within (detector ∷ phase ∷ delay ∷ extend ∷ no_activity ∷ max_presence ∷ erratic ∷ []) cabinets path d e low

pub pulse-narrowed : (rounds cabinets : ℕ) (path : List Step) (d : Data) → any_pulse path d ≡ [] → pulse_within rounds cabinets (pulse_of 86400 64 d) ≡ true → object_of (pulse_shape rounds cabinets) path d ≡ []
pulse-narrowed rounds cabinets path d e low =
    let parts = and_parts (nat_le (number_at (round 86400) d) rounds) (nat_le (number_at (cabinet_number 64) d) cabinets) low in
    one-within (detector ∷ on ∷ []) [] rounds cabinets path d e (leb-true _ _ parts.0) (leb-true _ _ parts.1)
