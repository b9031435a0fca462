-- The names at which a field file without faults has its detectors and pulses.
use Rattle.std.proofs.Common.{◌≡◌, ◌≤◌, ◌<◌, ◌+◌, ℕ, zero, suc, List, [], ◌∷◌, length, map, get_or, codes, refl, arith}
use Rattle.serde_json.specs.Data.{Data, Items, no_items, item}
use Rattle.scenario_data.specs.Causes.{Cause}
use Rattle.scenario_read.specs.Paths.{Step, then_named, then_item}
use Rattle.scenario_read.specs.Kinds.{Kind, each, items_in}
use Rattle.scenario_read.specs.Fields.{held, field_faults, object_of}
use Rattle.scenario_read.specs.Table.{needed_whole, number_at}
use Rattle.scenario_read.specs.Content.{each_of}
use Rattle.scenario_read.specs.Faults.{faults}
use Rattle.scenario_read.proofs.NoFaults.{none-left}
use Rattle.scenario_checked.proofs.RangesParts.{whole-in, list-in, held-in, object-in, all-clean, AllClean}
use Rattle.scenario_checked.specs.Inside.{inner_cause, scenario}
use Rattle.scenario_checked.proofs.Around.{few-cabinets}
use Rattle.detector_bank.specs.declared.bank.Detector.{Detector}
use Rattle.detector_bank.specs.declared.bank.Pulse.{Pulse}
use Rattle.field_read.specs.Table.{detector_shape, pulse_shape, bank, pulses, field_shape}
use Rattle.field_read.specs.Content.{detector_of, pulse_of, bank_of, pulses_of, rounds_run, cabinets_run}
use Rattle.field_read.specs.Checks.{named_faults}
use Rattle.field_read.specs.Places.{BankPlaced, PulsesPlaced}

-- what holds of each item without faults holds of each that was read
each-at : {A : Type 0} (kind : Kind) (f : Data → A) (P : A → Type 0) → ((path : List Step) (d : Data) → kind path d ≡ [] → P (f d)) → (path : List Step) (place : ℕ) (ds : Items)
    → each kind path place ds ≡ [] → (k : ℕ) (x : A) → k < length (each_of f ds) → P (get_or (each_of f ds) k x)
each-at kind f P given path place no_items e k x low = absurd (omega (arith, low))
each-at kind f P given path place (item d ds) e zero x low = given (then_item path place) d (none-left (kind (then_item path place) d) (each kind path (place + 1) ds) e).0
each-at kind f P given path place (item d ds) e (suc k) x low =
    each-at kind f P given path (place + 1) ds (none-left (kind (then_item path place) d) (each kind path (place + 1) ds) e).1 k x (omega (arith, low))

pub whole-held : (path : List Step) (d : Data) (name : List ℕ) (least most : ℕ) → field_faults path d (needed_whole name least most) ≡ []
    → (least ≤ number_at (needed_whole name least most) d) × (number_at (needed_whole name least most) d ≤ most)
whole-held path d name least most e = whole-in least most (then_named path name) (held (needed_whole name least most) d) (held-in path d (needed_whole name least most) e)

detector-placed : (cabinets : ℕ) → cabinets ≤ 64 → (path : List Step) (d : Data) → object_of (detector_shape cabinets) path d ≡ []
    → ((detector_of cabinets d).cabinet ≤ 64) × ((detector_of cabinets d).detector ≤ 64)
detector-placed cabinets few path d e =
    let own = all-clean path d (detector_shape cabinets).fields (object-in (detector_shape cabinets) path d e).0 in
    let low : (detector_of cabinets d).cabinet ≤ cabinets = (whole-held path d (codes "cabinet") 1 cabinets own.0).1 in
    (omega (arith, low, few), (whole-held path d (codes "detector") 1 64 own.1.0).1)

pulse-placed : (rounds cabinets : ℕ) → cabinets ≤ 64 → (path : List Step) (d : Data) → object_of (pulse_shape rounds cabinets) path d ≡ []
    → ((pulse_of rounds cabinets d).cabinet ≤ 64) × ((pulse_of rounds cabinets d).detector ≤ 64)
pulse-placed rounds cabinets few path d e =
    let own = all-clean path d (pulse_shape rounds cabinets).fields (object-in (pulse_shape rounds cabinets) path d e).0 in
    let low : (pulse_of rounds cabinets d).cabinet ≤ cabinets = (whole-held path d (codes "cabinet") 1 cabinets own.1.0).1 in
    (omega (arith, low, few), (whole-held path d (codes "detector") 1 64 own.1.1.0).1)

pub none-mapped : (causes : List Cause) → map inner_cause causes ≡ [] → causes ≡ []
none-mapped [] e = refl
none-mapped (c ∷ causes) e = absurd (cc)

pub named-clean : (d : Data) → named_faults d ≡ [] → AllClean [] d (field_shape (rounds_run d) (cabinets_run d)).fields
named-clean d e =
    let shape = field_shape (rounds_run d) (cabinets_run d) in
    all-clean [] d shape.fields (object-in shape [] d e).0

pub few-run : (d : Data) → named_faults d ≡ [] → cabinets_run d ≤ 64
few-run d e = few-cabinets (held scenario d) (none-mapped (faults (held scenario d)) (held-in [] d scenario (named-clean d e).0))

pub bank-placed : (d : Data) → named_faults d ≡ [] → BankPlaced (bank_of (cabinets_run d) d)
bank-placed d e =
    let c = cabinets_run d in
    let clean = list-in 0 512 (object_of (detector_shape c)) (then_named [] (bank c).name) (held (bank c) d) (held-in [] d (bank c) (named-clean d e).1.0) in
    each-at (object_of (detector_shape c)) (detector_of c) (λ (x : Detector). (x.cabinet ≤ 64) × (x.detector ≤ 64)) (detector-placed c (few-run d e))
    (then_named [] (bank c).name) 0 (items_in (held (bank c) d)) clean.2

pub pulses-placed : (d : Data) → named_faults d ≡ [] → PulsesPlaced (pulses_of (rounds_run d) (cabinets_run d) d)
pulses-placed d e =
    let r = rounds_run d in
    let c = cabinets_run d in
    let clean = list-in 0 1000000 (object_of (pulse_shape r c)) (then_named [] (pulses r c).name) (held (pulses r c) d) (held-in [] d (pulses r c) (named-clean d e).1.1.0) in
    each-at (object_of (pulse_shape r c)) (pulse_of r c) (λ (x : Pulse). (x.cabinet ≤ 64) × (x.detector ≤ 64)) (pulse-placed r c (few-run d e))
    (then_named [] (pulses r c).name) 0 (items_in (held (pulses r c) d)) clean.2
