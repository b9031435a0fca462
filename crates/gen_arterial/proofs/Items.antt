-- Each object that is written has no fault, and says what it was written for.
use Rattle.std.proofs.Common.{◌≡◌, ℕ, ◌+◌, ◌<◌, ◌≤◌, List, [], ◌∷◌, ◌++◌, length, refl, sym, arith}
use Rattle.std.proofs.lemmas.Bool.{lt-ltb}
use Rattle.std.proofs.lemmas.List.{length_push}
use Rattle.serde_json.specs.Data.{Data}
use Rattle.sig_types.specs.declared.frame.Field.{Field}
use Rattle.sig_types.specs.declared.frame.Field.TheVariants.{Veh, Ped, Preempt}
use Rattle.scenario_data.specs.declared.scenario.Input.{Input}
use Rattle.scenario_data.specs.declared.scenario.Fault.{Fault}
use Rattle.scenario_read.specs.Paths.{Step, then_item}
use Rattle.scenario_read.specs.Kinds.{each_behind}
use Rattle.scenario_read.specs.Fields.{object_of}
use Rattle.scenario_read.specs.Table.{cabinet, input_shape, load, load_shape, load_cabinet, fault_shape, count_of}
use Rattle.scenario_read.specs.Content.{input_of, fault_of}
use Rattle.gen_arterial.specs.Generated.{lost_poll}
use Rattle.gen_arterial.specs.Written.{items_from, cabinet_value, load_value, field_value, input_value, lost_value}
use Rattle.gen_arterial.proofs.Lists.{EachIs, fits}

pub cabinet-none : (offset correction : ℕ) → offset ≤ 255 → 1 ≤ correction → correction ≤ 4 → (steps : List Step) → cabinet 1 steps (cabinet_value offset correction) ≡ []
cabinet-none offset correction h k l steps = rw (fits 0 255 offset (omega arith) h, fits 1 4 correction k l) refl

pub load-object-none : (rounds cabinets round number green : ℕ) → 1 ≤ round → round ≤ rounds → 1 ≤ number → number ≤ cabinets → green ≤ 255
    → (steps : List Step) → object_of (load_shape rounds cabinets) steps (load_value round number green) ≡ []
load-object-none rounds cabinets round number green a b c d e steps =
    rw (fits 1 rounds round a b, fits 1 cabinets number c d, fits 0 255 green (omega arith) e) refl

-- a detector, a push button or a preempt that there is
abbrev pub IsField : Field → Type 0
IsField (Veh phase on) = (1 ≤ phase) × (phase ≤ 16)
IsField (Ped phase) = (1 ≤ phase) × (phase ≤ 16)
IsField (Preempt number on) = (1 ≤ number) × (number ≤ 8)

field-none : (rounds cabinets round number : ℕ) → 1 ≤ round → round ≤ rounds → 1 ≤ number → number ≤ cabinets → (field : Field) → IsField field
    → (steps : List Step) → object_of (input_shape rounds cabinets) steps (field_value round number field) ≡ []
field-none rounds cabinets round number a b c d (Veh phase on) h steps =
    rw (fits 1 rounds round a b, fits 1 cabinets number c d, fits 1 16 phase h.0 h.1) refl
field-none rounds cabinets round number a b c d (Ped phase) h steps =
    rw (fits 1 rounds round a b, fits 1 cabinets number c d, fits 1 16 phase h.0 h.1) refl
field-none rounds cabinets round number a b c d (Preempt i on) h steps =
    rw (fits 1 rounds round a b, fits 1 cabinets number c d, fits 1 8 i h.0 h.1) refl

-- an input of a round and a cabinet that there are
pub record IsInput (rounds cabinets : ℕ) (input : Input) : Type 0 where
  pub late : 1 ≤ input.round
  pub early : input.round ≤ rounds
  pub some : 1 ≤ input.cabinet
  pub few : input.cabinet ≤ cabinets
  pub field : IsField input.field

pub input-none : (rounds cabinets : ℕ) (input : Input) → IsInput rounds cabinets input → (steps : List Step) → object_of (input_shape rounds cabinets) steps (input_value input) ≡ []
input-none rounds cabinets input h steps =
    field-none rounds cabinets input.round input.cabinet h.late h.early h.some h.few input.field h.field steps

-- a lost poll of a round and a cabinet that there are
pub record IsLost (rounds cabinets : ℕ) (fault : Fault) : Type 0 where
  pub late : 1 ≤ fault.round
  pub early : fault.round ≤ rounds
  pub some : 1 ≤ fault.cabinet
  pub few : fault.cabinet ≤ cabinets
  pub lost : fault ≡ lost_poll fault.round fault.cabinet

pub lost-none : (rounds cabinets : ℕ) (fault : Fault) → IsLost rounds cabinets fault → (steps : List Step) → object_of (fault_shape rounds cabinets) steps (lost_value fault) ≡ []
lost-none rounds cabinets fault h steps = rw (fits 1 rounds fault.round h.late h.early, fits 1 cabinets fault.cabinet h.some h.few) refl

-- no cabinet has a hundred loads among fewer
count-most : (n : ℕ) (ns : List ℕ) → count_of n ns ≤ length ns
count-most n [] = omega arith
count-most n (m ∷ ns) = let rest = count-most n ns in grind arith

pub loads-none : (rounds cabinets : ℕ) (path : List Step) (place : ℕ) (earlier : List ℕ) (ds : List Data) → length earlier + length ds ≤ 100
    → EachIs (λ d. (steps : List Step) → object_of (load_shape rounds cabinets) steps d ≡ []) ds
    → each_behind (load rounds cabinets) (load_cabinet cabinets) path place earlier (items_from ds) ≡ []
loads-none rounds cabinets path place earlier [] few clean = refl
loads-none rounds cabinets path place earlier (d ∷ ds) few clean =
    let number : ℕ = load_cabinet cabinets d in
    let most : count_of number earlier < 100 = omega (arith, count-most number earlier) in
    let longer : length (earlier ++ number ∷ []) + length ds ≤ 100 = omega (arith, length_push earlier number) in
    rw (clean.0 (then_item path place), lt-ltb (count_of number earlier) 100 most, loads-none rounds cabinets path (place + 1) (earlier ++ number ∷ []) ds longer clean.1) refl

-- what they say
field-says : (rounds cabinets round number : ℕ) (field : Field) → input_of rounds cabinets (field_value round number field) ≡ record { round = round; cabinet = number; field = field }
field-says rounds cabinets round number (Veh phase on) = refl
field-says rounds cabinets round number (Ped phase) = refl
field-says rounds cabinets round number (Preempt i on) = refl

pub input-says : (rounds cabinets : ℕ) (input : Input) → input_of rounds cabinets (input_value input) ≡ input
input-says rounds cabinets input = field-says rounds cabinets input.round input.cabinet input.field

pub lost-says : (rounds cabinets : ℕ) (fault : Fault) (number : ℕ) → IsLost rounds number fault → fault_of rounds cabinets (lost_value fault) ≡ fault
lost-says rounds cabinets fault number h = sym h.lost
