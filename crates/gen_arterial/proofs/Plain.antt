-- The generated value holds no float, and is not deep: so its text is known, and read again.
use Rattle.std.proofs.Common.{◌≡◌, ℕ, ◌+◌, ◌≤◌, max, Bool, false, ◌||◌, List, [], ◌∷◌, map, suc, refl, arith}
use Rattle.serde_json.specs.Data.{Data, depth, items_depth}
use Rattle.serde_json.specs.Written.{has_float, items_have_float}
use Rattle.sig_types.specs.declared.frame.Field.{Field}
use Rattle.sig_types.specs.declared.frame.Field.TheVariants.{Veh, Ped, Preempt}
use Rattle.scenario_data.specs.declared.scenario.Input.{Input}
use Rattle.scenario_data.specs.declared.scenario.Fault.{Fault}
use Rattle.gen_arterial.specs.Generated.{each_below, offset, correction, load_round, load_maximum, all_inputs, all_faults}
use Rattle.gen_arterial.specs.Written.{items_from, cabinet_value, load_value, field_value, input_value, lost_value, scenario_value}
use Rattle.gen_arterial.proofs.Lists.{EachIs, each-any, each-map, each-below}

-- no float, and at most three deep
pub record IsPlain (d : Data) : Type 0 where
  pub floatless : has_float d ≡ false
  pub shallow : depth d ≤ 3

field-plain : (round number : ℕ) (field : Field) → IsPlain (field_value round number field)
field-plain round number (Veh phase on) = record { floatless = refl; shallow = omega arith }
field-plain round number (Ped phase) = record { floatless = refl; shallow = omega arith }
field-plain round number (Preempt i on) = record { floatless = refl; shallow = omega arith }

items-floatless : (ds : List Data) → EachIs IsPlain ds → items_have_float (items_from ds) ≡ false
items-floatless [] h = refl
items-floatless (d ∷ ds) h = rw (h.0.floatless, items-floatless ds h.1) refl

items-shallow : (ds : List Data) → EachIs IsPlain ds → items_depth (items_from ds) ≤ 3
items-shallow [] h = omega arith
items-shallow (d ∷ ds) h =
    let own : depth d ≤ 3 = h.0.shallow in
    let rest : items_depth (items_from ds) ≤ 3 = items-shallow ds h.1 in
    omega arith

cabinets-plain : (seed cabinets : ℕ) → EachIs IsPlain (each_below (λ i. cabinet_value (offset seed i) (correction seed i)) cabinets)
cabinets-plain seed cabinets = each-below (λ i. cabinet_value (offset seed i) (correction seed i)) IsPlain cabinets (λ i _. record { floatless = refl; shallow = omega arith })

loads-plain : (seed cabinets rounds : ℕ) → EachIs IsPlain (each_below (λ i. load_value (load_round seed rounds i) (1 + i) (load_maximum seed i)) cabinets)
loads-plain seed cabinets rounds =
    each-below (λ i. load_value (load_round seed rounds i) (1 + i) (load_maximum seed i)) IsPlain cabinets (λ i _. record { floatless = refl; shallow = omega arith })

inputs-plain : (inputs : List Input) → EachIs IsPlain (map input_value inputs)
inputs-plain inputs = each-map input_value (λ _. Unit {0}) IsPlain (λ input _. field-plain input.round input.cabinet input.field) inputs (each-any inputs)

faults-plain : (faults : List Fault) → EachIs IsPlain (map lost_value faults)
faults-plain faults = each-map lost_value (λ _. Unit {0}) IsPlain (λ fault _. record { floatless = refl; shallow = omega arith }) faults (each-any faults)

none-of-four : (a b c d : Bool) → a ≡ false → b ≡ false → c ≡ false → d ≡ false → (a || (b || (c || (d || false)))) ≡ false
none-of-four a b c d p q r s = rw (p, q, r, s) refl

deepest : (a b c d : ℕ) → a ≤ 3 → b ≤ 3 → c ≤ 3 → d ≤ 3 → suc (max (suc a) (max (suc b) (max (suc c) (max (suc d) 3)))) ≤ 127
deepest a b c d p q r s = omega arith

pub value-floatless : (seed cabinets rounds : ℕ) → has_float (scenario_value seed cabinets rounds) ≡ false
value-floatless seed cabinets rounds =
    none-of-four _ _ _ _ (items-floatless _ (cabinets-plain seed cabinets)) (items-floatless _ (faults-plain (all_faults seed cabinets rounds)))
    (items-floatless _ (inputs-plain (all_inputs seed cabinets rounds))) (items-floatless _ (loads-plain seed cabinets rounds))

pub value-shallow : (seed cabinets rounds : ℕ) → depth (scenario_value seed cabinets rounds) ≤ 127
value-shallow seed cabinets rounds =
    deepest _ _ _ _ (items-shallow _ (cabinets-plain seed cabinets)) (items-shallow _ (faults-plain (all_faults seed cabinets rounds)))
    (items-shallow _ (inputs-plain (all_inputs seed cabinets rounds))) (items-shallow _ (loads-plain seed cabinets rounds))
