-- All that is drawn lies where it may: what happens is of rounds, cabinets and detectors that there are.
use Rattle.std.proofs.Common.{◌≡◌, ℕ, zero, suc, ◌+◌, ◌*◌, ◌<◌, ◌≤◌, ◌==◌, Bool, true, false, if◌then◌else◌, [], ◌∷◌, length, refl, arith, lit≤}
use Rattle.std.proofs.lemmas.List.{length-append}
use Rattle.scenario_data.specs.declared.scenario.Fault.{Fault}
use Rattle.gen_arterial.specs.Draws.{drawn}
use Rattle.gen_arterial.specs.Generated.{loses_poll, lost_poll, button_input, cabinet_inputs, round_inputs, round_faults, round_place, all_inputs, all_faults}
use Rattle.gen_arterial.proofs.Lists.{EachIs, each-append}
use Rattle.gen_arterial.proofs.Items.{IsInput, IsLost}

pub below : (seed place n : ℕ) → 0 < n → drawn seed place n < n
unfolding drawn
below seed place n h = omega arith

-- the button of a cabinet, where it is pressed
button-is : (rounds cabinets round i : ℕ) → 1 ≤ round → round ≤ rounds → i < cabinets → (pressed : Bool) → EachIs (IsInput rounds cabinets) (if pressed then button_input round i ∷ [] else [])
button-is rounds cabinets round i a b c true = (record { late = a; early = b; some = omega arith; few = omega arith; field = (lit≤ tt, lit≤ tt) }, tt)
button-is rounds cabinets round i a b c false = tt

cabinet-is : (rounds cabinets seed round place i : ℕ) → 1 ≤ round → round ≤ rounds → i < cabinets → EachIs (IsInput rounds cabinets) (cabinet_inputs seed round place i)
cabinet-is rounds cabinets seed round place i a b c =
    let small : drawn seed place 8 < 8 = below seed place 8 (omega arith) in (
      record { late = a; early = b; some = omega arith; few = omega arith; field = (omega arith, omega arith) },
      button-is rounds cabinets round i a b c (drawn seed (place + 2) 4 == 0),
    )

round-is : (rounds cabinets seed round place n : ℕ) → 1 ≤ round → round ≤ rounds → n ≤ cabinets → EachIs (IsInput rounds cabinets) (round_inputs seed round place n)
round-is rounds cabinets seed round place zero a b c = tt
round-is rounds cabinets seed round place (suc n) a b c =
    each-append (IsInput rounds cabinets) _ _ (round-is rounds cabinets seed round place n a b (omega arith)) (cabinet-is rounds cabinets seed round (place + 3 * n) n a b (omega arith))

pub inputs-are : (rounds cabinets seed done : ℕ) → done ≤ rounds → EachIs (IsInput rounds cabinets) (all_inputs seed cabinets done)
inputs-are rounds cabinets seed zero h = tt
inputs-are rounds cabinets seed (suc done) h =
    each-append (IsInput rounds cabinets) _ _ (inputs-are rounds cabinets seed done (omega arith))
    (round-is rounds cabinets seed (1 + done) (round_place seed cabinets done) cabinets (omega arith) (omega arith) (omega arith))

lost-is : (rounds cabinets round cabinet : ℕ) → 1 ≤ round → round ≤ rounds → 1 ≤ cabinet → cabinet ≤ cabinets → (lost : Bool) → EachIs (IsLost rounds cabinets) (if lost then lost_poll round cabinet ∷ [] else [])
lost-is rounds cabinets round cabinet a b c d true = (record { late = a; early = b; some = c; few = d; lost = refl }, tt)
lost-is rounds cabinets round cabinet a b c d false = tt

pub faults-are : (rounds cabinets seed done : ℕ) → 1 ≤ cabinets → done ≤ rounds → EachIs (IsLost rounds cabinets) (all_faults seed cabinets done)
faults-are rounds cabinets seed zero k h = tt
faults-are rounds cabinets seed (suc done) k h =
    let place = round_place seed cabinets done + 3 * cabinets in
    let small : drawn seed (place + 1) cabinets < cabinets = below seed (place + 1) cabinets (omega arith) in
    each-append (IsLost rounds cabinets) _ _ (faults-are rounds cabinets seed done k (omega arith))
    (lost-is rounds cabinets (1 + done) (1 + drawn seed (place + 1) cabinets) (omega arith) (omega arith) (omega arith) (omega arith) (loses_poll seed place))

-- there are at most two inputs for each cabinet and round, and one fault for each round
button-few : (round i : ℕ) (pressed : Bool) → length (if pressed then button_input round i ∷ [] else []) ≤ 1
button-few round i true = omega arith
button-few round i false = omega arith

round-few : (seed round place n : ℕ) → length (round_inputs seed round place n) ≤ 2 * n
round-few seed round place zero = omega arith
round-few seed round place (suc n) =
    let before = round-few seed round place n in
    let button = button-few round n (drawn seed (place + 3 * n + 2) 4 == 0) in
    let all : length (round_inputs seed round place (suc n)) ≡ length (round_inputs seed round place n) + length (cabinet_inputs seed round (place + 3 * n) n) = length-append _ _ in
    omega arith

pub inputs-few : (seed cabinets done : ℕ) → length (all_inputs seed cabinets done) ≤ 2 * (cabinets * done)
inputs-few seed cabinets zero = omega arith
inputs-few seed cabinets (suc done) =
    let before = inputs-few seed cabinets done in
    let more = round-few seed (1 + done) (round_place seed cabinets done) cabinets in
    let all : length (all_inputs seed cabinets (suc done)) ≡ length (all_inputs seed cabinets done) + length (round_inputs seed (1 + done) (round_place seed cabinets done) cabinets) = length-append _ _ in
    omega arith

lost-few : (fault : Fault) (lost : Bool) → length (if lost then fault ∷ [] else []) ≤ 1
lost-few fault true = omega arith
lost-few fault false = omega arith

pub faults-few : (seed cabinets done : ℕ) → length (all_faults seed cabinets done) ≤ done
faults-few seed cabinets zero = omega arith
faults-few seed cabinets (suc done) =
    let place = round_place seed cabinets done + 3 * cabinets in
    let before = faults-few seed cabinets done in
    let more = lost-few (lost_poll (1 + done) (1 + drawn seed (place + 1) cabinets)) (loses_poll seed place) in
    let all : length (all_faults seed cabinets (suc done)) ≡ length (all_faults seed cabinets done) + length (round_faults seed cabinets (1 + done) place) = length-append _ _ in
    omega arith
