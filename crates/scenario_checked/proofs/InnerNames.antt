-- No limit of a scenario inside another value is that of the whole.
use Rattle.std.proofs.Common.{ℕ, Bool, true, false, if◌then◌else◌, List, [], ◌∷◌, ◌++◌, map, bytes_eq, codes, arith}
use Rattle.scenario_data.specs.Causes.{Cause, Field as FieldCause, Limit as LimitCause, Broken as BrokenCause}
use Rattle.scenario_read.specs.Faults.{faults}
use Rattle.scenario_read.proofs.Elsewhere.{IsWord, AllElsewhere, Good}
use Rattle.scenario_checked.specs.Inside.{inner_path, inner_cause, inner_scenario}

-- the scenario's faults have their place in the value that holds it
inner-word : (path : List ℕ) → IsWord (inner_path path)
inner-word path = split (bytes_eq path (codes "."))
  where
    split : (b : Bool) → IsWord (if b then codes "scenario" else codes "scenario." ++ path)
    split true = omega arith
    split false = omega arith

inner-elsewhere : (causes : List Cause) → AllElsewhere (map inner_cause causes)
inner-elsewhere [] = tt
inner-elsewhere (FieldCause path ∷ causes) = (tt, inner-elsewhere causes)
inner-elsewhere (LimitCause path ∷ causes) = (inner-word path, inner-elsewhere causes)
inner-elsewhere (BrokenCause cabinet rule row ∷ causes) = (tt, inner-elsewhere causes)

pub inner-good : Good inner_scenario
inner-good path d h = inner-elsewhere (faults d)
