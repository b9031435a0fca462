-- The inputs of a scenario, by round and cabinet.
use Rattle.std.specs.Prelude.{ℕ, ◌==◌, ◌&&◌, if◌then◌else◌, List, [], ◌∷◌}
use Rattle.sig_types.specs.declared.frame.Field.{Field}
use Rattle.scenario_data.specs.declared.scenario.Input.{Input}

-- the inputs of a cabinet in a round, in the order of the list
abbrev pub inputs_of : ℕ → ℕ → List Input → List Field
inputs_of round cab [] = []
inputs_of round cab (i ∷ inputs) =
    if (i.round == round) && (i.cabinet == cab) then i.field ∷ inputs_of round cab inputs else inputs_of round cab inputs
