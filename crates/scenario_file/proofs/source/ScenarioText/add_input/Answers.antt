use Rattle.std.proofs.Common.{refl}
use Rattle.serde_json.specs.View.{view}
use Rattle.scenario_file.proofs.Parts.{added}
use Rattle.scenario_file.proofs.source.ScenarioText.add_input.Goals as goal

pub returns : goal.returns
returns c = λ d plain w.
    let begun = c.in_ok-begin_inputs.ensures in
    added c.begin_inputs.new.self _ d (view c.args.input.now) c.add_value.new.self begun.stand refl refl refl (c.in_ok-add_value.ensures plain) (begun.begun d w)
